-- What the writer answers, and what the lent list of bytes, list 8, holds afterwards.
use Rattle.std.specs.Prelude.{List, ℕ, eqb, length}
use Rattle.refusal.specs.declared.Cause.TheVariants.{WrongLength}
use Rattle.refusal.specs.declared.Lent.TheVariants as lent
use Rattle.std.specs.Prelude.{Ok}
use Rattle.refusal.specs.Outcome.{Outcome}
use Rattle.refusal.specs.Checks.{refused_unless, and_then, afterwards}
use Rattle.coset.specs.Answers.{basis_outcome}
use Rattle.fri.specs.Run.{Run, step_in}
use Rattle.fri.specs.Checks.{parameters_outcome, lengths_outcome, queries_outcome}
use Rattle.written.specs.Transcript.{transcript_of}

-- list 8 has exactly the needed length (13)
abbrev pub size_outcome : (run : Run) (queries : List ℕ) (size : ℕ) → Outcome
size_outcome run queries size = refused_unless (eqb size (length (transcript_of run queries))) (WrongLength lent.Bytes) (Ok tt)

-- the checks as over lists, without number 11: numbers 4, 5, 6, 7, 13 (lists 1 to 5, then list 8), 8, 9, 10, 17;
-- `size` is the length of list 8
abbrev pub write_outcome : (run : Run) (queries : List ℕ) (size : ℕ) → Outcome
write_outcome run queries size =
    and_then (parameters_outcome run.k run.rate run.step)
    (and_then (lengths_outcome run)
    (and_then (size_outcome run queries size)
    (and_then (basis_outcome run.basis) (queries_outcome run.k (step_in run 0) queries))))

-- list 8: the transcript, or, after a refusal, what it held
abbrev pub bytes_after : (run : Run) (queries held : List ℕ) → List ℕ
bytes_after run queries held = afterwards (write_outcome run queries (length held)) (transcript_of run queries) held
