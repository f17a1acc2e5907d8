-- The promises of prover and judge together, and of prover, writer and judge over bytes, in named parts.
use Rattle.std.specs.Prelude.{◌≡◌, List, ℕ, length}
use Rattle.std.specs.Prelude.{Ok}
use Rattle.fri.specs.Run.{Run, steps_in}
use Rattle.fri.specs.Judge.{verdict_of}
use Rattle.transcript.specs.Judge.{transcript_verdict}
use Rattle.written.specs.Transcript.{transcript_length}
use Rattle.prover.specs.Proved.{Proved}
use Rattle.writer.specs.Written.{Written}
use Rattle.end_to_end.specs.declared.ProvedAndJudged.{ProvedAndJudged}
use Rattle.end_to_end.specs.declared.ProvedWrittenJudged.{ProvedWrittenJudged}
use Rattle.end_to_end.specs.Theorems.{leaving, Honest, accepted}

-- what is answered on a run with these queries, and what is left in the two lent lists
pub record ProvedThenJudged (run : Run) (queries : List ℕ) (r : ProvedAndJudged)
    (stored coefficients : List ℕ) : Type 0 where
  -- the prover's answer and both lists
  pub proved : Proved run r.outcome stored coefficients
  -- the judge's verdict on what the lists hold then
  pub verdict : r.verdict ≡ verdict_of (leaving run stored coefficients) queries
  -- where the input is honest it is proved and accepted
  pub accepts : Honest run queries → (r.outcome ≡ Ok tt) × (r.verdict ≡ accepted run queries)

-- what is answered on a run with these queries and a list of bytes that held this, and what is left in the three lent
-- lists
pub record ProvedThenWritten (run : Run) (queries held : List ℕ) (r : ProvedWrittenJudged)
    (stored coefficients bytes : List ℕ) : Type 0 where
  -- the prover's answer and both of its lists
  pub proved : Proved run r.proved stored coefficients
  -- the writer's answer on what these hold then, and the bytes
  pub written : Written (leaving run stored coefficients) queries held r.written bytes
  -- the verdict of the judge over bytes on what the bytes are then
  pub verdict : r.verdict ≡ transcript_verdict bytes
  -- where the input is honest and the bytes are as many as are needed, it is proved, written and accepted
  pub accepts : Honest run queries → length held ≡ transcript_length run.k run.rate (steps_in run) (length queries)
      → (r.proved ≡ Ok tt) × (r.written ≡ Ok tt) × (r.verdict ≡ accepted run queries)
