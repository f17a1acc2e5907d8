-- The length told is the one that the writer asks for. Assumes nothing.
use mathlib.Core.Path.{◌≡◌, refl, sym, ap, ap₂, ◌∙◌}
use mathlib.Core.Bool.{Bool, cond}
use Prim.Native.Nat.{ℕ, ◌^◌}
use lib.ListN.{length}
use borrow.Author.Tests.{lt-ltb}
use Rattle.std.specs.Prelude.{Ok, Err}
use Rattle.refusal.specs.Outcome.{Outcome}
use Rattle.refusal.specs.Checks.{and_then}
use Rattle.fri.specs.Run.{Run, steps_in}
use Rattle.fri.specs.Checks.{parameters_outcome, lengths_outcome}
use Rattle.fri.specs.Judge.{checks_outcome}
use Rattle.layout.specs.Parameters.{run_of}
use Rattle.written.specs.Transcript.{transcript_length}
use Rattle.written.specs.Writer.{write_outcome}
use Rattle.written.proofs.Writer.{writer_refusals}
use Rattle.writer.specs.Lengths.{or_zero, transcript_length_of}
use Rattle.writer.specs.Theorems.{LengthTold}

pub length_told : LengthTold
length_told p offset basis challenges queries word store last few = by parameters refl
  where
    run : Run
    run = run_of p offset basis challenges word store last

    parameters : Outcome
    parameters = parameters_outcome p.k p.rate p.step

    due : ℕ
    due = transcript_length p.k p.rate (steps_in run) (length queries)

    told : Outcome → Bool → ℕ
    told outcome test = or_zero outcome (cond test due 0)

    by : (o : Outcome) → parameters ≡ o
        → write_outcome run queries (transcript_length_of p (length queries)) ≡ checks_outcome run queries
    by (Ok _) e =
        ap (write_outcome run queries) (ap₂ told e (lt-ltb (length queries) (2 ^ 60) few))
        ∙ writer_refusals.as_lists run queries
    by (Err cause) e =
        let before = ap (λ (o : Outcome). and_then o (lengths_outcome run)) e in
        writer_refusals.earlier run queries (transcript_length_of p (length queries)) cause before
        ∙ sym (writer_refusals.earlier run queries due cause before) ∙ writer_refusals.as_lists run queries
