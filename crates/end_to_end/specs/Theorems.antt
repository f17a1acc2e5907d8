-- Demand 3, stated of what the functions return: an outcome, lists and verdicts that are what the contracts of `prove`
-- and `judge` say they are. The numbers of a call are 64-bit numbers, so that `Elements` holds of its run.
-- proofs/Theorems.antt has the values; `prove_and_judge` calls both functions, `prove_write_and_judge` calls `prove`,
-- `write` and the judge over bytes.
use Rattle.std.specs.Prelude.{◌≡◌, List, ℕ, ◌*◌, ◌-◌, ◌^◌, ◌<◌, length}
use Rattle.poly.specs.Polynomial.{All}
use Rattle.std.specs.Prelude.{Ok}
use Rattle.refusal.specs.Outcome.{Outcome}
use Rattle.fri.specs.declared.Verdict.{Verdict}
use Rattle.fri.specs.Layout.{last_count, store_length}
use Rattle.fri.specs.Run.{Run, steps_in, rounds_in, step_in}
use Rattle.fri.specs.Judge.{verdict_of}
use Rattle.transcript.specs.Judge.{transcript_verdict}
use Rattle.written.specs.Transcript.{transcript_length}
use Rattle.prover.specs.Proved.{Proved}
use Rattle.writer.specs.Written.{Written}
use Rattle.fri.specs.Demand.{ValidCoset, ProverInput, LowDegree, ValidQueries, Apart, Any, Visits, Elements, Sound}

-- a word of low degree over a valid coset, any challenges, two lent lists of the lengths due, and a valid query list
-- in which no two queries share a first-layer coset
pub record Honest (run : Run) (queries : List ℕ) : Type 0 where
  pub coset : ValidCoset run
  pub input : ProverInput run
  pub low : LowDegree run
  pub store_fits : length run.store ≡ store_length run.k (steps_in run)
  pub last_fits : length run.last ≡ last_count run.k run.rate (steps_in run)
  pub queries_valid : ValidQueries run.k queries
  pub queries_apart : Apart (step_in run 0) queries

-- accepted, with queries · r · 2^η entries read
abbrev pub accepted : (run : Run) (queries : List ℕ) → Verdict
accepted run queries = record { answer = Ok tt; reads = length queries * rounds_in run * 2 ^ run.step }

-- the run with these lists in the place of its store and its last coefficients
abbrev pub leaving : (run : Run) (store last : List ℕ) → Run
leaving run store last =
    record {
      k = run.k;
      rate = run.rate;
      step = run.step;
      offset = run.offset;
      basis = run.basis;
      challenges = run.challenges;
      word = run.word;
      store = store;
      last = last;
    }

-- demand 3, first half: what `prove` leaves of a word of low degree is accepted by `judge`
abbrev pub ProvedIsAccepted : Type 0
ProvedIsAccepted =
    (run : Run) (queries : List ℕ) (outcome : Outcome) (store last : List ℕ) (verdict : Verdict)
    → Honest run queries → Proved run outcome store last → verdict ≡ verdict_of (leaving run store last) queries
    → (outcome ≡ Ok tt) × (verdict ≡ accepted run queries)

-- the same through bytes: `write` puts what `prove` leaves of such a word into as many bytes as are needed, and these
-- are accepted
abbrev pub WrittenIsAccepted : Type 0
WrittenIsAccepted =
    (run : Run) (queries held : List ℕ) (proved written : Outcome) (store last bytes : List ℕ) (verdict : Verdict)
    → Honest run queries → length held ≡ transcript_length run.k run.rate (steps_in run) (length queries)
    → Proved run proved store last → Written (leaving run store last) queries held written bytes
    → verdict ≡ transcript_verdict bytes
    → (proved ≡ Ok tt) × (written ≡ Ok tt) × (verdict ≡ accepted run queries)

-- a query list and the verdict on it
pub record Judging : Type 0 where
  pub queries : List ℕ
  pub verdict : Verdict

-- the contract of `judge`: the verdict is that of the definition
abbrev pub Judged : (run : Run) (judging : Judging) → Type 0
Judged run judging = judging.verdict ≡ verdict_of run judging.queries

-- the accepted ones together visit every first-layer coset
abbrev pub VisitedByAccepted : (run : Run) (judgings : List Judging) → Type 0
VisitedByAccepted run judgings =
    (coset : ℕ) → coset < 2 ^ (run.k - step_in run 0)
    → Any (λ judging. (judging.verdict.answer ≡ Ok tt) × Visits run judging.queries coset) judgings

-- demand 3, second half: one claim over any list of judgings of the same layers from anybody
abbrev pub JudgedSoundness : Type 0
JudgedSoundness =
    (run : Run) (judgings : List Judging)
    → Elements run → All (Judged run) judgings → VisitedByAccepted run judgings → Sound run
