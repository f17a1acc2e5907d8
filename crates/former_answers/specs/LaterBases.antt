-- The check that 02, Q-7, took out, of the bases of the later layers, and that everything answers as it did with it.
-- Its number, 16, is retired and has no cause any more: what is said holds whatever `cause` the check gave.
use Rattle.std.specs.Prelude.{◌≡◌, List, ℕ, zero, suc, ◌+◌, length}
use Rattle.refusal.specs.declared.Cause.{Cause}
use Rattle.std.specs.Prelude.{Option, Some, None, Ok, Err}
use Rattle.refusal.specs.Outcome.{Outcome}
use Rattle.refusal.specs.Checks.{and_then, afterwards}
use Rattle.gf64.specs.Field.{IsElement}
use Rattle.poly.specs.Polynomial.{All}
use Rattle.coset.specs.Span.{first_dependent}
use Rattle.coset.specs.Subspace.{next_offset, next_basis}
use Rattle.coset.specs.Answers.{basis_outcome}
use Rattle.fold.specs.Fold.{folded}
use Rattle.fold.specs.Answers.{fold_ranges_outcome, fold_lengths_outcome, folded_of}
use Rattle.fold.specs.Answers.{fold_answer, fold_values_after, next_basis_after}
use Rattle.fri.specs.declared.Verdict.{Verdict}
use Rattle.fri.specs.Run.{Run, steps_in, step_in}
use Rattle.fri.specs.Layers.{layer_basis, honest_store, honest_last}
use Rattle.fri.specs.Checks.{parameters_outcome, lengths_outcome, queries_outcome}
use Rattle.fri.specs.Prover.{degree_outcome, prove_outcome, store_after, last_after}
use Rattle.fri.specs.Rounds.{rounds_outcome}
use Rattle.fri.specs.Reads.{entries_read}
use Rattle.fri.specs.Judge.{reads_after, verdict_of}
use Rattle.transcript.specs.Numerals.{AreBytes}
use Rattle.transcript.specs.Sections.{transcript_k, transcript_steps, run_in, queries_in}
use Rattle.transcript.specs.Checks.{due_outcome, parameters_section, challenges_section, queries_section, layers_outcome}
use Rattle.transcript.specs.Judge.{transcript_verdict}
use Rattle.written.specs.Transcript.{transcript_of}
use Rattle.written.specs.Writer.{size_outcome, write_outcome, bytes_after}

-- a dependent basis of a later layer was refused
abbrev pub outcome_of_later_basis : (cause : Cause) (dependent : Option ℕ) → Outcome
outcome_of_later_basis cause (Some place) = Err cause
outcome_of_later_basis cause None = Ok tt

-- the check that was taken out: the bases of the layers after layer `round`, `left` of them, each with the cause of the
-- round whose fold gives that layer
unfoldable pub later_bases_outcome : (cause : (round : ℕ) → Cause) (steps basis : List ℕ) (round left : ℕ) → Outcome
later_bases_outcome cause steps basis round zero = Ok tt
later_bases_outcome cause steps basis round (suc left) =
    and_then (outcome_of_later_basis (cause round) (first_dependent (layer_basis steps basis (suc round))))
    (later_bases_outcome cause steps basis (suc round) left)

-- where the basis is checked now (8), the basis and those of layers 1 to r were
abbrev pub former_bases_outcome : (cause : (round : ℕ) → Cause) (steps basis : List ℕ) → Outcome
former_bases_outcome cause steps basis =
    and_then (basis_outcome basis) (later_bases_outcome cause steps basis 0 (length steps))

-- in a lone fold, which is round 0 by itself, the basis and the next one
abbrev pub former_fold_outcome : (cause : (round : ℕ) → Cause) (k step : ℕ) (basis word values next : List ℕ) → Outcome
former_fold_outcome cause k step basis word values next =
    and_then (fold_ranges_outcome k step)
    (and_then (fold_lengths_outcome k step (length basis) (length word) (length values) (length next))
    (and_then (basis_outcome basis) (outcome_of_later_basis (cause 0) (first_dependent (next_basis step basis)))))

-- the checks that prover and judge have in common
abbrev pub former_run_outcome : (cause : (round : ℕ) → Cause) (run : Run) → Outcome
former_run_outcome cause run =
    and_then (parameters_outcome run.k run.rate run.step)
    (and_then (lengths_outcome run) (former_bases_outcome cause (steps_in run) run.basis))

-- the prover's
abbrev pub former_prove_outcome : (cause : (round : ℕ) → Cause) (run : Run) → Outcome
former_prove_outcome cause run = and_then (former_run_outcome cause run) (degree_outcome run)

-- the writer's
abbrev pub former_write_outcome : (cause : (round : ℕ) → Cause) (run : Run) (queries : List ℕ) (size : ℕ) → Outcome
former_write_outcome cause run queries size =
    and_then (parameters_outcome run.k run.rate run.step)
    (and_then (lengths_outcome run)
    (and_then (size_outcome run queries size)
    (and_then (former_bases_outcome cause (steps_in run) run.basis) (queries_outcome run.k (step_in run 0) queries))))

-- those of a transcript's sections
abbrev pub former_transcript_outcome : (cause : (round : ℕ) → Cause) (bytes : List ℕ) → Outcome
former_transcript_outcome cause bytes =
    and_then
    (and_then (parameters_section bytes)
    (and_then
    (and_then (due_outcome bytes 2 (transcript_k bytes + 1))
    (former_bases_outcome cause (transcript_steps bytes) (run_in bytes).basis))
    (and_then (challenges_section bytes) (queries_section bytes))))
    (layers_outcome bytes)

-- the verdict on a run after some checks: the round checks, with the entries read
abbrev pub verdict_after : (checks : Outcome) (run : Run) (queries : List ℕ) → Verdict
verdict_after checks run queries =
    record {
      answer = and_then checks (rounds_outcome run queries 0);
      reads = reads_after checks (entries_read run queries);
    }

-- the check that was taken out
pub record RemovedCheck : Type 0 where
  -- it was one: a dependent basis of layer round + 1 was refused with the cause of that round
  pub refused : (cause : (round : ℕ) → Cause) (steps basis : List ℕ) (round left place : ℕ)
      → first_dependent (layer_basis steps basis (suc round)) ≡ Some place
      → later_bases_outcome cause steps basis round (suc left) ≡ Err (cause round)
  -- and was always `Done` where the check of the basis (8) had passed, in a run and in a lone fold
  pub done : (cause : (round : ℕ) → Cause) (steps basis : List ℕ) (round left : ℕ) → All IsElement basis
      → basis_outcome basis ≡ Ok tt → later_bases_outcome cause steps basis round left ≡ Ok tt
  pub done_in_fold : (cause : Cause) (step : ℕ) (basis : List ℕ) → All IsElement basis → basis_outcome basis ≡ Ok tt
      → outcome_of_later_basis cause (first_dependent (next_basis step basis)) ≡ Ok tt

-- so that everything else answers as it did, and leaves in lent lists what it left; sheets and the programs' answers
-- were made of `transcript_verdict` by their definitions (of `judge` see LongInputs)
pub record AnswersAsBefore : Type 0 where
  pub fold : (cause : (round : ℕ) → Cause) (k step offset : ℕ) (basis word : List ℕ) (x : ℕ) (values next : List ℕ)
      → All IsElement basis
      → (let former = former_fold_outcome cause k step basis word values next in
      (fold_answer k step offset basis word values next ≡ folded_of former (next_offset step offset basis))
      × (fold_values_after k step offset basis word x values next
      ≡ afterwards former (folded step offset basis word x) values)
      × (next_basis_after k step basis word values next ≡ afterwards former (next_basis step basis) next))
  pub prove : (cause : (round : ℕ) → Cause) (run : Run) → All IsElement run.basis
      → (prove_outcome run ≡ former_prove_outcome cause run)
      × (store_after run ≡ afterwards (former_run_outcome cause run) (honest_store run) run.store)
      × (last_after run ≡ afterwards (former_prove_outcome cause run) (honest_last run) run.last)
  pub judge : (cause : (round : ℕ) → Cause) (run : Run) (queries : List ℕ) → All IsElement run.basis
      → verdict_of run queries
      ≡ verdict_after (and_then (former_run_outcome cause run) (queries_outcome run.k (step_in run 0) queries)) run queries
  pub write : (cause : (round : ℕ) → Cause) (run : Run) (queries held : List ℕ) → All IsElement run.basis
      → (let former = former_write_outcome cause run queries (length held) in
      (write_outcome run queries (length held) ≡ former)
      × (bytes_after run queries held ≡ afterwards former (transcript_of run queries) held))
  pub transcript : (cause : (round : ℕ) → Cause) (bytes : List ℕ) → AreBytes bytes
      → transcript_verdict bytes ≡ verdict_after (former_transcript_outcome cause bytes) (run_in bytes) (queries_in bytes)
