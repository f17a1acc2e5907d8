-- The statements of specs/LaterBases.antt, proved: after an independent basis every later one is independent, and after
-- a dependent one nothing more was looked at. Assumes nothing.
use mathlib.Core.Path.{◌≡◌, refl, sym, ap, ◌∙◌}
use mathlib.Core.List.{List}
use Prim.Native.Nat.{ℕ, zero, suc, ◌+◌}
use lib.ListN.{length}
use Rattle.refusal.specs.declared.Cause.{Cause}
use Rattle.std.specs.Prelude.{Option, Some, None, Ok, Err}
use Rattle.refusal.specs.Outcome.{Outcome}
use Rattle.refusal.specs.Checks.{and_then, afterwards}
use Rattle.refusal.proofs.Checks.{then_passed, then_refused}
use Rattle.gf64.specs.Field.{IsElement}
use Rattle.poly.specs.Polynomial.{All}
use Rattle.coset.specs.Span.{first_dependent}
use Rattle.coset.specs.Subspace.{next_offset, next_basis}
use Rattle.coset.specs.Answers.{outcome_of_basis, basis_outcome}
use Rattle.coset.proofs.Independence.{independent_of}
use Rattle.coset.proofs.Subspace.{next_independent}
use Rattle.fold.specs.Fold.{folded}
use Rattle.fold.specs.Answers.{fold_ranges_outcome, fold_lengths_outcome, fold_outcome, folded_of}
use Rattle.fri.specs.Run.{Run, steps_in, step_in}
use Rattle.fri.specs.Layers.{layer_basis, honest_store, honest_last}
use Rattle.fri.specs.Checks.{parameters_outcome, lengths_outcome, run_outcome, queries_outcome}
use Rattle.fri.specs.Prover.{degree_outcome}
use Rattle.fri.proofs.Cosets.{later_independent}
use Rattle.transcript.specs.Numerals.{AreBytes}
use Rattle.transcript.specs.Sections.{transcript_k, transcript_steps, run_in, queries_in}
use Rattle.transcript.specs.Checks.{due_outcome, parameters_section, challenges_section, queries_section, layers_outcome}
use Rattle.transcript.specs.Judge.{transcript_verdict}
use Rattle.transcript.proofs.Sections.{run_fits}
use Rattle.written.specs.Transcript.{transcript_of}
use Rattle.written.specs.Writer.{size_outcome, write_outcome}
use Rattle.former_answers.specs.LaterBases.{outcome_of_later_basis, later_bases_outcome, former_bases_outcome}
use Rattle.former_answers.specs.LaterBases.{former_fold_outcome, former_run_outcome, former_write_outcome}
use Rattle.former_answers.specs.LaterBases.{former_transcript_outcome, verdict_after, RemovedCheck, AnswersAsBefore}

-- a check that is done where the basis has passed changes nothing behind the check of the basis
same : (basis : List ℕ) (later : Outcome) → (basis_outcome basis ≡ Ok tt → later ≡ Ok tt)
    → basis_outcome basis ≡ and_then (basis_outcome basis) later
same basis later done = by (first_dependent basis) refl
  where
    by : (p : Option ℕ) → first_dependent basis ≡ p → outcome_of_basis p ≡ and_then (outcome_of_basis p) later
    by (Some place) e = refl
    by None e = sym (done (ap outcome_of_basis e))

next_done : (cause : Cause) (step : ℕ) (basis : List ℕ) → All IsElement basis → basis_outcome basis ≡ Ok tt
    → outcome_of_later_basis cause (first_dependent (next_basis step basis)) ≡ Ok tt
next_done cause step basis h passed =
    ap (outcome_of_later_basis cause) (next_independent step basis h (independent_of basis passed))

module _ (cause : (round : ℕ) → Cause) where
  abbrev later : (steps basis : List ℕ) (round : ℕ) → Outcome
  later steps basis round =
      outcome_of_later_basis (cause round) (first_dependent (layer_basis steps basis (suc round)))

  later_refused : (steps basis : List ℕ) (round left place : ℕ)
      → first_dependent (layer_basis steps basis (suc round)) ≡ Some place
      → later_bases_outcome cause steps basis round (suc left) ≡ Err (cause round)
  unfolding later_bases_outcome
  later_refused steps basis round left place e =
      sym (then_refused (later steps basis round) (later_bases_outcome cause steps basis (suc round) left) (cause round)
      (ap (outcome_of_later_basis (cause round)) e))

  later_done : (steps basis : List ℕ) (round left : ℕ) → All IsElement basis → basis_outcome basis ≡ Ok tt
      → later_bases_outcome cause steps basis round left ≡ Ok tt
  unfolding later_bases_outcome
  later_done steps basis round zero h passed = refl
  later_done steps basis round (suc left) h passed =
      sym (then_passed (later steps basis round) (later_bases_outcome cause steps basis (suc round) left)
      (ap (outcome_of_later_basis (cause round))
      (later_independent steps basis h (independent_of basis passed) (suc round))))
      ∙ later_done steps basis (suc round) left h passed

  bases_same : (steps basis : List ℕ) → All IsElement basis → basis_outcome basis ≡ former_bases_outcome cause steps basis
  bases_same steps basis h =
      same basis (later_bases_outcome cause steps basis 0 (length steps)) (later_done steps basis 0 (length steps) h)

  fold_same : (k step : ℕ) (basis word values next : List ℕ) → All IsElement basis
      → fold_outcome k step basis word values next ≡ former_fold_outcome cause k step basis word values next
  fold_same k step basis word values next h =
      let lengths = fold_lengths_outcome k step (length basis) (length word) (length values) (length next) in
      ap (λ (o : Outcome). and_then (fold_ranges_outcome k step) (and_then lengths o))
      (same basis (outcome_of_later_basis (cause 0) (first_dependent (next_basis step basis)))
      (next_done (cause 0) step basis h))

  module _ (run : Run) (h : All IsElement run.basis) where
    abbrev parameters : Outcome
    parameters = parameters_outcome run.k run.rate run.step

    run_same : run_outcome run ≡ former_run_outcome cause run
    run_same =
        ap (λ (o : Outcome). and_then parameters (and_then (lengths_outcome run) o))
        (bases_same (steps_in run) run.basis h)

    write_same : (queries : List ℕ) (size : ℕ)
        → write_outcome run queries size ≡ former_write_outcome cause run queries size
    write_same queries size =
        ap (λ (o : Outcome). and_then parameters (and_then (lengths_outcome run)
        (and_then (size_outcome run queries size) (and_then o (queries_outcome run.k (step_in run 0) queries)))))
        (bases_same (steps_in run) run.basis h)

  transcript_same : (bytes : List ℕ) → AreBytes bytes
      → transcript_verdict bytes ≡ verdict_after (former_transcript_outcome cause bytes) (run_in bytes) (queries_in bytes)
  unfolding transcript_verdict
  transcript_same bytes h =
      let lists = and_then (challenges_section bytes) (queries_section bytes) in
      ap (λ (o : Outcome). verdict_after
      (and_then (and_then (parameters_section bytes)
      (and_then (and_then (due_outcome bytes 2 (transcript_k bytes + 1)) o) lists)) (layers_outcome bytes))
      (run_in bytes) (queries_in bytes))
      (bases_same (transcript_steps bytes) (run_in bytes).basis (run_fits bytes h).basis)

pub removed_check : RemovedCheck
removed_check = record { refused = later_refused; done = later_done; done_in_fold = next_done }

pub answers_as_before : AnswersAsBefore
answers_as_before =
    record {
      fold = λ cause k step offset basis word x values next h.
          let e = fold_same cause k step basis word values next h in (
            ap (λ (o : Outcome). folded_of o (next_offset step offset basis)) e,
            ap (λ (o : Outcome). afterwards o (folded step offset basis word x) values) e,
            ap (λ (o : Outcome). afterwards o (next_basis step basis) next) e,
          );
      prove = λ cause run h.
          let e = run_same cause run h in (
            ap (λ (o : Outcome). and_then o (degree_outcome run)) e,
            ap (λ (o : Outcome). afterwards o (honest_store run) run.store) e,
            ap (λ (o : Outcome). afterwards (and_then o (degree_outcome run)) (honest_last run) run.last) e,
          );
      judge = λ cause run queries h.
          ap (λ (o : Outcome). verdict_after (and_then o (queries_outcome run.k (step_in run 0) queries)) run queries)
          (run_same cause run h);
      write = λ cause run queries held h.
          let e = write_same cause run h queries (length held) in
          (e, ap (λ (o : Outcome). afterwards o (transcript_of run queries) held) e);
      transcript = transcript_same;
    }
