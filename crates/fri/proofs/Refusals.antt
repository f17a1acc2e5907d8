-- The checks before the round checks: what passes, what the first failing one refuses, and which numbers
-- there are. Assumes nothing.
use mathlib.Core.Path.{◌≡◌, refl, sym, ap, ◌∙◌, subst}
use mathlib.Core.Logic.{inl, inr, ⊎_elim}
use mathlib.Core.List.{List}
use Prim.Native.Nat.{ℕ}
use native.Mathlib.Nat.{ne_of_lt}
use native.Mathlib.Omega.{arith}
use Rattle.refusal.specs.declared.Cause.{Cause}
use Rattle.refusal.specs.declared.Cause.TheVariants.{DimensionOutOfRange, RateOutOfRange, StepOutOfRange}
use Rattle.refusal.specs.declared.Cause.TheVariants.{DimensionTooSmall, WrongLength, BasisDependent}
use Rattle.refusal.specs.declared.Cause.TheVariants.{QueryCountOutOfRange, QueryOutOfRange, CosetShared}
use Rattle.refusal.specs.declared.Lent.TheVariants as lent
use Rattle.std.specs.Prelude.{Some, None, Ok, Err}
use Rattle.refusal.specs.Outcome.{Outcome}
use Rattle.refusal.specs.Checks.{and_then}
use Rattle.refusal.specs.Numbers.{number_of, place_of, round_of, number_of_outcome, place_of_outcome, round_of_outcome}
use Rattle.refusal.proofs.Checks.{then_passed, then_refused, which, number_then}
use Rattle.coset.specs.Span.{first_dependent}
use Rattle.coset.specs.Answers.{outcome_of_basis, basis_outcome}
use Rattle.fri.specs.Run.{Run, step_in}
use Rattle.fri.specs.Checks.{parameters_outcome, lengths_outcome, run_outcome, queries_outcome}
use Rattle.fri.specs.Judge.{checks_outcome, verdict_of}
use Rattle.fri.specs.Rounds.{rounds_outcome}
use Rattle.fri.specs.Prover.{degree_outcome, prove_outcome}
use Rattle.fri.specs.Demand.{ValidParameters}
use Rattle.fri.specs.Theorems.{Fit, Passing, Tells, BothRefuse, Refusals, SharedAt, SharedCosets}
use Rattle.fri.specs.Theorems.{JudgeNumber, ProverNumber, OnlyNumbers}
use Rattle.fri.proofs.Shared.{shared_found, shared_earliest, none_shared, apart_few}
use Rattle.fri.proofs.Rounds.{refused_by_round}
use Rattle.fri.proofs.Provers.{refused_prove, refused_holds_both, degree_number}
use Rattle.fri.proofs.Checks as checks
use Rattle.fri.proofs.Verdicts as verdicts

pub passing : Passing
passing =
    record {
      common = λ run. (λ e. checks.run_valid run e, λ t. checks.run_passes run t.0 t.1 t.2);
      all = λ run queries.
          (λ e. verdicts.checks_valid run queries e, λ t. verdicts.checks_pass run queries t.0 t.1 t.2);
    }

both_refuse : (run : Run) (cause : Cause) → round_of cause ≡ None → run_outcome run ≡ Err cause
    → BothRefuse run (number_of cause) (place_of cause)
both_refuse run cause n e = (
  λ queries.
      let told = verdicts.told_early run queries cause (verdicts.run_refused run queries cause e) in
      (told.0, told.1, told.2 ∙ n, told.3),
  ap number_of_outcome (refused_prove run cause e),
  ap place_of_outcome (refused_prove run cause e),
  ap round_of_outcome (refused_prove run cause e) ∙ n,
  (refused_holds_both run cause e).0,
  (refused_holds_both run cause e).1,
)

by_parameters : (run : Run) (cause : Cause) → parameters_outcome run.k run.rate run.step ≡ Err cause
    → run_outcome run ≡ Err cause
by_parameters run cause e =
    sym (then_refused (parameters_outcome run.k run.rate run.step)
    (and_then (lengths_outcome run) (basis_outcome run.basis)) cause e)

after_parameters : (run : Run) → ValidParameters run.k run.rate run.step
    → run_outcome run ≡ and_then (lengths_outcome run) (basis_outcome run.basis)
after_parameters run v =
    sym (then_passed (parameters_outcome run.k run.rate run.step)
    (and_then (lengths_outcome run) (basis_outcome run.basis))
    (checks.parameters_pass run.k run.rate run.step v))

by_lengths : (run : Run) (cause : Cause) → ValidParameters run.k run.rate run.step
    → lengths_outcome run ≡ Err cause → run_outcome run ≡ Err cause
by_lengths run cause v e =
    after_parameters run v ∙ sym (then_refused (lengths_outcome run) (basis_outcome run.basis) cause e)

by_basis : (run : Run) (place : ℕ) → ValidParameters run.k run.rate run.step → Fit run
    → first_dependent run.basis ≡ Some place → run_outcome run ≡ Err (BasisDependent place)
by_basis run place v f e =
    after_parameters run v
    ∙ sym (then_passed (lengths_outcome run) (basis_outcome run.basis) (checks.lengths_pass run f))
    ∙ ap outcome_of_basis e

by_queries : (run : Run) (queries : List ℕ) (cause : Cause) → run_outcome run ≡ Ok tt
    → queries_outcome run.k (step_in run 0) queries ≡ Err cause
    → Tells (verdict_of run queries) (number_of cause) (place_of cause) (round_of cause) 0
by_queries run queries cause d e =
    verdicts.told_early run queries cause
    (sym (then_passed (run_outcome run) (queries_outcome run.k (step_in run 0) queries) d) ∙ e)

pub refusals : Refusals
refusals =
    record {
      dimension = λ run o.
          both_refuse run DimensionOutOfRange refl
          (by_parameters run DimensionOutOfRange (checks.k_refused run.k run.rate run.step o));
      rate = λ run l m o.
          both_refuse run RateOutOfRange refl
          (by_parameters run RateOutOfRange (checks.rate_refused run.k run.rate run.step l m o));
      step = λ run l m a b o.
          both_refuse run StepOutOfRange refl
          (by_parameters run StepOutOfRange (checks.step_refused run.k run.rate run.step l m a b o));
      too_small = λ run l m a b s t h.
          both_refuse run DimensionTooSmall refl
          (by_parameters run DimensionTooSmall
          (checks.too_small_refused run.k run.rate run.step l m a b s t h));
      list1 = λ run v n.
          both_refuse run (WrongLength lent.Basis) refl (by_lengths run (WrongLength lent.Basis) v (checks.list1_refused run n));
      list2 = λ run v a n.
          both_refuse run (WrongLength lent.Challenges) refl (by_lengths run (WrongLength lent.Challenges) v (checks.list2_refused run a n));
      list3 = λ run v a b n.
          both_refuse run (WrongLength lent.Word) refl (by_lengths run (WrongLength lent.Word) v (checks.list3_refused run a b n));
      list4 = λ run v a b d n.
          both_refuse run (WrongLength lent.Store) refl (by_lengths run (WrongLength lent.Store) v (checks.list4_refused run a b d n));
      list5 = λ run v a b d s n.
          both_refuse run (WrongLength lent.Last) refl (by_lengths run (WrongLength lent.Last) v (checks.list5_refused run a b d s n));
      dependent = λ run place v f e. both_refuse run (BasisDependent place) refl (by_basis run place v f e);
      query_count = λ run queries d o.
          by_queries run queries QueryCountOutOfRange d (checks.count_refused run.k (step_in run 0) queries o);
      query_outside = λ run queries query d l m e.
          by_queries run queries (QueryOutOfRange query) d
          (checks.outside_refused run.k (step_in run 0) queries query l m e);
      first-outside = checks.first-outside;
      query_shared = λ run queries query d v e.
          by_queries run queries (CosetShared query) d
          (checks.shared_refused run.k (step_in run 0) queries query v e);
    }

-- ---- queries that share a first-layer coset

module _ (run : Run) (queries : List ℕ) (query : ℕ) where
  shared_of_checks : checks_outcome run queries ≡ Err (CosetShared query) → SharedAt run queries query
  shared_of_checks e =
      ⊎_elim
      (λ (h : run_outcome run ≡ Err (CosetShared query)). absurd
      (checks.run_not run 17 (omega arith) (λ t. ne_of_lt (omega arith) (sym t)) (ap number_of_outcome h)))
      (λ (h : (run_outcome run ≡ Ok tt) × (queries_outcome run.k (step_in run 0) queries ≡ Err (CosetShared query))).
      let told = checks.shared_of run.k (step_in run 0) queries query h.1 in
      (h.0, told.0, told.1))
      (which (run_outcome run) (queries_outcome run.k (step_in run 0) queries) (CosetShared query) e)

  shared_of_verdict : (verdict_of run queries).answer ≡ Err (CosetShared query) → SharedAt run queries query
  shared_of_verdict e =
      ⊎_elim shared_of_checks
      (λ (h : (checks_outcome run queries ≡ Ok tt) × (rounds_outcome run queries 0 ≡ Err (CosetShared query))).
      absurd (let impossible : ◌≡◌ {A = ℕ} 17 11 = refused_by_round run queries (CosetShared query) h.1 in
      omega arith))
      (verdicts.refused_which run queries (CosetShared query) e)

  checks_of_shared : SharedAt run queries query → checks_outcome run queries ≡ Err (CosetShared query)
  checks_of_shared t =
      sym (then_passed (run_outcome run) (queries_outcome run.k (step_in run 0) queries) t.0)
      ∙ checks.shared_refused run.k (step_in run 0) queries query t.1 t.2

pub shared_cosets : SharedCosets
shared_cosets =
    record {
      found = shared_found;
      earliest = shared_earliest;
      none = none_shared;
      checks = λ run queries query. (shared_of_checks run queries query, checks_of_shared run queries query);
      refused = λ run queries query. (
        shared_of_verdict run queries query,
        λ t. (verdicts.refused_early run queries (CosetShared query) (checks_of_shared run queries query t)).0,
      );
      accepted = λ run queries e.
          (verdicts.checks_valid run queries (verdicts.accepted_checks run queries e).0).2;
      most = apart_few;
    }

-- ---- numbers

judge_number : (run : Run) (queries : List ℕ) → JudgeNumber (number_of_outcome (verdict_of run queries).answer)
judge_number run queries =
    number_then JudgeNumber (checks_outcome run queries) (rounds_outcome run queries 0)
    (number_then JudgeNumber (run_outcome run) (queries_outcome run.k (step_in run 0) queries)
    (checks.run_number JudgeNumber (inl refl) (λ n l u. inr (inl (l, omega arith))) (inr (inr (inl refl))) run)
    (checks.queries_number JudgeNumber (inl refl) (inr (inl (omega arith, omega arith)))
    (inr (inl (omega arith, omega arith))) (inr (inr (inr refl))) run.k (step_in run 0) queries))
    (by (rounds_outcome run queries 0) refl)
  where
    by : (o : Outcome) → rounds_outcome run queries 0 ≡ o → JudgeNumber (number_of_outcome o)
    by (Ok _) e = inl refl
    by (Err cause) e =
        inr
        (inl (omega (arith, refused_by_round run queries cause e), omega (arith, refused_by_round run queries cause e)))

prover_number : (run : Run) → ProverNumber (number_of_outcome (prove_outcome run))
prover_number run =
    number_then ProverNumber (run_outcome run) (degree_outcome run)
    (checks.run_number ProverNumber (inl refl) (λ n l u. inr (inl (l, omega arith)))
    (inr (inr (omega arith, omega arith))) run)
    (degree_number run ProverNumber (inl refl) (inr (inr (omega arith, omega arith))))

pub only_numbers : OnlyNumbers
only_numbers = record { judge = judge_number; prover = prover_number }
