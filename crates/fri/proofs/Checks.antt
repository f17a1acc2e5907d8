-- Which parameters, lists, basis and queries pass the checks, and what the first failing check
-- refuses. Assumes nothing.
use mathlib.Core.Path.{◌≡◌, refl, sym, ap, ◌∙◌, subst}
use mathlib.Core.Logic.{◌≢◌, ◌⊎◌, inl, inr}
use mathlib.Core.Bool.{Bool, true, false, cond, ◌&&◌}
use mathlib.Core.List.{List, [], ◌∷◌}
use Prim.Native.Nat.{ℕ, zero, suc, ◌+◌, ◌^◌, ◌≤◌, ◌<◌}
use native.Mathlib.Nat.{suc-add, add-suc, add-zero, ne_of_lt}
use native.Mathlib.Omega.{arith}
use lib.Dec.{leb, ltb, eqb}
use lib.ListN.{length, get_or}
use borrow.Author.Tests.{le-leb, lt-leb, lt-ltb, eq-eqb, ne_eqb, ltb-true, ltb-false}
use Rattle.refusal.specs.declared.Cause.TheVariants.{DimensionOutOfRange, RateOutOfRange, StepOutOfRange}
use Rattle.refusal.specs.declared.Cause.TheVariants.{DimensionTooSmall, WrongLength}
use Rattle.refusal.specs.declared.Cause.TheVariants.{QueryCountOutOfRange, QueryOutOfRange, CosetShared}
use Rattle.refusal.specs.declared.Lent.TheVariants as lent
use Rattle.std.specs.Prelude.{Option, Some, None, Ok, Err}
use Rattle.refusal.specs.Outcome.{Outcome}
use Rattle.refusal.specs.Checks.{refused_unless, and_then}
use Rattle.refusal.specs.Numbers.{number_of_outcome, place_of_outcome}
use Rattle.refusal.proofs.Checks.{equal_of_test, le_of_test, refused_not_done, passed_by}
use Rattle.refusal.proofs.Checks.{refused_by, unless_done, then_passed, then_refused, then_done}
use Rattle.refusal.proofs.Checks.{number_unless, number_then, within, within_of, outside, Either, which}
use Rattle.poly.specs.Polynomial.{All}
use Rattle.coset.specs.Span.{Independent}
use Rattle.coset.specs.Answers.{outcome_of_basis, basis_outcome}
use Rattle.coset.proofs.Independence.{independent_of, basis_number}
use Rattle.fri.specs.Layout.{last_count, store_length}
use Rattle.fri.specs.Run.{Run, steps_in, rounds_in}
use Rattle.fri.specs.Checks.{parameters_outcome, lengths_outcome, run_outcome}
use Rattle.fri.specs.Checks.{first_outside, outcome_of_outside, first_shared, outcome_of_shared}
use Rattle.fri.specs.Checks.{indices_outcome, queries_outcome}
use Rattle.fri.specs.Demand.{ValidParameters, ValidQueries, Apart}
use Rattle.fri.specs.Theorems.{Fit}
use Rattle.fri.proofs.Shared.{none_shared}

-- ---- parameters, check by check

module _ (k rate step : ℕ) where
  abbrev after_step : Outcome
  after_step = refused_unless (leb (rate + step) k) DimensionTooSmall (Ok tt)

  abbrev after_rate : Outcome
  after_rate = refused_unless (leb 1 step && leb step 3) StepOutOfRange after_step

  abbrev after_k : Outcome
  after_k = refused_unless (leb 1 rate && leb rate 6) RateOutOfRange after_rate

  k_passes : 2 ≤ k → k ≤ 20 → parameters_outcome k rate step ≡ after_k
  k_passes l m = sym (passed_by (leb 2 k && leb k 20) DimensionOutOfRange after_k (within 2 20 k l m))

  rate_passes : 1 ≤ rate → rate ≤ 6 → after_k ≡ after_rate
  rate_passes l m = sym (passed_by (leb 1 rate && leb rate 6) RateOutOfRange after_rate (within 1 6 rate l m))

  step_passes : 1 ≤ step → step ≤ 3 → after_rate ≡ after_step
  step_passes l m = sym (passed_by (leb 1 step && leb step 3) StepOutOfRange after_step (within 1 3 step l m))

  pub parameters_pass : ValidParameters k rate step → parameters_outcome k rate step ≡ Ok tt
  parameters_pass v =
      k_passes v.k_least v.k_most ∙ rate_passes v.rate_least v.rate_most
      ∙ step_passes v.step_least v.step_most
      ∙ sym (passed_by (leb (rate + step) k) DimensionTooSmall (Ok tt) (le-leb (rate + step) k v.k_enough))

  pub parameters_valid : parameters_outcome k rate step ≡ Ok tt → ValidParameters k rate step
  parameters_valid e =
      let first = unless_done (leb 2 k && leb k 20) DimensionOutOfRange after_k e in
      let second = unless_done (leb 1 rate && leb rate 6) RateOutOfRange after_rate first.1 in
      let third = unless_done (leb 1 step && leb step 3) StepOutOfRange after_step second.1 in
      let fourth = unless_done (leb (rate + step) k) DimensionTooSmall (Ok tt) third.1 in
      let k-within = within_of 2 20 k first.0 in
      let rate-within = within_of 1 6 rate second.0 in
      let step_within = within_of 1 3 step third.0 in
      record {
        k_least = k-within.0;
        k_most = k-within.1;
        rate_least = rate-within.0;
        rate_most = rate-within.1;
        step_least = step_within.0;
        step_most = step_within.1;
        k_enough = le_of_test (rate + step) k fourth.0;
      }

  pub k_refused : (k < 2) ⊎ (20 < k) → parameters_outcome k rate step ≡ Err DimensionOutOfRange
  k_refused o = sym (refused_by (leb 2 k && leb k 20) DimensionOutOfRange after_k (outside 2 20 k o))

  pub rate_refused : 2 ≤ k → k ≤ 20 → (rate < 1) ⊎ (6 < rate) → parameters_outcome k rate step ≡ Err RateOutOfRange
  rate_refused l m o =
      k_passes l m ∙ sym (refused_by (leb 1 rate && leb rate 6) RateOutOfRange after_rate (outside 1 6 rate o))

  pub step_refused : 2 ≤ k → k ≤ 20 → 1 ≤ rate → rate ≤ 6 → (step < 1) ⊎ (3 < step)
      → parameters_outcome k rate step ≡ Err StepOutOfRange
  step_refused l m a b o =
      k_passes l m ∙ rate_passes a b
      ∙ sym (refused_by (leb 1 step && leb step 3) StepOutOfRange after_step (outside 1 3 step o))

  pub too_small_refused : 2 ≤ k → k ≤ 20 → 1 ≤ rate → rate ≤ 6 → 1 ≤ step → step ≤ 3 → k < rate + step
      → parameters_outcome k rate step ≡ Err DimensionTooSmall
  too_small_refused l m a b s t h =
      k_passes l m ∙ rate_passes a b ∙ step_passes s t
      ∙ sym (refused_by (leb (rate + step) k) DimensionTooSmall (Ok tt) (lt-leb (rate + step) k h))

-- ---- lists, check by check

module _ (run : Run) where
  abbrev stored : ℕ
  stored = store_length run.k (steps_in run)

  abbrev last_due : ℕ
  last_due = last_count run.k run.rate (steps_in run)

  abbrev after4 : Outcome
  after4 = refused_unless (eqb (length run.last) last_due) (WrongLength lent.Last) (Ok tt)

  abbrev after3 : Outcome
  after3 = refused_unless (eqb (length run.store) stored) (WrongLength lent.Store) after4

  abbrev after2 : Outcome
  after2 = refused_unless (eqb (length run.word) (2 ^ run.k)) (WrongLength lent.Word) after3

  abbrev after1 : Outcome
  after1 = refused_unless (eqb (length run.challenges) (rounds_in run)) (WrongLength lent.Challenges) after2

  list1_passes : length run.basis ≡ run.k → lengths_outcome run ≡ after1
  list1_passes e =
      sym
      (passed_by (eqb (length run.basis) run.k) (WrongLength lent.Basis) after1 (eq-eqb (length run.basis) run.k e))

  list2_passes : length run.challenges ≡ rounds_in run → after1 ≡ after2
  list2_passes e =
      sym (passed_by (eqb (length run.challenges) (rounds_in run)) (WrongLength lent.Challenges) after2
      (eq-eqb (length run.challenges) (rounds_in run) e))

  list3_passes : length run.word ≡ 2 ^ run.k → after2 ≡ after3
  list3_passes e =
      sym (passed_by (eqb (length run.word) (2 ^ run.k)) (WrongLength lent.Word) after3
      (eq-eqb (length run.word) (2 ^ run.k) e))

  list4_passes : length run.store ≡ stored → after3 ≡ after4
  list4_passes e =
      sym (passed_by (eqb (length run.store) stored) (WrongLength lent.Store) after4 (eq-eqb (length run.store) stored e))

  pub lengths_pass : Fit run → lengths_outcome run ≡ Ok tt
  lengths_pass f =
      list1_passes f.basis ∙ list2_passes f.challenges ∙ list3_passes f.word ∙ list4_passes f.store
      ∙ sym (passed_by (eqb (length run.last) last_due) (WrongLength lent.Last) (Ok tt)
      (eq-eqb (length run.last) last_due f.last))

  pub lengths_fit : lengths_outcome run ≡ Ok tt → Fit run
  lengths_fit e =
      let first = unless_done (eqb (length run.basis) run.k) (WrongLength lent.Basis) after1 e in
      let second = unless_done (eqb (length run.challenges) (rounds_in run)) (WrongLength lent.Challenges) after2 first.1 in
      let third = unless_done (eqb (length run.word) (2 ^ run.k)) (WrongLength lent.Word) after3 second.1 in
      let fourth = unless_done (eqb (length run.store) stored) (WrongLength lent.Store) after4 third.1 in
      let fifth = unless_done (eqb (length run.last) last_due) (WrongLength lent.Last) (Ok tt) fourth.1 in
      record {
        basis = equal_of_test (length run.basis) run.k first.0;
        challenges = equal_of_test (length run.challenges) (rounds_in run) second.0;
        word = equal_of_test (length run.word) (2 ^ run.k) third.0;
        store = equal_of_test (length run.store) stored fourth.0;
        last = equal_of_test (length run.last) last_due fifth.0;
      }

  pub list1_refused : length run.basis ≢ run.k → lengths_outcome run ≡ Err (WrongLength lent.Basis)
  list1_refused n =
      sym
      (refused_by (eqb (length run.basis) run.k) (WrongLength lent.Basis) after1 (ne_eqb (length run.basis) run.k n))

  pub list2_refused : length run.basis ≡ run.k → length run.challenges ≢ rounds_in run
      → lengths_outcome run ≡ Err (WrongLength lent.Challenges)
  list2_refused a n =
      list1_passes a
      ∙ sym (refused_by (eqb (length run.challenges) (rounds_in run)) (WrongLength lent.Challenges) after2
      (ne_eqb (length run.challenges) (rounds_in run) n))

  pub list3_refused : length run.basis ≡ run.k → length run.challenges ≡ rounds_in run
      → length run.word ≢ 2 ^ run.k → lengths_outcome run ≡ Err (WrongLength lent.Word)
  list3_refused a b n =
      list1_passes a ∙ list2_passes b
      ∙ sym (refused_by (eqb (length run.word) (2 ^ run.k)) (WrongLength lent.Word) after3
      (ne_eqb (length run.word) (2 ^ run.k) n))

  pub list4_refused : length run.basis ≡ run.k → length run.challenges ≡ rounds_in run
      → length run.word ≡ 2 ^ run.k → length run.store ≢ stored → lengths_outcome run ≡ Err (WrongLength lent.Store)
  list4_refused a b d n =
      list1_passes a ∙ list2_passes b ∙ list3_passes d
      ∙ sym
      (refused_by (eqb (length run.store) stored) (WrongLength lent.Store) after4 (ne_eqb (length run.store) stored n))

  pub list5_refused : length run.basis ≡ run.k → length run.challenges ≡ rounds_in run
      → length run.word ≡ 2 ^ run.k
      → length run.store ≡ stored → length run.last ≢ last_due → lengths_outcome run ≡ Err (WrongLength lent.Last)
  list5_refused a b d s n =
      list1_passes a ∙ list2_passes b ∙ list3_passes d ∙ list4_passes s
      ∙ sym
      (refused_by (eqb (length run.last) last_due) (WrongLength lent.Last) (Ok tt) (ne_eqb (length run.last) last_due n))

-- ---- a run

pub run_passes : (run : Run) → ValidParameters run.k run.rate run.step → Fit run → Independent run.basis
    → run_outcome run ≡ Ok tt
run_passes run v f d =
    sym (then_passed (parameters_outcome run.k run.rate run.step)
    (and_then (lengths_outcome run) (basis_outcome run.basis))
    (parameters_pass run.k run.rate run.step v))
    ∙ sym (then_passed (lengths_outcome run) (basis_outcome run.basis) (lengths_pass run f))
    ∙ ap outcome_of_basis d

pub run_valid : (run : Run) → run_outcome run ≡ Ok tt
    → ValidParameters run.k run.rate run.step × Fit run × Independent run.basis
run_valid run e =
    let first = then_done (parameters_outcome run.k run.rate run.step)
    (and_then (lengths_outcome run) (basis_outcome run.basis)) e in
    let second = then_done (lengths_outcome run) (basis_outcome run.basis) first.1 in (
      parameters_valid run.k run.rate run.step first.0,
      lengths_fit run second.0,
      independent_of run.basis second.1,
    )

-- ---- queries

-- what the first query outside tells
abbrev Outside : ℕ → List ℕ → ℕ → Option ℕ → Type 0
Outside size queries place None = All (λ j. j < size) queries
Outside size queries place (Some query) =
    (t : ℕ) × (query ≡ place + t) × (t < length queries) × (size ≤ get_or queries t 0)
    × ((u : ℕ) → u < t → get_or queries u 0 < size)

one_inside : (size j : ℕ) (queries : List ℕ) (place : ℕ) → j < size → (p : Option ℕ)
    → Outside size queries (suc place) p → Outside size (j ∷ queries) place p
one_inside size j queries place h None told = (h, told)
one_inside size j queries place h (Some query)
    (t, e, l, o, before) = (suc t, e ∙ suc-add place t ∙ sym (add-suc place t), omega arith, o, earlier)
  where
    earlier : (u : ℕ) → u < suc t → get_or (j ∷ queries) u 0 < size
    earlier zero b = h
    earlier (suc u) b = before u (omega arith)

one_query : (size j : ℕ) (queries : List ℕ) (place : ℕ) (rest : Option ℕ) → Outside size queries (suc place) rest
    → (test : Bool) → ltb j size ≡ test → Outside size (j ∷ queries) place (cond test rest (Some place))
one_query size j queries place rest told true e = one_inside size j queries place (ltb-true j size e) rest told
one_query size j queries place rest told false e =
    (0, sym (add-zero place), omega arith, ltb-false j size e, λ u b. absurd (omega arith))

outside_told : (size : ℕ) (queries : List ℕ) (place : ℕ) → Outside size queries place (first_outside size queries place)
unfolding first_outside
outside_told size [] place = record {}
outside_told size (j ∷ queries) place =
    one_query size j queries place (first_outside size queries (suc place))
    (outside_told size queries (suc place)) (ltb j size) refl

none_outside : (size : ℕ) (queries : List ℕ) (place : ℕ) → All (λ j. j < size) queries
    → first_outside size queries place ≡ None
unfolding first_outside
none_outside size [] place h = refl
none_outside size (j ∷ queries) place h =
    ap (λ (t : Bool). cond t (first_outside size queries (suc place)) (Some place)) (lt-ltb j size h.0)
    ∙ none_outside size queries (suc place) h.1

pub first-outside : (size : ℕ) (queries : List ℕ) (query : ℕ) → first_outside size queries 0 ≡ Some query
    → (query < length queries) × (size ≤ get_or queries query 0) × ((t : ℕ) → t < query → get_or queries t 0 < size)
first-outside size queries query e = by (subst (Outside size queries 0) e (outside_told size queries 0))
  where
    by : Outside size queries 0 (Some query)
        → (query < length queries) × (size ≤ get_or queries query 0) × ((t : ℕ) → t < query → get_or queries t 0 < size)
    by (t, s, l, o, before) =
        let same : t ≡ query = omega (arith, s) in
        subst (λ (q : ℕ). (q < length queries) × (size ≤ get_or queries q 0)
        × ((u : ℕ) → u < q → get_or queries u 0 < size)) same (l, o, before)

all_inside : (p : Option ℕ) → outcome_of_outside p ≡ Ok tt → p ≡ None
all_inside (Some query) e = absurd (refused_not_done (QueryOutOfRange query) e)
all_inside None e = refl

none_together : (p : Option ℕ) → outcome_of_shared p ≡ Ok tt → p ≡ None
none_together (Some query) e = absurd (refused_not_done (CosetShared query) e)
none_together None e = refl

abbrev counted : List ℕ → Bool
counted queries = leb 1 (length queries) && leb (length queries) 256

module _ (k first : ℕ) (queries : List ℕ) where
  abbrev indices : Outcome
  indices = indices_outcome k first queries

  abbrev outside_outcome : Outcome
  outside_outcome = outcome_of_outside (first_outside (2 ^ k) queries 0)

  abbrev shared_outcome : Outcome
  shared_outcome = outcome_of_shared (first_shared first queries)

  -- all indices are below 2^k
  inside_passes : ValidQueries k queries → queries_outcome k first queries ≡ shared_outcome
  inside_passes v =
      sym
      (passed_by (counted queries) QueryCountOutOfRange indices (within 1 256 (length queries) v.least v.most))
      ∙ sym (then_passed outside_outcome shared_outcome
      (ap outcome_of_outside (none_outside (2 ^ k) queries 0 v.within)))

  pub queries_pass : ValidQueries k queries → Apart first queries → queries_outcome k first queries ≡ Ok tt
  queries_pass v apart = inside_passes v ∙ ap outcome_of_shared ((none_shared first queries).1 apart)

  inside_valid : (counted queries ≡ true) → outside_outcome ≡ Ok tt → ValidQueries k queries
  inside_valid c e =
      let count = within_of 1 256 (length queries) c in
      let inside = all_inside (first_outside (2 ^ k) queries 0) e in
      record {
        least = count.0;
        most = count.1;
        within = subst (Outside (2 ^ k) queries 0) inside (outside_told (2 ^ k) queries 0);
      }

  pub queries_valid : queries_outcome k first queries ≡ Ok tt → ValidQueries k queries × Apart first queries
  queries_valid e =
      let both = unless_done (counted queries) QueryCountOutOfRange indices e in
      let each = then_done outside_outcome shared_outcome both.1 in (
        inside_valid both.0 each.0,
        (none_shared first queries).0 (none_together (first_shared first queries) each.1),
      )

  pub count_refused : (length queries < 1) ⊎ (256 < length queries)
      → queries_outcome k first queries ≡ Err QueryCountOutOfRange
  count_refused o = sym (refused_by (counted queries) QueryCountOutOfRange indices (outside 1 256 (length queries) o))

  pub outside_refused : (query : ℕ) → 1 ≤ length queries → length queries ≤ 256
      → first_outside (2 ^ k) queries 0 ≡ Some query → queries_outcome k first queries ≡ Err (QueryOutOfRange query)
  outside_refused query l m e =
      sym (passed_by (counted queries) QueryCountOutOfRange indices (within 1 256 (length queries) l m))
      ∙ sym (then_refused outside_outcome shared_outcome (QueryOutOfRange query) (ap outcome_of_outside e))

  pub shared_refused : (query : ℕ) → ValidQueries k queries → first_shared first queries ≡ Some query
      → queries_outcome k first queries ≡ Err (CosetShared query)
  shared_refused query v e = inside_passes v ∙ ap outcome_of_shared e

-- ---- which numbers there are

pub parameters_number : (P : ℕ → Type 0) → P 0 → ((n : ℕ) → 4 ≤ n → n ≤ 7 → P n) → (k rate step : ℕ)
    → P (number_of_outcome (parameters_outcome k rate step))
parameters_number P p0 low k rate step =
    number_unless P (leb 2 k && leb k 20) DimensionOutOfRange (after_k k rate step) (low 4 (omega arith) (omega arith))
    (number_unless P (leb 1 rate && leb rate 6) RateOutOfRange (after_rate k rate step)
    (low 5 (omega arith) (omega arith))
    (number_unless P (leb 1 step && leb step 3) StepOutOfRange (after_step k rate step)
    (low 6 (omega arith) (omega arith))
    (number_unless P (leb (rate + step) k) DimensionTooSmall (Ok tt) (low 7 (omega arith) (omega arith)) p0)))

-- what holds of 0, of 4 to 8 and of 13 holds of a run's number
pub run_number : (P : ℕ → Type 0) → P 0 → ((n : ℕ) → 4 ≤ n → n ≤ 8 → P n) → P 13 → (run : Run)
    → P (number_of_outcome (run_outcome run))
run_number P p0 low p13 run =
    number_then P (parameters_outcome run.k run.rate run.step)
    (and_then (lengths_outcome run) (basis_outcome run.basis))
    (parameters_number P p0 (λ n l u. low n l (omega arith)) run.k run.rate run.step)
    (number_then P (lengths_outcome run) (basis_outcome run.basis) lengths_number
    (basis_number P p0 (low 8 (omega arith) (omega arith)) run.basis))
  where
    lengths_number : P (number_of_outcome (lengths_outcome run))
    lengths_number =
        number_unless P (eqb (length run.basis) run.k) (WrongLength lent.Basis) (after1 run) p13
        (number_unless P (eqb (length run.challenges) (rounds_in run)) (WrongLength lent.Challenges) (after2 run) p13
        (number_unless P (eqb (length run.word) (2 ^ run.k)) (WrongLength lent.Word) (after3 run) p13
        (number_unless P (eqb (length run.store) (stored run)) (WrongLength lent.Store) (after4 run) p13
        (number_unless P (eqb (length run.last) (last_due run)) (WrongLength lent.Last) (Ok tt) p13 p0))))

-- which is none from 9 on but 13
pub run_not : (run : Run) (m : ℕ) → 9 ≤ m → m ≢ 13 → number_of_outcome (run_outcome run) ≢ m
run_not run m l other =
    run_number (λ n. n ≢ m) (ne_of_lt (omega arith)) (λ n least most. ne_of_lt (omega arith)) (λ e. other (sym e)) run

outside_number : (P : ℕ → Type 0) → P 0 → P 10 → (p : Option ℕ) → P (number_of_outcome (outcome_of_outside p))
outside_number P p0 p10 (Some query) = p10
outside_number P p0 p10 None = p0

shared_number : (P : ℕ → Type 0) → P 0 → P 17 → (p : Option ℕ) → P (number_of_outcome (outcome_of_shared p))
shared_number P p0 p17 (Some query) = p17
shared_number P p0 p17 None = p0

pub indices_number : (P : ℕ → Type 0) → P 0 → P 10 → P 17 → (k first : ℕ) (queries : List ℕ)
    → P (number_of_outcome (indices_outcome k first queries))
indices_number P p0 p10 p17 k first queries =
    number_then P (outside_outcome k first queries) (shared_outcome k first queries)
    (outside_number P p0 p10 (first_outside (2 ^ k) queries 0)) (shared_number P p0 p17 (first_shared first queries))

pub queries_number : (P : ℕ → Type 0) → P 0 → P 9 → P 10 → P 17 → (k first : ℕ) (queries : List ℕ)
    → P (number_of_outcome (queries_outcome k first queries))
queries_number P p0 p9 p10 p17 k first queries =
    number_unless P (counted queries) QueryCountOutOfRange (indices_outcome k first queries) p9
    (indices_number P p0 p10 p17 k first queries)

-- ---- which query list is refused by 17

outside_not_shared : (p : Option ℕ) (query : ℕ) → outcome_of_outside p ≢ Err (CosetShared query)
outside_not_shared (Some other) query e = let impossible : ◌≡◌ {A = ℕ} 10 17 = ap number_of_outcome e in omega arith
outside_not_shared None query e = let impossible : ◌≡◌ {A = ℕ} 0 17 = ap number_of_outcome e in omega arith

shared_at : (p : Option ℕ) (query : ℕ) → outcome_of_shared p ≡ Err (CosetShared query) → p ≡ Some query
shared_at (Some other) query e = ap place_of_outcome e
shared_at None query e = absurd (let impossible : ◌≡◌ {A = ℕ} 0 17 = ap number_of_outcome e in omega arith)

module _ (k first : ℕ) (queries : List ℕ) (query : ℕ) where
  pub shared_of : queries_outcome k first queries ≡ Err (CosetShared query)
      → ValidQueries k queries × (first_shared first queries ≡ Some query)
  shared_of e = by_count (counted queries) refl e
    where
      by_index : counted queries ≡ true
          → Either (outside_outcome k first queries) (shared_outcome k first queries) (CosetShared query)
          → ValidQueries k queries × (first_shared first queries ≡ Some query)
      by_index c (inl f) = absurd (outside_not_shared (first_outside (2 ^ k) queries 0) query f)
      by_index c (inr f) =
          (inside_valid k first queries c f.0, shared_at (first_shared first queries) query f.1)

      by_count : (test : Bool) → counted queries ≡ test
          → refused_unless test QueryCountOutOfRange (indices_outcome k first queries) ≡ Err (CosetShared query)
          → ValidQueries k queries × (first_shared first queries ≡ Some query)
      by_count true c f =
          by_index c (which (outside_outcome k first queries) (shared_outcome k first queries) (CosetShared query) f)
      by_count false c f = absurd (let impossible : ◌≡◌ {A = ℕ} 9 17 = ap number_of_outcome f in omega arith)
