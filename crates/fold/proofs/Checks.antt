-- The refusals of a lone fold, one check after the other, and what holds where all have passed. Assumes nothing.
use mathlib.Core.Path.{◌≡◌, sym, ap, ◌∙◌, subst}
use mathlib.Core.Bool.{true, false, ◌&&◌}
use mathlib.Core.List.{List}
use Prim.Native.Nat.{ℕ, ◌-◌, ◌^◌, ◌≤◌}
use lib.Dec.{leb, eqb}
use lib.ListN.{length}
use Rattle.refusal.specs.declared.Cause.TheVariants.{DimensionOutOfRange, StepOutOfRange}
use Rattle.refusal.specs.declared.Cause.TheVariants.{DimensionTooSmall, WrongLength}
use Rattle.std.specs.Prelude.{Ok, Err}
use Rattle.refusal.specs.Outcome.{Outcome}
use Rattle.refusal.specs.declared.Cause.{Cause}
use Rattle.refusal.specs.declared.Lent.TheVariants as lent
use Rattle.refusal.specs.Checks.{refused_unless, and_then, afterwards}
use Rattle.refusal.proofs.Checks.{equal_of_test, le_of_test, passed_by, refused_by}
use Rattle.refusal.proofs.Checks.{unless_done, then_done, within_of, done_holds, refused_holds}
use Rattle.field.specs.declared.Element.{Element}
use Rattle.coset.specs.Answers.{basis_outcome}
use Rattle.coset.specs.Span.{Independent}
use Rattle.coset.proofs.Independence.{independent_of}
use Rattle.fold.specs.Answers.{fold_ranges_outcome, fold_lengths_outcome, fold_outcome, folded_of}

-- ---- ranges

module _ (k step : ℕ) where
  abbrev pub small_enough : Outcome
  small_enough = refused_unless (leb step k) DimensionTooSmall (Ok tt)

  abbrev pub step_checked : Outcome
  step_checked = refused_unless (leb 1 step && leb step 3) StepOutOfRange small_enough

  pub dimension_refused : (leb 2 k && leb k 20) ≡ false → Err DimensionOutOfRange ≡ fold_ranges_outcome k step
  dimension_refused e = refused_by (leb 2 k && leb k 20) DimensionOutOfRange step_checked e

  pub step_refused : (leb 2 k && leb k 20) ≡ true → (leb 1 step && leb step 3) ≡ false
      → Err StepOutOfRange ≡ fold_ranges_outcome k step
  step_refused e f =
      refused_by (leb 1 step && leb step 3) StepOutOfRange small_enough f
      ∙ passed_by (leb 2 k && leb k 20) DimensionOutOfRange step_checked e

  pub too_small_refused : (leb 2 k && leb k 20) ≡ true → (leb 1 step && leb step 3) ≡ true → leb step k ≡ false
      → Err DimensionTooSmall ≡ fold_ranges_outcome k step
  too_small_refused e f g =
      refused_by (leb step k) DimensionTooSmall (Ok tt) g
      ∙ passed_by (leb 1 step && leb step 3) StepOutOfRange small_enough f
      ∙ passed_by (leb 2 k && leb k 20) DimensionOutOfRange step_checked e

  pub ranges_pass : (leb 2 k && leb k 20) ≡ true → (leb 1 step && leb step 3) ≡ true → leb step k ≡ true
      → (Ok tt) ≡ fold_ranges_outcome k step
  ranges_pass e f g =
      passed_by (leb step k) DimensionTooSmall (Ok tt) g
      ∙ passed_by (leb 1 step && leb step 3) StepOutOfRange small_enough f
      ∙ passed_by (leb 2 k && leb k 20) DimensionOutOfRange step_checked e

pub record InRange (k step : ℕ) : Type 0 where
  pub at_least_2 : 2 ≤ k
  pub at_most_20 : k ≤ 20
  pub step_at_least_1 : 1 ≤ step
  pub step_at_most_3 : step ≤ 3
  pub step_fits : step ≤ k

pub in_range : (k step : ℕ) → fold_ranges_outcome k step ≡ Ok tt → InRange k step
in_range k step e =
    let first = unless_done (leb 2 k && leb k 20) DimensionOutOfRange (step_checked k step) e in
    let second = unless_done (leb 1 step && leb step 3) StepOutOfRange (small_enough k step) first.1 in
    let third = unless_done (leb step k) DimensionTooSmall (Ok tt) second.1 in
    let k-within = within_of 2 20 k first.0 in
    let step_within = within_of 1 3 step second.0 in
    record {
      at_least_2 = k-within.0;
      at_most_20 = k-within.1;
      step_at_least_1 = step_within.0;
      step_at_most_3 = step_within.1;
      step_fits = le_of_test step k third.0;
    }

-- ---- lengths

module _ (k step length1 length3 length6 length7 : ℕ) where
  abbrev pub after6 : Outcome
  after6 = refused_unless (eqb length7 (k - step)) (WrongLength lent.NextBasis) (Ok tt)

  abbrev pub after3 : Outcome
  after3 = refused_unless (eqb length6 (2 ^ (k - step))) (WrongLength lent.Values) after6

  abbrev pub after1 : Outcome
  after1 = refused_unless (eqb length3 (2 ^ k)) (WrongLength lent.Word) after3

  pub list1_refused : eqb length1 k ≡ false
      → Err (WrongLength lent.Basis) ≡ fold_lengths_outcome k step length1 length3 length6 length7
  list1_refused e = refused_by (eqb length1 k) (WrongLength lent.Basis) after1 e

  list1_passed : eqb length1 k ≡ true → after1 ≡ fold_lengths_outcome k step length1 length3 length6 length7
  list1_passed e = passed_by (eqb length1 k) (WrongLength lent.Basis) after1 e

  pub list3_refused : eqb length1 k ≡ true → eqb length3 (2 ^ k) ≡ false
      → Err (WrongLength lent.Word) ≡ fold_lengths_outcome k step length1 length3 length6 length7
  list3_refused e f = refused_by (eqb length3 (2 ^ k)) (WrongLength lent.Word) after3 f ∙ list1_passed e

  list3_passed : eqb length1 k ≡ true → eqb length3 (2 ^ k) ≡ true
      → after3 ≡ fold_lengths_outcome k step length1 length3 length6 length7
  list3_passed e f = passed_by (eqb length3 (2 ^ k)) (WrongLength lent.Word) after3 f ∙ list1_passed e

  pub list6_refused : eqb length1 k ≡ true → eqb length3 (2 ^ k) ≡ true → eqb length6 (2 ^ (k - step)) ≡ false
      → Err (WrongLength lent.Values) ≡ fold_lengths_outcome k step length1 length3 length6 length7
  list6_refused e f g = refused_by (eqb length6 (2 ^ (k - step))) (WrongLength lent.Values) after6 g ∙ list3_passed e f

  list6_passed : eqb length1 k ≡ true → eqb length3 (2 ^ k) ≡ true → eqb length6 (2 ^ (k - step)) ≡ true
      → after6 ≡ fold_lengths_outcome k step length1 length3 length6 length7
  list6_passed e f g = passed_by (eqb length6 (2 ^ (k - step))) (WrongLength lent.Values) after6 g ∙ list3_passed e f

  pub list7_refused : eqb length1 k ≡ true → eqb length3 (2 ^ k) ≡ true → eqb length6 (2 ^ (k - step)) ≡ true
      → eqb length7 (k - step) ≡ false
      → Err (WrongLength lent.NextBasis) ≡ fold_lengths_outcome k step length1 length3 length6 length7
  list7_refused e f g h = refused_by (eqb length7 (k - step)) (WrongLength lent.NextBasis) (Ok tt) h ∙ list6_passed e f g

  pub lengths_pass : eqb length1 k ≡ true → eqb length3 (2 ^ k) ≡ true → eqb length6 (2 ^ (k - step)) ≡ true
      → eqb length7 (k - step) ≡ true → (Ok tt) ≡ fold_lengths_outcome k step length1 length3 length6 length7
  lengths_pass e f g h = passed_by (eqb length7 (k - step)) (WrongLength lent.NextBasis) (Ok tt) h ∙ list6_passed e f g

pub record Fitting (k step length1 length3 length6 length7 : ℕ) : Type 0 where
  pub list1_fits : length1 ≡ k
  pub list3_fits : length3 ≡ 2 ^ k
  pub list6_fits : length6 ≡ 2 ^ (k - step)
  pub list7_fits : length7 ≡ k - step

fitting : (k step length1 length3 length6 length7 : ℕ)
    → fold_lengths_outcome k step length1 length3 length6 length7 ≡ Ok tt → Fitting k step length1 length3 length6 length7
fitting k step length1 length3 length6 length7 e =
    let first = unless_done (eqb length1 k) (WrongLength lent.Basis) (after1 k step length1 length3 length6 length7) e in
    let second = unless_done (eqb length3 (2 ^ k)) (WrongLength lent.Word)
    (after3 k step length1 length3 length6 length7) first.1 in
    let third = unless_done (eqb length6 (2 ^ (k - step))) (WrongLength lent.Values)
    (after6 k step length1 length3 length6 length7) second.1 in
    let fourth = unless_done (eqb length7 (k - step)) (WrongLength lent.NextBasis) (Ok tt) third.1 in
    record {
      list1_fits = equal_of_test length1 k first.0;
      list3_fits = equal_of_test length3 (2 ^ k) second.0;
      list6_fits = equal_of_test length6 (2 ^ (k - step)) third.0;
      list7_fits = equal_of_test length7 (k - step) fourth.0;
    }

-- ---- all checks

pub record Passed (k step : ℕ) (basis word values next : List ℕ) : Type 0 where
  pub ranges : InRange k step
  pub lengths : Fitting k step (length basis) (length word) (length values) (length next)
  pub independent : Independent basis

pub passed : (k step : ℕ) (basis word values next : List ℕ) → fold_outcome k step basis word values next ≡ Ok tt
    → Passed k step basis word values next
passed k step basis word values next e =
    let lengths = fold_lengths_outcome k step (length basis) (length word) (length values) (length next) in
    let first = then_done (fold_ranges_outcome k step) (and_then lengths (basis_outcome basis)) e in
    let second = then_done lengths (basis_outcome basis) first.1 in
    record {
      ranges = in_range k step first.0;
      lengths = fitting k step (length basis) (length word) (length values) (length next) second.0;
      independent = independent_of basis second.1;
    }

-- ---- the three clauses

-- what holds where all checks pass, as the code asks for it
pub passed_facts : (k step : ℕ) (basis word values next : List ℕ) → Passed k step basis word values next
    → (1 ≤ step) × (step ≤ 3) × (step ≤ length basis) × (length basis ≤ 20) × Independent basis
    × (length word ≡ 2 ^ length basis) × (length values ≡ 2 ^ (length basis - step))
    × (length next ≡ length basis - step)
passed_facts k step basis word values next p =
    let same : k ≡ length basis = sym p.lengths.list1_fits in (
      p.ranges.step_at_least_1,
      p.ranges.step_at_most_3,
      subst (λ (n : ℕ). step ≤ n) same p.ranges.step_fits,
      subst (λ (n : ℕ). n ≤ 20) same p.ranges.at_most_20,
      p.independent,
      subst (λ (n : ℕ). length word ≡ 2 ^ n) same p.lengths.list3_fits,
      subst (λ (n : ℕ). length values ≡ 2 ^ (n - step)) same p.lengths.list6_fits,
      subst (λ (n : ℕ). length next ≡ n - step) same p.lengths.list7_fits,
    )

pub done_all : (outcome : Outcome) (offset : Element) (wanted : ℕ) (values values' wanted6 next next' wanted7 : List ℕ)
    → outcome ≡ Ok tt → offset.0 ≡ wanted → values' ≡ wanted6 → next' ≡ wanted7
    → (Ok offset ≡ folded_of outcome wanted)
    × ((values' ≡ afterwards outcome wanted6 values) × (next' ≡ afterwards outcome wanted7 next))
done_all outcome offset wanted values values' wanted6 next next' wanted7 e o v n = (
  ap (λ (x : ℕ). Ok (record { 0 = x })) o ∙ sym (ap (λ (t : Outcome). folded_of t wanted) e),
  (done_holds outcome wanted6 values values' e v, done_holds outcome wanted7 next next' e n),
)

pub refused_all : (outcome : Outcome) (cause : Cause) (wanted : ℕ) (values wanted6 next wanted7 : List ℕ)
    → outcome ≡ Err cause
    → (Err cause ≡ folded_of outcome wanted)
    × ((values ≡ afterwards outcome wanted6 values) × (next ≡ afterwards outcome wanted7 next))
refused_all outcome cause wanted values wanted6 next wanted7 e = (
  sym (ap (λ (t : Outcome). folded_of t wanted) e),
  (refused_holds outcome cause wanted6 values e, refused_holds outcome cause wanted7 next e),
)
