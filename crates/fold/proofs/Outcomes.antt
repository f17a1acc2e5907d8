-- Which folds are done, and the numbers, places and rounds of the refusals. Assumes nothing.
use mathlib.Core.Path.{◌≡◌, refl, sym, ap, ◌∙◌, subst}
use mathlib.Core.Logic.{◌↔◌, inl, inr}
use mathlib.Core.Bool.{true, ◌&&◌}
use mathlib.Core.List.{List}
use Prim.Native.Nat.{ℕ, ◌-◌, ◌^◌, ◌≤◌}
use native.Mathlib.Omega.{arith}
use lib.Dec.{leb, eqb}
use lib.ListN.{length}
use borrow.Author.Tests.{le-leb, lt-leb, eq-eqb, ne_eqb}
use Rattle.refusal.specs.declared.Cause.{Cause}
use Rattle.refusal.specs.declared.Cause.TheVariants.{DimensionOutOfRange, StepOutOfRange}
use Rattle.refusal.specs.declared.Cause.TheVariants.{DimensionTooSmall, WrongLength, BasisDependent}
use Rattle.refusal.specs.declared.Lent.TheVariants as lent
use Rattle.std.specs.Prelude.{None, Result, Ok, Err}
use Rattle.refusal.specs.Outcome.{Outcome}
use Rattle.field.specs.declared.Element.{Element}
use Rattle.refusal.specs.Checks.{and_then, afterwards}
use Rattle.refusal.specs.Numbers.{number_of, place_of, round_of, number_of_outcome, place_of_outcome, round_of_outcome}
use Rattle.refusal.proofs.Checks.{within, outside, number_unless, number_then, then_passed, then_refused}
use Rattle.coset.specs.Span.{Independent}
use Rattle.coset.specs.Answers.{outcome_of_basis, basis_outcome}
use Rattle.coset.specs.Subspace.{next_offset, next_basis}
use Rattle.coset.proofs.Independence.{basis_number}
use Rattle.fold.specs.Answers.{fold_ranges_outcome, fold_lengths_outcome}
use Rattle.fold.specs.Answers.{fold_outcome, folded_of, fold_answer, fold_values_after, next_basis_after}
use Rattle.fold.specs.Answers.{value_of_folded}
use Rattle.fold.specs.Fold.{folded}
use Rattle.fold.specs.Theorems.{InRange, FoldFits, FoldTells, FoldAccepted, Refuses, FoldNumber, FoldRefusals}
use Rattle.fold.proofs.Checks as checks

in_range_k : (k step : ℕ) → InRange k step → (leb 2 k && leb k 20) ≡ true
in_range_k k step r = within 2 20 k r.0 r.1

in_range_step : (k step : ℕ) → InRange k step → (leb 1 step && leb step 3) ≡ true
in_range_step k step r = within 1 3 step r.2 r.3

module _ (k step : ℕ) (basis word values next : List ℕ) where
  abbrev outcome : Outcome
  outcome = fold_outcome k step basis word values next

  abbrev lengths : Outcome
  lengths = fold_lengths_outcome k step (length basis) (length word) (length values) (length next)

  ranges_refuse : (cause : Cause) → Err cause ≡ fold_ranges_outcome k step → Err cause ≡ outcome
  ranges_refuse cause e = then_refused (fold_ranges_outcome k step) (and_then lengths (basis_outcome basis)) cause (sym e)

  module _ (r : InRange k step) (fits : step ≤ k) where
    ranges_passed : fold_ranges_outcome k step ≡ Ok tt
    ranges_passed = sym (checks.ranges_pass k step (in_range_k k step r) (in_range_step k step r) (le-leb step k fits))

    lengths_refuse : (cause : Cause) → Err cause ≡ lengths → Err cause ≡ outcome
    lengths_refuse cause e =
        then_refused lengths (basis_outcome basis) cause (sym e)
        ∙ then_passed (fold_ranges_outcome k step) (and_then lengths (basis_outcome basis)) ranges_passed

    basis_decides : FoldFits k step basis word values next → basis_outcome basis ≡ outcome
    basis_decides f =
        then_passed lengths (basis_outcome basis)
        (sym
        (checks.lengths_pass k step (length basis) (length word) (length values) (length next)
        (eq-eqb (length basis) k f.0) (eq-eqb (length word) (2 ^ k) f.1)
        (eq-eqb (length values) (2 ^ (k - step)) f.2) (eq-eqb (length next) (k - step) f.3)))
        ∙ then_passed (fold_ranges_outcome k step) (and_then lengths (basis_outcome basis)) ranges_passed

accepts : (k step : ℕ) (basis word values next : List ℕ)
    → (fold_outcome k step basis word values next ≡ Ok tt)
    ↔ (InRange k step × (step ≤ k) × FoldFits k step basis word values next × Independent basis)
accepts k step basis word values next = (
  λ e.
      let p = checks.passed k step basis word values next e in
      let r = p.ranges in
      let l = p.lengths in (
        (r.at_least_2, r.at_most_20, r.step_at_least_1, r.step_at_most_3),
        r.step_fits,
        (l.list1_fits, l.list3_fits, l.list6_fits, l.list7_fits),
        p.independent,
      ),
  λ a. sym (basis_decides k step basis word values next a.0 a.1 a.2) ∙ ap outcome_of_basis a.3,
)

-- a refusal carries its cause's number and place, no round and no value, and leaves both lists
refuses : (k step : ℕ) (basis word values next : List ℕ) (cause : Cause) → round_of cause ≡ None
    → Err cause ≡ fold_outcome k step basis word values next
    → Refuses k step basis word values next (number_of cause) (place_of cause)
refuses k step basis word values next cause n e offset x =
    subst
    (λ (o : Outcome).
    FoldTells (folded_of o (next_offset step offset basis)) (number_of cause) (place_of cause) None
    × ((none : ℕ) → value_of_folded (folded_of o (next_offset step offset basis)) none ≡ none)
    × (afterwards o (folded step offset basis word x) values ≡ values)
    × (afterwards o (next_basis step basis) next ≡ next))
    e ((refl, refl, n), (λ none. refl), refl, refl)

answers_done : (k step offset : ℕ) (basis word : List ℕ) (x : ℕ) (values next : List ℕ)
    → fold_outcome k step basis word values next ≡ Ok tt
    → (fold_answer k step offset basis word values next ≡ Ok (record { 0 = next_offset step offset basis }))
    × FoldTells (fold_answer k step offset basis word values next) 0 None None
    × ((none : ℕ) → value_of_folded (fold_answer k step offset basis word values next) none ≡ next_offset step offset basis)
    × (fold_values_after k step offset basis word x values next ≡ folded step offset basis word x)
    × (next_basis_after k step basis word values next ≡ next_basis step basis)
answers_done k step offset basis word x values next e = (
  is_offset,
  (ap number_of_outcome is_offset, ap place_of_outcome is_offset, ap round_of_outcome is_offset),
  λ none. ap (λ (a : Result Element Cause). value_of_folded a none) is_offset,
  ap (λ (o : Outcome). afterwards o (folded step offset basis word x) values) e,
  ap (λ (o : Outcome). afterwards o (next_basis step basis) next) e,
)
  where
    is_offset : fold_answer k step offset basis word values next
        ≡ Ok (record { 0 = next_offset step offset basis })
    is_offset = ap (λ (o : Outcome). folded_of o (next_offset step offset basis)) e

-- ---- which numbers there are

module _ (P : ℕ → Type 0) (p0 : P 0) (p4 : P 4) (p6 : P 6) (p7 : P 7) (p8 : P 8) (p13 : P 13) where
  ranges_number : (k step : ℕ) → P (number_of_outcome (fold_ranges_outcome k step))
  ranges_number k step =
      number_unless P (leb 2 k && leb k 20) DimensionOutOfRange (checks.step_checked k step) p4
      (number_unless P (leb 1 step && leb step 3) StepOutOfRange (checks.small_enough k step) p6
      (number_unless P (leb step k) DimensionTooSmall (Ok tt) p7 p0))

  lengths_number : (k step length1 length3 length6 length7 : ℕ)
      → P (number_of_outcome (fold_lengths_outcome k step length1 length3 length6 length7))
  lengths_number k step length1 length3 length6 length7 =
      number_unless P (eqb length1 k) (WrongLength lent.Basis) (checks.after1 k step length1 length3 length6 length7) p13
      (number_unless P (eqb length3 (2 ^ k)) (WrongLength lent.Word) (checks.after3 k step length1 length3 length6 length7) p13
      (number_unless P (eqb length6 (2 ^ (k - step))) (WrongLength lent.Values)
      (checks.after6 k step length1 length3 length6 length7) p13
      (number_unless P (eqb length7 (k - step)) (WrongLength lent.NextBasis) (Ok tt) p13 p0)))

  outcome_number : (k step : ℕ) (basis word values next : List ℕ)
      → P (number_of_outcome (fold_outcome k step basis word values next))
  outcome_number k step basis word values next =
      let lengths = fold_lengths_outcome k step (length basis) (length word) (length values) (length next) in
      number_then P (fold_ranges_outcome k step) (and_then lengths (basis_outcome basis)) (ranges_number k step)
      (number_then P lengths (basis_outcome basis)
      (lengths_number k step (length basis) (length word) (length values) (length next))
      (basis_number P p0 p8 basis))

same_number : (outcome : Outcome) (offset : ℕ) → number_of_outcome (folded_of outcome offset) ≡ number_of_outcome outcome
same_number (Ok _) offset = refl
same_number (Err cause) offset = refl

numbers : (k step offset : ℕ) (basis word values next : List ℕ)
    → FoldNumber (number_of_outcome (fold_answer k step offset basis word values next))
numbers k step offset basis word values next =
    subst FoldNumber
    (sym (same_number (fold_outcome k step basis word values next) (next_offset step offset basis)))
    (outcome_number FoldNumber (inl refl) (inr (inl refl)) (inr (inr (inl (omega arith, omega arith))))
    (inr (inr (inl (omega arith, omega arith)))) (inr (inr (inl (omega arith, omega arith)))) (inr (inr (inr refl)))
    k step basis word values next)

pub accepted : FoldAccepted
accepted = record { done = accepts; answer = answers_done }

pub refusals : FoldRefusals
refusals =
    record {
      dimension = λ k step basis word values next o.
          refuses k step basis word values next DimensionOutOfRange refl
          (ranges_refuse k step basis word values next DimensionOutOfRange
          (checks.dimension_refused k step (outside 2 20 k o)));
      step = λ k step basis word values next l u o.
          refuses k step basis word values next StepOutOfRange refl
          (ranges_refuse k step basis word values next StepOutOfRange
          (checks.step_refused k step (within 2 20 k l u) (outside 1 3 step o)));
      too_small = λ k step basis word values next r s.
          refuses k step basis word values next DimensionTooSmall refl
          (ranges_refuse k step basis word values next DimensionTooSmall
          (checks.too_small_refused k step (in_range_k k step r) (in_range_step k step r) (lt-leb step k s)));
      list1 = λ k step basis word values next r s n.
          refuses k step basis word values next (WrongLength lent.Basis) refl
          (lengths_refuse k step basis word values next r s (WrongLength lent.Basis)
          (checks.list1_refused k step (length basis) (length word) (length values) (length next)
          (ne_eqb (length basis) k n)));
      list3 = λ k step basis word values next r s a n.
          refuses k step basis word values next (WrongLength lent.Word) refl
          (lengths_refuse k step basis word values next r s (WrongLength lent.Word)
          (checks.list3_refused k step (length basis) (length word) (length values) (length next)
          (eq-eqb (length basis) k a) (ne_eqb (length word) (2 ^ k) n)));
      list6 = λ k step basis word values next r s a b n.
          refuses k step basis word values next (WrongLength lent.Values) refl
          (lengths_refuse k step basis word values next r s (WrongLength lent.Values)
          (checks.list6_refused k step (length basis) (length word) (length values) (length next)
          (eq-eqb (length basis) k a) (eq-eqb (length word) (2 ^ k) b) (ne_eqb (length values) (2 ^ (k - step)) n)));
      list7 = λ k step basis word values next r s a b v n.
          refuses k step basis word values next (WrongLength lent.NextBasis) refl
          (lengths_refuse k step basis word values next r s (WrongLength lent.NextBasis)
          (checks.list7_refused k step (length basis) (length word) (length values) (length next)
          (eq-eqb (length basis) k a) (eq-eqb (length word) (2 ^ k) b)
          (eq-eqb (length values) (2 ^ (k - step)) v) (ne_eqb (length next) (k - step) n)));
      dependent = λ k step basis word values next place r s f e.
          refuses k step basis word values next (BasisDependent place) refl
          (ap outcome_of_basis (sym e) ∙ basis_decides k step basis word values next r s f);
      numbers = numbers;
    }
