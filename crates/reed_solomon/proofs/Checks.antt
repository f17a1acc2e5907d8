-- The order of the refusals, one check after the other, and what holds where all have passed. Assumes nothing.
use mathlib.Core.Path.{◌≡◌, refl, sym, ap, ◌∙◌}
use mathlib.Core.Bool.{Bool, true, false, cond}
use mathlib.Core.List.{List}
use Prim.Native.Nat.{ℕ, ◌^◌, ◌≤◌, ◌<◌}
use lib.Dec.{leb}
use lib.ListN.{length}
use borrow.Author.Tests.{le-leb, lt-leb}
use Rattle.refusal.specs.declared.Cause.{Cause}
use Rattle.refusal.specs.declared.Cause.TheVariants.{DimensionOutOfRange, WrongLength}
use Rattle.refusal.specs.declared.Lent.TheVariants as lent
use Rattle.std.specs.Prelude.{Ok, Err}
use Rattle.refusal.specs.Outcome.{Outcome}
use Rattle.coset.specs.Span.{Independent}
use Rattle.refusal.specs.Checks.{refused_unless, afterwards}
use Rattle.refusal.proofs.Checks.{le_of_test, passed_by, refused_by, unless_done, done_holds, refused_holds}
use Rattle.coset.proofs.Independence.{independent_of}
use Rattle.coset.specs.Answers.{outcome_of_basis, basis_outcome}
use Rattle.reed_solomon.specs.Answers.{checked}

module _ (basis : List ℕ) (fits3 fits6 : Bool) where
  abbrev after3 : Outcome
  after3 = refused_unless fits6 (WrongLength lent.Values) (basis_outcome basis)

  abbrev lists : Outcome
  lists = refused_unless fits3 (WrongLength lent.Word) after3

  pub dimension_refused : 20 < length basis → Err DimensionOutOfRange ≡ checked basis fits3 fits6
  dimension_refused h = refused_by (leb (length basis) 20) DimensionOutOfRange lists (lt-leb (length basis) 20 h)

  dimension_passed : length basis ≤ 20 → lists ≡ checked basis fits3 fits6
  dimension_passed h = passed_by (leb (length basis) 20) DimensionOutOfRange lists (le-leb (length basis) 20 h)

  pub list3_refused : length basis ≤ 20 → fits3 ≡ false → Err (WrongLength lent.Word) ≡ checked basis fits3 fits6
  list3_refused h e = refused_by fits3 (WrongLength lent.Word) after3 e ∙ dimension_passed h

  list3_passed : length basis ≤ 20 → fits3 ≡ true → after3 ≡ checked basis fits3 fits6
  list3_passed h e = passed_by fits3 (WrongLength lent.Word) after3 e ∙ dimension_passed h

  pub list6_refused : length basis ≤ 20 → fits3 ≡ true → fits6 ≡ false
      → Err (WrongLength lent.Values) ≡ checked basis fits3 fits6
  list6_refused h e f = refused_by fits6 (WrongLength lent.Values) (basis_outcome basis) f ∙ list3_passed h e

  pub basis_looked_at : length basis ≤ 20 → fits3 ≡ true → fits6 ≡ true
      → basis_outcome basis ≡ checked basis fits3 fits6
  basis_looked_at h e f = passed_by fits6 (WrongLength lent.Values) (basis_outcome basis) f ∙ list3_passed h e

-- where all have passed
pub record Passed (basis : List ℕ) (fits3 fits6 : Bool) : Type 0 where
  pub small : length basis ≤ 20
  pub list3 : fits3 ≡ true
  pub list6 : fits6 ≡ true
  pub independent : Independent basis

pub passed : (basis : List ℕ) (fits3 fits6 : Bool) → checked basis fits3 fits6 ≡ Ok tt → Passed basis fits3 fits6
passed basis fits3 fits6 e =
    let first = unless_done (leb (length basis) 20) DimensionOutOfRange (lists basis fits3 fits6) e in
    let second = unless_done fits3 (WrongLength lent.Word) (after3 basis fits3 fits6) first.1 in
    let third = unless_done fits6 (WrongLength lent.Values) (basis_outcome basis) second.1 in
    record {
      small = le_of_test (length basis) 20 first.0;
      list3 = second.0;
      list6 = third.0;
      independent = independent_of basis third.1;
    }

-- the code's size is 2^k, or 0 where k is refused anyway: so the tests of the lengths may take it
pub answered_by_size : (basis : List ℕ) (fits3 fits6 : ℕ → Bool) (size : ℕ) (answer : Outcome)
    → size ≡ cond (leb (length basis) 20) (2 ^ length basis) 0
    → answer ≡ checked basis (fits3 size) (fits6 size)
    → checked basis (fits3 (2 ^ length basis)) (fits6 (2 ^ length basis)) ≡ answer
answered_by_size basis fits3 fits6 size answer e a =
    sym (a ∙ ap (λ (n : ℕ). checked basis (fits3 n) (fits6 n)) e ∙ by (leb (length basis) 20))
  where
    by : (k : Bool)
        → refused_unless k DimensionOutOfRange
        (lists basis (fits3 (cond k (2 ^ length basis) 0)) (fits6 (cond k (2 ^ length basis) 0)))
        ≡ refused_unless k DimensionOutOfRange (lists basis (fits3 (2 ^ length basis)) (fits6 (2 ^ length basis)))
    by true = refl
    by false = refl

-- conversely
pub passes : (basis : List ℕ) (fits3 fits6 : Bool) → length basis ≤ 20 → fits3 ≡ true → fits6 ≡ true → Independent basis
    → checked basis fits3 fits6 ≡ Ok tt
passes basis fits3 fits6 h e f d = sym (basis_looked_at basis fits3 fits6 h e f) ∙ ap outcome_of_basis d

-- both clauses where it is done, and where it is refused
pub done_both : (outcome : Outcome) (wanted held held' : List ℕ) → outcome ≡ Ok tt → held' ≡ wanted
    → ((Ok tt) ≡ outcome) × (held' ≡ afterwards outcome wanted held)
done_both outcome wanted held held' e w = (sym e, done_holds outcome wanted held held' e w)

pub refused_both : (outcome : Outcome) (cause : Cause) (wanted held : List ℕ) → outcome ≡ Err cause
    → (Err cause ≡ outcome) × (held ≡ afterwards outcome wanted held)
refused_both outcome cause wanted held e = (sym e, refused_holds outcome cause wanted held e)
