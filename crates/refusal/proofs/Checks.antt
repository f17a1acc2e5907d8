-- Tests, and what checks and lent lists come to where all pass and where one fails. Assumes nothing.
use mathlib.Core.Path.{◌≡◌, refl, sym, ap, ap₂, ◌∙◌, subst}
use mathlib.Core.Logic.{◌⊎◌, inl, inr, ⊎_elim}
use mathlib.Core.Bool.{Bool, true, false, cond, not, ◌&&◌}
use mathlib.Core.List.{List}
use Prim.Native.Nat.{ℕ, ◌≤◌, ◌<◌}
use native.Mathlib.Omega.{arith}
use lib.Dec.{T, leb, eqb, leb→le, eqb→eq}
use borrow.Author.Tests.{le-leb, lt-leb}
use Rattle.refusal.specs.declared.Cause.{Cause}
use Rattle.std.specs.Prelude.{Ok, Err}
use Rattle.refusal.specs.Outcome.{Outcome}
use Rattle.refusal.specs.Checks.{refused_unless, and_then, afterwards}
use Rattle.refusal.specs.Numbers.{number_of, number_of_outcome}

pub not_true : (a : Bool) → not a ≡ true → a ≡ false
not_true true e = sym e
not_true false e = refl

pub not_false : (a : Bool) → not a ≡ false → a ≡ true
not_false true e = refl
not_false false e = sym e

pub equal_of_test : (m n : ℕ) → eqb m n ≡ true → m ≡ n
equal_of_test m n e = eqb→eq m n (subst T (sym e) tt)

pub le_of_test : (m n : ℕ) → leb m n ≡ true → m ≤ n
le_of_test m n e = leb→le m n (subst T (sym e) tt)

pub refused_not_done : (cause : Cause) → ◌≡◌ {A = Outcome} (Err cause) (Ok tt) → ⊥
refused_not_done cause e = let impossible : ◌≡◌ {A = ℕ} 0 1 = cc in omega arith

-- what a lent list holds where it is done, and where it is refused
pub done_holds : (outcome : Outcome) (wanted held held' : List ℕ) → outcome ≡ Ok tt → held' ≡ wanted
    → held' ≡ afterwards outcome wanted held
done_holds outcome wanted held held' e w = w ∙ sym (ap (λ (o : Outcome). afterwards o wanted held) e)

pub refused_holds : (outcome : Outcome) (cause : Cause) (wanted held : List ℕ) → outcome ≡ Err cause
    → held ≡ afterwards outcome wanted held
refused_holds outcome cause wanted held e = sym (ap (λ (o : Outcome). afterwards o wanted held) e)

-- ---- one check after the other

pub passed_by : (test : Bool) (cause : Cause) (after : Outcome) → test ≡ true → after ≡ refused_unless test cause after
passed_by test cause after e = sym (ap (λ (t : Bool). refused_unless t cause after) e)

pub refused_by : (test : Bool) (cause : Cause) (after : Outcome) → test ≡ false
    → Err cause ≡ refused_unless test cause after
refused_by test cause after e = sym (ap (λ (t : Bool). refused_unless t cause after) e)

pub unless_done : (test : Bool) (cause : Cause) (after : Outcome) → refused_unless test cause after ≡ Ok tt
    → (test ≡ true) × (after ≡ Ok tt)
unless_done true cause after e = (refl, e)
unless_done false cause after e = absurd (refused_not_done cause e)

pub then_passed : (first after : Outcome) → first ≡ Ok tt → after ≡ and_then first after
then_passed first after e = sym (ap (λ (o : Outcome). and_then o after) e)

pub then_refused : (first after : Outcome) (cause : Cause) → first ≡ Err cause → Err cause ≡ and_then first after
then_refused first after cause e = sym (ap (λ (o : Outcome). and_then o after) e)

pub then_done : (first after : Outcome) → and_then first after ≡ Ok tt → (first ≡ Ok tt) × (after ≡ Ok tt)
then_done (Ok _) after e = (refl, e)
then_done (Err cause) after e = absurd (refused_not_done cause e)

pub then_then : (first second third : Outcome)
    → and_then first (and_then second third) ≡ and_then (and_then first second) third
then_then (Ok _) second third = refl
then_then (Err cause) second third = refl

-- a refusal of two groups of checks is one of the first, or of the second after the first has passed
abbrev pub Either : Outcome → Outcome → Cause → Type 0
Either first after cause = (first ≡ Err cause) ⊎ ((first ≡ Ok tt) × (after ≡ Err cause))

pub which : (first after : Outcome) (cause : Cause) → and_then first after ≡ Err cause → Either first after cause
which (Ok _) after cause e = inr (refl, e)
which (Err other) after cause e = inl e

-- ---- what holds of every outcome that checks may have, and of every number

pub holds_unless : (Q : Outcome → Type 0) (test : Bool) (cause : Cause) (after : Outcome) → Q (Err cause) → Q after
    → Q (refused_unless test cause after)
holds_unless Q true cause after c a = a
holds_unless Q false cause after c a = c

-- those after the first are asked for where it has passed
pub holds_after : (Q : Outcome → Type 0) (first after : Outcome) → Q first → (first ≡ Ok tt → Q after)
    → Q (and_then first after)
holds_after Q (Ok _) after f a = a refl
holds_after Q (Err cause) after f a = f

pub number_unless : (P : ℕ → Type 0) (test : Bool) (cause : Cause) (after : Outcome) → P (number_of cause)
    → P (number_of_outcome after)
    → P (number_of_outcome (refused_unless test cause after))
number_unless P test cause after c a = holds_unless (λ o. P (number_of_outcome o)) test cause after c a

pub number_then : (P : ℕ → Type 0) (first after : Outcome) → P (number_of_outcome first) → P (number_of_outcome after)
    → P (number_of_outcome (and_then first after))
number_then P first after f a = holds_after (λ o. P (number_of_outcome o)) first after f (λ done. a)

-- ---- two tests in one

pub both_true : (a b : Bool) → a ≡ true → b ≡ true → (a && b) ≡ true
both_true a b e f = ap₂ ◌&&◌ e f

pub first_false : (a b : Bool) → a ≡ false → (a && b) ≡ false
first_false a b e = ap (λ (t : Bool). t && b) e

pub second_false : (a b : Bool) → b ≡ false → (a && b) ≡ false
second_false true b e = e
second_false false b e = refl

pub each_true : (a b : Bool) → (a && b) ≡ true → (a ≡ true) × (b ≡ true)
each_true true b e = (refl, e)
each_true false b e = absurd (let impossible : ◌≡◌ {A = ℕ} 0 1 = ap (λ (t : Bool). cond t 1 0) e in omega arith)

-- a number in a range
pub within : (least most n : ℕ) → least ≤ n → n ≤ most → (leb least n && leb n most) ≡ true
within least most n l m = both_true (leb least n) (leb n most) (le-leb least n l) (le-leb n most m)

pub within_of : (least most n : ℕ) → (leb least n && leb n most) ≡ true → (least ≤ n) × (n ≤ most)
within_of least most n e =
    let both = each_true (leb least n) (leb n most) e in
    (le_of_test least n both.0, le_of_test n most both.1)

pub outside : (least most n : ℕ) → (n < least) ⊎ (most < n) → (leb least n && leb n most) ≡ false
outside least most n o =
    ⊎_elim (λ (l : n < least). first_false (leb least n) (leb n most) (lt-leb least n l))
    (λ (u : most < n). second_false (leb least n) (leb n most) (lt-leb n most u)) o
