-- The lent list by its length. Assumes nothing.
use mathlib.Core.Path.{◌≡◌, sym, ap, ◌∙◌}
use mathlib.Core.Bool.{Bool, cond}
use mathlib.Core.List.{List}
use Prim.Native.Nat.{ℕ}
use lib.ListN.{length}
use borrow.Author.Tests.{eq-eqb, ne_eqb}
use Rattle.c_answers.specs.declared.Answer.{Answer}
use Rattle.c_answers.specs.Answers.{numbers_of, answered, where_answered}

pub answered_five : (a : Answer) (lent : List ℕ) → length lent ≡ 5 → numbers_of a ≡ answered a lent
answered_five a lent h = sym (ap (λ (b : Bool). cond b (numbers_of a) lent) (eq-eqb (length lent) 5 h))

pub where_answered_five : (lent left held : List ℕ) → length lent ≡ 5 → left ≡ where_answered lent left held
where_answered_five lent left held h = sym (ap (λ (b : Bool). cond b left held) (eq-eqb (length lent) 5 h))

pub where_answered_other : (lent left held : List ℕ) → (length lent ≡ 5 → ⊥) → held ≡ where_answered lent left held
where_answered_other lent left held h = sym (ap (λ (b : Bool). cond b left held) (ne_eqb (length lent) 5 h))

pub answered_other : (a : Answer) (lent : List ℕ) → (length lent ≡ 5 → ⊥) → lent ≡ answered a lent
answered_other a lent h = sym (ap (λ (b : Bool). cond b (numbers_of a) lent) (ne_eqb (length lent) 5 h))

-- nothing is done where the answer's list has another length
pub left_alone : (a : Answer) (lent left held : List ℕ) → (length lent ≡ 5 → ⊥)
    → (lent ≡ answered a lent) × (held ≡ where_answered lent left held)
left_alone a lent left held h = (answered_other a lent h, where_answered_other lent left held h)

-- and else the answer is written and the operation's list is as it leaves it
pub written : (a given : Answer) (lent left held lent' held' : List ℕ) → length lent ≡ 5
    → lent' ≡ numbers_of given → given ≡ a → held' ≡ left
    → (lent' ≡ answered a lent) × (held' ≡ where_answered lent left held)
written a given lent left held lent' held' five w g l =
    (w ∙ ap numbers_of g ∙ answered_five a lent five, l ∙ where_answered_five lent left held five)
