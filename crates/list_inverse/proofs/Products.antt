-- The product of the nonzero elements of a list: one element more, and what its inverse gives by one factor. Assumes
-- nothing.
use mathlib.Core.Path.{◌≡◌, refl, ap, ◌∙◌}
use mathlib.Core.Logic.{◌≢◌}
use mathlib.Core.Bool.{Bool, true, false, cond}
use mathlib.Core.List.{List}
use Prim.Native.Nat.{ℕ, zero, suc, ◌+◌, ◌^◌, ◌<◌}
use native.Mathlib.Numerals.{add-one}
use native.Mathlib.Omega.{arith}
use lib.Dec.{eqb}
use lib.ListN.{get_or}
use borrow.Author.Tests.{eq-eqb, ne_eqb, eqb-false}
use Rattle.gf64.specs.Field.{product, inverse}
use Rattle.gf64.proofs.Ring.{product_lt, product_comm, product_left_comm}
use Rattle.gf64.proofs.Inverse.{inverse_right, inverse_unique, no_zero_divisors}
use Rattle.list_inverse.specs.Products.{nonzero_product}

pub past_zero : (elements : List ℕ) (n : ℕ) → get_or elements n 0 ≡ 0
    → nonzero_product elements (suc n) ≡ nonzero_product elements n
unfolding nonzero_product
past_zero elements n e =
    ap (λ (b : Bool). cond b (nonzero_product elements n) (product (nonzero_product elements n) (get_or elements n 0)))
    (eq-eqb (get_or elements n 0) 0 e)

pub past_nonzero : (elements : List ℕ) (n : ℕ) → get_or elements n 0 ≢ 0
    → nonzero_product elements (suc n) ≡ product (nonzero_product elements n) (get_or elements n 0)
unfolding nonzero_product
past_nonzero elements n ne =
    ap (λ (b : Bool). cond b (nonzero_product elements n) (product (nonzero_product elements n) (get_or elements n 0)))
    (ne_eqb (get_or elements n 0) 0 ne)

-- the same, as a loop counts
pub past_zero_next : (elements : List ℕ) (n : ℕ) → get_or elements n 0 ≡ 0
    → nonzero_product elements (n + 1) ≡ nonzero_product elements n
past_zero_next elements n e = ap (nonzero_product elements) (add-one n) ∙ past_zero elements n e

pub past_nonzero_next : (elements : List ℕ) (n : ℕ) → get_or elements n 0 ≢ 0
    → nonzero_product elements (n + 1) ≡ product (nonzero_product elements n) (get_or elements n 0)
past_nonzero_next elements n e = ap (nonzero_product elements) (add-one n) ∙ past_nonzero elements n e

pub product_element : (elements : List ℕ) (n : ℕ) → nonzero_product elements n < 2 ^ 64
unfolding nonzero_product
product_element elements zero = omega arith
product_element elements (suc n) = either (eqb (get_or elements n 0) 0) (product_element elements n)
  where
    either : (b : Bool) → nonzero_product elements n < 2 ^ 64
        → cond b (nonzero_product elements n) (product (nonzero_product elements n) (get_or elements n 0)) < 2 ^ 64
    either true h = h
    either false h = product_lt (nonzero_product elements n) (get_or elements n 0)

pub product_not_zero : (elements : List ℕ) → ((i : ℕ) → get_or elements i 0 < 2 ^ 64) → (n : ℕ)
    → nonzero_product elements n ≢ 0
unfolding nonzero_product
product_not_zero elements h zero e = omega arith
product_not_zero elements h (suc n) e =
    either (eqb (get_or elements n 0) 0) refl (product_not_zero elements h n) e
  where
    either : (b : Bool) → eqb (get_or elements n 0) 0 ≡ b → nonzero_product elements n ≢ 0
        → cond b (nonzero_product elements n) (product (nonzero_product elements n) (get_or elements n 0)) ≢ 0
    either true t earlier e = earlier e
    either false t earlier e =
        eqb-false (get_or elements n 0) 0 t
        (no_zero_divisors (nonzero_product elements n) (get_or elements n 0) (product_element elements n) (h n) earlier e)

-- the inverse of a · b, times a, is that of b
pub divided : (a b : ℕ) → a < 2 ^ 64 → b < 2 ^ 64 → a ≢ 0 → b ≢ 0 → product (inverse (product a b)) a ≡ inverse b
divided a b ha hb na nb =
    inverse_unique b (product (inverse (product a b)) a) hb (product_lt (inverse (product a b)) a)
    (product_left_comm b (inverse (product a b)) a
    ∙ ap (product (inverse (product a b))) (product_comm b a)
    ∙ product_comm (inverse (product a b)) (product a b)
    ∙ inverse_right (product a b) (product_lt a b) (λ z. nb (no_zero_divisors a b ha hb na z)))
