-- The product of the field: commutative, associative, distributive on all naturals; one is neutral on elements;
-- squaring is additive. Assumes nothing.
use mathlib.Core.Path.{◌≡◌, sym, ap, ap₂, ◌∙◌}
use Prim.Native.Nat.{ℕ, ◌^◌, ◌<◌}
use lib.Bits.{bit_xor}
use Rattle.gf64.specs.Polynomial.{carryless, remainder}
use Rattle.gf64.specs.Field.{product}
use Rattle.gf64.proofs.Xor.{xor_assoc, xor_cancel}
use Rattle.gf64.proofs.Carryless.{carryless_comm, carryless_assoc, carryless-add_r}
use Rattle.gf64.proofs.Carryless.{carryless-zero_l, carryless_one_l}
use Rattle.gf64.proofs.Remainder.{remainder-add, remainder_lt, remainder_id, remainder-zero, remainder_factor}

pub product_lt : (a b : ℕ) → product a b < 2 ^ 64
unfolding product
product_lt a b = remainder_lt (carryless a b)

pub product_comm : (a b : ℕ) → product a b ≡ product b a
unfolding product
product_comm a b = ap remainder (carryless_comm a b)

pub product_assoc : (a b c : ℕ) → product (product a b) c ≡ product a (product b c)
unfolding product
product_assoc a b c =
    remainder_factor (carryless a b) c ∙ ap remainder (carryless_assoc a b c ∙ carryless_comm a (carryless b c))
    ∙ sym (remainder_factor (carryless b c) a) ∙ ap remainder (carryless_comm (remainder (carryless b c)) a)

pub product-add_r : (a b c : ℕ) → product a (bit_xor b c) ≡ bit_xor (product a b) (product a c)
unfolding product
product-add_r a b c = ap remainder (carryless-add_r a b c) ∙ remainder-add (carryless a b) (carryless a c)

pub product-add_l : (a b c : ℕ) → product (bit_xor a b) c ≡ bit_xor (product a c) (product b c)
product-add_l a b c =
    product_comm (bit_xor a b) c ∙ product-add_r c a b ∙ ap₂ bit_xor (product_comm c a) (product_comm c b)

pub product-zero_l : (a : ℕ) → product 0 a ≡ 0
unfolding product
product-zero_l a = ap remainder (carryless-zero_l a) ∙ remainder-zero

pub product-zero_r : (a : ℕ) → product a 0 ≡ 0
product-zero_r a = product_comm a 0 ∙ product-zero_l a

pub product_one : (a : ℕ) → product 1 a ≡ remainder a
unfolding product
product_one a = ap remainder (carryless_one_l a)

pub product_one_l : (a : ℕ) → a < 2 ^ 64 → product 1 a ≡ a
product_one_l a h = product_one a ∙ remainder_id a h

pub product_one_r : (a : ℕ) → a < 2 ^ 64 → product a 1 ≡ a
product_one_r a h = product_comm a 1 ∙ product_one_l a h

pub product_left_comm : (a b c : ℕ) → product a (product b c) ≡ product b (product a c)
product_left_comm a b c =
    sym (product_assoc a b c) ∙ ap (λ (x : ℕ). product x c) (product_comm a b) ∙ product_assoc b a c

-- the product of two products, the inner factors exchanged
pub product_swap : (a b c d : ℕ) → product (product a b) (product c d) ≡ product (product a c) (product b d)
product_swap a b c d =
    product_assoc a b (product c d) ∙ ap (product a) (product_left_comm b c d) ∙ sym (product_assoc a c (product b d))

-- the two mixed terms of the square of a sum cancel
pub square_add : (a b : ℕ) → product (bit_xor a b) (bit_xor a b) ≡ bit_xor (product a a) (product b b)
square_add a b =
    product-add_l a b (bit_xor a b)
    ∙ ap₂ bit_xor (product-add_r a a b) (product-add_r b a b ∙ ap (λ (x : ℕ). bit_xor x (product b b)) (product_comm b a))
    ∙ xor_assoc (product a a) (product a b) (bit_xor (product a b) (product b b))
    ∙ ap (bit_xor (product a a)) (xor_cancel (product a b) (product b b))
