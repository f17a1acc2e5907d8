-- The square of a polynomial over GF(2). It is additive, and so is moving bits apart: the two agree where they agree on
-- the powers of t. Assumes nothing.
use mathlib.Core.Path.{◌≡◌, refl}
use mathlib.Core.List.{List, [], ◌∷◌}
use Prim.Native.Nat.{ℕ, ◌+◌, ◌*◌, ◌/◌, ◌%◌, ◌^◌, ◌<◌, min}
use native.Mathlib.Omega.{arith}
use lib.Arith.{bin_ind}
use lib.Dec.{T}
use lib.Bits.{bit_and, bit_xor, and_shr, and_step, xor_zero_r, xor_self}
use Rattle.gf64.specs.Polynomial.{carryless}
use Rattle.gf64.proofs.Xor.{xor_assoc, xor_swap, xor_cancel, xor_half, xor_parity, halves_eq}
use Rattle.gf64.proofs.Additive.{Additive, shift_left_additive, agree_on, agree_tested}
use Rattle.gf64.proofs.Carryless.{carryless-add_l, carryless-add_r, carryless_comm}
use Rattle.carryless.proofs.Schoolbook.{schoolbook}

abbrev pub square : ℕ → ℕ
square a = carryless a a

-- the two mixed terms of the square of a sum cancel
square_additive : Additive square
square_additive a b =
    rw (carryless-add_l, carryless-add_r a a b, carryless-add_r b a b, carryless_comm b a, xor_assoc, xor_cancel)

-- ---- a mask is additive

and_parity : (a m : ℕ) → bit_and a m % 2 ≡ min (a % 2) (m % 2)
and_parity a m = omega (arith, and_step a m)

mask_parity : (a b m : ℕ) → bit_and (bit_xor a b) m % 2 ≡ bit_xor (bit_and a m) (bit_and b m) % 2
mask_parity a b m = simp (and_parity, xor_parity) (omega (arith, and_parity a m, and_parity b m))

and_half : (a m : ℕ) → bit_and a m / 2 ≡ bit_and (a / 2) (m / 2)
and_half a m = and_shr a m 1

mask_add : (a b m : ℕ) → bit_and (bit_xor a b) m ≡ bit_xor (bit_and a m) (bit_and b m)
mask_add =
    bin_ind (λ (n : ℕ). (b m : ℕ) → bit_and (bit_xor n b) m ≡ bit_xor (bit_and n m) (bit_and b m)) (λ b m. refl)
    (λ n ih b m. halves_eq _ _ (simp (and_half, xor_half, ih)) (mask_parity n b m))

-- ---- the square of 32 bits, by moving them apart

-- x + t^k · x
abbrev both : (k x : ℕ) → ℕ
both k x = bit_xor x (x * 2 ^ k % 2 ^ 64)

-- x after moves, each by a shift and the mask of the places that stay
abbrev pub moved : List (ℕ × ℕ) → ℕ → ℕ
moved [] x = x
moved ((k, mask) ∷ moves) x = moved moves (bit_and (both k x) mask)

moved_additive : (moves : List (ℕ × ℕ)) → Additive (moved moves)
moved_additive [] a b = refl
moved_additive ((k, mask) ∷ moves) a b =
    rw (shift_left_additive k 64 a b, xor_swap, mask_add (both k a) (both k b) mask)
    (moved_additive moves (bit_and (both k a) mask) (bit_and (both k b) mask))

-- moves that square the powers of t square all of 32 bits
pub moved_square : (moves : List (ℕ × ℕ)) (a : ℕ) → a < 2 ^ 32 → T (agree_on (moved moves) square 32)
    → moved moves a ≡ square a
moved_square moves a h t = agree_tested (moved moves) square (moved_additive moves) square_additive 32 t a h

-- ---- the square of 64 bits, by halves

pub halves_square : (a h l : ℕ) → h ≡ carryless (a / 2 ^ 32) (a / 2 ^ 32) → l ≡ carryless (a % 2 ^ 32) (a % 2 ^ 32)
    → h * 2 ^ 64 + l ≡ carryless a a
halves_square a h l eh el =
    simp xor_zero_r at
    (schoolbook a a (record { low = l; middle = 0; high = h })
    (record { low = el; middle = rw (carryless_comm (a % 2 ^ 32) (a / 2 ^ 32), xor_self); high = eh }))
