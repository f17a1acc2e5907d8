-- A polynomial of 128 bits in two halves: sums, and what a shift moves out of 64 bits. Assumes nothing.
use mathlib.Core.Path.{◌≡◌, sym, ap, ◌∙◌}
use Prim.Native.Nat.{ℕ, ◌+◌, ◌-◌, ◌*◌, ◌/◌, ◌%◌, ◌^◌, ◌<◌}
use native.Mathlib.Nat.{mod-lt, mul-div-mul_right}
use native.Mathlib.Omega.{arith}
use lib.Pow.{pow_pos, pow-add, shr-shr, split}
use lib.Bits.{bit_xor, xor_block}

-- the sum of two, half by half
pub wide_sum : (high low x : ℕ) → low < 2 ^ 64
    → bit_xor high (x / 2 ^ 64) * 2 ^ 64 + bit_xor low (x % 2 ^ 64) ≡ bit_xor (high * 2 ^ 64 + low) x
wide_sum high low x hl =
    sym (xor_block 64 high (x / 2 ^ 64) low (x % 2 ^ 64) hl (mod-lt x (pow_pos 64)))
    ∙ ap (bit_xor (high * 2 ^ 64 + low)) (split x 64)

-- what a shift to the left by i < 64 moves out of 64 bits
pub shifted_out : (a i : ℕ) → i < 64 → a / 2 / 2 ^ (63 - i) ≡ a * 2 ^ i / 2 ^ 64
shifted_out a i h =
    shr-shr a 1 (63 - i) ∙ sym (mul-div-mul_right a (2 ^ (1 + (63 - i))) (pow_pos i))
    ∙ ap (λ (x : ℕ). a * 2 ^ i / x) (sym (pow-add 2 (1 + (63 - i)) i) ∙ ap (λ (x : ℕ). 2 ^ x) whole)
  where
    whole : 1 + (63 - i) + i ≡ 64
    whole = omega arith
