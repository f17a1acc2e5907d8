-- The reduction of 128 bits: the product by the bits of the reduction constant, and the high half reduced with what it
-- leaves over 64 bits. Assumes nothing.
use mathlib.Core.Path.{◌≡◌, sym, ap, ap₂, ◌∙◌, subst}
use Prim.Native.Nat.{ℕ, suc, ◌+◌, ◌*◌, ◌/◌, ◌%◌, ◌^◌, ◌<◌}
use native.Mathlib.Nat.{mod-lt, add_comm, mul_assoc, one-mul, zero-mul, lt_of_lt_of_le, mod-eq_of_lt}
use native.Mathlib.Omega.{arith}
use native.Mathlib.Bridge.{le_by_compare, IsLe}
use lib.Pow.{pow_pos, mod-pow-add, low as lower}
use lib.Bits.{bit_xor, xor_shifted, xor_comm, xor_zero_r, xor_mod}
use Rattle.gf64.specs.Polynomial.{carryless, remainder, reduction}
use Rattle.gf64.proofs.Remainder.{remainder_high, remainder_id}
use Rattle.gf64.proofs.Carryless.{carryless_lt, carryless-add_l, carryless-add_r, carryless_shift_l, carryless_comm}
use Rattle.gf64.proofs.Carryless.{carryless_bit_r}

-- ---- a product by the i + 1 low bits of x, from that by the i low bits

low_bits : (x i a : ℕ) → carryless (x % 2 ^ (i + 1)) a ≡ bit_xor (carryless (x % 2 ^ i) a) (x / 2 ^ i % 2 * (a * 2 ^ i))
low_bits x i a =
    ap (λ (n : ℕ). carryless (x % 2 ^ n) a) (add_comm i 1)
    ∙ ap (λ (y : ℕ). carryless y a)
    (mod-pow-add x 1 i ∙ sym (xor_shifted (x / 2 ^ i % 2) i (x % 2 ^ i) (mod-lt x (pow_pos i))))
    ∙ carryless-add_l (x / 2 ^ i % 2 * 2 ^ i) (x % 2 ^ i) a
    ∙ xor_comm (carryless (x / 2 ^ i % 2 * 2 ^ i) a) (carryless (x % 2 ^ i) a)
    ∙ ap (bit_xor (carryless (x % 2 ^ i) a))
    (carryless_shift_l i (x / 2 ^ i % 2) a
    ∙ ap (λ (y : ℕ). y * 2 ^ i) (carryless_comm (x / 2 ^ i % 2) a ∙ carryless_bit_r (x / 2 ^ i) a)
    ∙ mul_assoc (x / 2 ^ i % 2) a (2 ^ i))

pub bit_set : (x i a w : ℕ) → x / 2 ^ i % 2 ≡ 1 → w ≡ carryless (x % 2 ^ i) a
    → bit_xor w (a * 2 ^ i) ≡ carryless (x % 2 ^ (i + 1)) a
bit_set x i a w e h =
    ap₂ bit_xor h (sym (one-mul (a * 2 ^ i)) ∙ ap (λ (b : ℕ). b * (a * 2 ^ i)) (sym e)) ∙ sym (low_bits x i a)

pub bit_clear : (x i a w : ℕ) → x / 2 ^ i % 2 ≡ 0 → w ≡ carryless (x % 2 ^ i) a → w ≡ carryless (x % 2 ^ (i + 1)) a
bit_clear x i a w e h =
    h ∙ sym (xor_zero_r (carryless (x % 2 ^ i) a))
    ∙ ap (bit_xor (carryless (x % 2 ^ i) a)) (sym (zero-mul (a * 2 ^ i)) ∙ ap (λ (b : ℕ). b * (a * 2 ^ i)) (sym e))
    ∙ sym (low_bits x i a)

-- ---- t^64 · h reduces to 64 bits and `over`, and t^64 · over to 64 bits alone

over_short : (h over low : ℕ) → h < 2 ^ 64 → over * 2 ^ 64 + low ≡ carryless reduction h → over < 2 ^ 5
unfolding IsLe
over_short h over low hh e =
    omega (
      arith,
      subst (λ (x : ℕ). x < 2 ^ 69) (sym e)
          (carryless_lt 5 64 reduction h (le_by_compare (suc reduction) 32 tt) hh),
    )

over_times-reduction : (over : ℕ) → over < 2 ^ 5 → carryless reduction over < 2 ^ 64
unfolding IsLe
over_times-reduction over h = lt_of_lt_of_le (carryless_lt 5 5 reduction over (le_by_compare (suc reduction) 32 tt) h)
    (le_by_compare 1024 (2 ^ 64) tt)

pub reduced_together : (h l over low high' low' : ℕ) → h < 2 ^ 64 → l < 2 ^ 64 → low < 2 ^ 64 → low' < 2 ^ 64
    → over * 2 ^ 64 + low ≡ carryless reduction h → high' * 2 ^ 64 + low' ≡ carryless reduction (bit_xor h over)
    → bit_xor l low' ≡ remainder (h * 2 ^ 64 + l)
reduced_together h l over low high' low' hh hl hlow hlow' once both =
    xor_comm l low' ∙ ap (λ (x : ℕ). bit_xor x l) both_low
    ∙ ap (λ (x : ℕ). bit_xor x l)
    (xor_comm low (carryless reduction over)
    ∙ ap (λ (x : ℕ). bit_xor x low) (sym (remainder_id (carryless reduction over) short))
    ∙ sym (remainder_high over low hlow) ∙ ap remainder once)
    ∙ sym (remainder_high h l hl)
  where
    short : carryless reduction over < 2 ^ 64
    short = over_times-reduction over (over_short h over low hh once)

    both_low : low' ≡ bit_xor low (carryless reduction over)
    both_low =
        sym (lower high' 64 hlow') ∙ ap (λ (x : ℕ). x % 2 ^ 64) (both ∙ carryless-add_r reduction h over)
        ∙ xor_mod (carryless reduction h) (carryless reduction over) 64
        ∙ ap₂ bit_xor (ap (λ (x : ℕ). x % 2 ^ 64) (sym once) ∙ lower over 64 hlow) (mod-eq_of_lt short)
