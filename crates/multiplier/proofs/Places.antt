-- Products by t^k, and a product from those of the factor's parts. Assumes nothing.
use mathlib.Core.Path.{◌≡◌, sym, ap, ap₂, ◌∙◌}
use Prim.Native.Nat.{ℕ, ◌+◌, ◌*◌, ◌/◌, ◌%◌, ◌^◌}
use native.Mathlib.Nat.{mod-lt, mod-one, one-mul, mul-one, mul-add, add_comm}
use lib.Pow.{pow_pos, mod-pow-add}
use lib.Bits.{bit_xor, xor_shifted, xor_comm}
use Rattle.gf64.specs.Polynomial.{carryless, remainder}
use Rattle.gf64.specs.Field.{product}
use Rattle.gf64.proofs.Carryless.{carryless_comm, carryless_assoc, carryless_one_l, carryless_shift_l}
use Rattle.gf64.proofs.Remainder.{remainder-add, remainder_factor}
use Rattle.gf64.proofs.Ring.{product-add_r, product-zero_r}

-- ---- a factor t^k is a shift

carryless-power : (a k : ℕ) → carryless a (2 ^ k) ≡ a * 2 ^ k
carryless-power a k =
    carryless_comm a (2 ^ k) ∙ ap (λ (x : ℕ). carryless x a) (sym (one-mul (2 ^ k))) ∙ carryless_shift_l k 1 a
    ∙ ap (λ (x : ℕ). x * 2 ^ k) (carryless_one_l a)

pub product-power : (a k : ℕ) → product a (2 ^ k) ≡ remainder (a * 2 ^ k)
unfolding product
product-power a k = ap remainder (carryless-power a k)

pub product_shifted : (c a k : ℕ) → product (product c a) (2 ^ k) ≡ product c (a * 2 ^ k)
unfolding product
product_shifted c a k =
    remainder_factor (carryless c a) (2 ^ k)
    ∙ ap remainder (carryless_assoc c a (2 ^ k) ∙ ap (carryless c) (carryless-power a k))

-- ---- a product by the j · (n + 1) low bits of x, from that by the j · n low bits

pub no_bits : (c x : ℕ) → 0 ≡ product c (x % 1)
no_bits c x = sym (product-zero_r c) ∙ ap (product c) (sym (mod-one x))

pub more_bits : (c x j n : ℕ) →
    bit_xor (product c (x % 2 ^ (j * n))) (product c (x / 2 ^ (j * n) % 2 ^ j * 2 ^ (j * n)))
    ≡ product c (x % 2 ^ (j * (n + 1)))
more_bits c x j n =
    xor_comm (product c low) (product c (part * 2 ^ k)) ∙ sym (product-add_r c (part * 2 ^ k) low)
    ∙ ap (product c)
    (xor_shifted part k low (mod-lt x (pow_pos k)) ∙ sym (mod-pow-add x j k) ∙ ap (λ (m : ℕ). x % 2 ^ m) bits)
  where
    k : ℕ
    k = j * n

    low : ℕ
    low = x % 2 ^ k

    part : ℕ
    part = x / 2 ^ k % 2 ^ j

    bits : j + k ≡ j * (n + 1)
    bits = add_comm j k ∙ ap (λ (m : ℕ). k + m) (sym (mul-one j)) ∙ sym (mul-add j n 1)

-- the same for a sum w that is not reduced
pub more_bits_unreduced : (c x j n w part : ℕ) → remainder w ≡ product c (x % 2 ^ (j * n))
    → part ≡ product c (x / 2 ^ (j * n) % 2 ^ j)
    → remainder (bit_xor w (part * 2 ^ (j * n))) ≡ product c (x % 2 ^ (j * (n + 1)))
more_bits_unreduced c x j n w part ew ep =
    remainder-add w (part * 2 ^ (j * n))
    ∙ ap₂ bit_xor ew
    (sym (product-power part (j * n)) ∙ ap (λ (p : ℕ). product p (2 ^ (j * n))) ep
    ∙ product_shifted c (x / 2 ^ (j * n) % 2 ^ j) (j * n))
    ∙ more_bits c x j n
