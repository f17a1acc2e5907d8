-- Coefficient n of a product of polynomials over GF(2) is the sum over i + j = n of a_i · b_j,
-- modulo 2. Assumes nothing.
use mathlib.Core.Path.{◌≡◌, sym, ap, ap₂, ◌∙◌}
use Prim.Native.Nat.{ℕ, zero, suc, ◌+◌, ◌*◌, ◌/◌, ◌%◌, ◌^◌}
use native.Mathlib.Nat.{zero-mul, one-mul, div-one, mul-div-mul_right, pow-suc}
use native.Mathlib.Nat.{zero-lt-suc, zero-div, add-zero, mul-mod_left}
use native.Mathlib.Omega.{arith}
use lib.Bits.{bit_xor, xor_shr}
use Rattle.gf64.specs.Polynomial.{carryless}
use Rattle.gf64.specs.Theorems.{coefficient, convolution}
use Rattle.gf64.proofs.Xor.{xor_parity, by_bit}
use Rattle.gf64.proofs.Carryless.{carryless_step}

pub coefficient-sum : (x y n : ℕ) → coefficient (bit_xor x y) n ≡ (coefficient x n + coefficient y n) % 2
coefficient-sum x y n =
    ap (λ (v : ℕ). v % 2) (xor_shr x y n) ∙ xor_parity (x / 2 ^ n) (y / 2 ^ n) ∙ parities (x / 2 ^ n) (y / 2 ^ n)
  where
    parities : (u v : ℕ) → (u + v) % 2 ≡ (u % 2 + v % 2) % 2
    parities u v = omega arith

coefficient_bit : (a b n : ℕ) → coefficient (a % 2 * b) n ≡ a % 2 * coefficient b n
coefficient_bit a b n =
    by_bit (λ (r : ℕ). coefficient (r * b) n ≡ r * coefficient b n)
    (ap (λ (x : ℕ). coefficient x n) (zero-mul b) ∙ of_zero ∙ sym (zero-mul (coefficient b n)))
    (ap (λ (x : ℕ). coefficient x n) (one-mul b) ∙ sym (one-mul (coefficient b n))) a
  where
    of_zero : coefficient 0 n ≡ 0
    of_zero = ap (λ (x : ℕ). x % 2) (zero-div (2 ^ n))

coefficient_double : (x n : ℕ) → coefficient (x * 2) (suc n) ≡ coefficient x n
coefficient_double x n =
    ap (λ (d : ℕ). x * 2 / d % 2) (pow-suc 2 n) ∙ ap (λ (v : ℕ). v % 2) (mul-div-mul_right x (2 ^ n) (zero-lt-suc 1))

pub coefficients : (a b n : ℕ) → coefficient (carryless a b) n ≡ convolution a b n % 2
unfolding convolution
coefficients a b zero =
    ap (λ (x : ℕ). coefficient x 0) (carryless_step a b)
    ∙ coefficient-sum (a % 2 * b) (carryless (a / 2) b * 2) 0
    ∙ ap₂ (λ (x y : ℕ). (x + y) % 2) (coefficient_bit a b 0 ∙ ap (λ (x : ℕ). a % 2 * (x % 2)) (div-one b)) even
    ∙ ap (λ (x : ℕ). x % 2) (add-zero (a % 2 * (b % 2)))
  where
    even : coefficient (carryless (a / 2) b * 2) 0 ≡ 0
    even = ap (λ (x : ℕ). x % 2) (div-one (carryless (a / 2) b * 2)) ∙ mul-mod_left (carryless (a / 2) b) 2
coefficients a b (suc n) =
    ap (λ (x : ℕ). coefficient x (suc n)) (carryless_step a b)
    ∙ coefficient-sum (a % 2 * b) (carryless (a / 2) b * 2) (suc n)
    ∙ ap₂ (λ (x y : ℕ). (x + y) % 2) (coefficient_bit a b (suc n))
    (coefficient_double (carryless (a / 2) b) n ∙ coefficients (a / 2) b n)
    ∙ reduced_late (a % 2 * coefficient b (suc n)) (convolution (a / 2) b n)
  where
    reduced_late : (u v : ℕ) → (u + v % 2) % 2 ≡ (u + v) % 2
    reduced_late u v = omega arith
