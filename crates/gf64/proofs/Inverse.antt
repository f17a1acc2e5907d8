-- Every nonzero element has exactly one inverse, a^(2^64 - 2), and there are no zero divisors.
-- a^(2^64) = a, so e = a · a^(2^64 - 2) is its own square and a · e = a; so e is 1 unless a is 0. Assumes nothing.
use mathlib.Core.Path.{◌≡◌, refl, sym, ap, ◌∙◌, subst}
use mathlib.Core.Logic.{◌≢◌}
use Prim.Native.Nat.{ℕ, zero, suc, ◌*◌, ◌-◌, ◌^◌, ◌<◌}
use native.Mathlib.Nat.{mul_comm, pow-suc}
use native.Mathlib.Omega.{arith}
use lib.Pow.{pow-lt}
use Rattle.gf64.specs.Polynomial.{remainder}
use Rattle.gf64.specs.Field.{product, power, inverse}
use Rattle.gf64.proofs.Carryless.{carryless_double_l, carryless_one_l}
use Rattle.gf64.proofs.Remainder.{remainder_id}
use Rattle.gf64.proofs.Ring.{product_lt, product_comm, product_assoc, product_one_l}
use Rattle.gf64.proofs.Ring.{product_one_r, product-zero_l, product-zero_r}
use Rattle.gf64.proofs.Additive.{agree}
use Rattle.gf64.proofs.Power.{power_zero, power-suc, power-mul, power_lt, power-sum}
use Rattle.gf64.proofs.Certificate.{t_power, idempotent_small}

-- ---- a^(2^64) = a

double : (a : ℕ) → a * 2 < 2 ^ 64 → product 2 a ≡ a * 2
unfolding product
double a h = ap remainder (carryless_double_l 1 a ∙ ap (λ (x : ℕ). x * 2) (carryless_one_l a)) ∙ remainder_id (a * 2) h

powers_of_t : (i : ℕ) → i < 64 → power 2 i ≡ 2 ^ i
powers_of_t zero h = power_zero 2
powers_of_t (suc i) h =
    power-suc 2 i ∙ ap (product 2) (powers_of_t i (omega arith))
    ∙ double (2 ^ i) (subst (λ (x : ℕ). x < 2 ^ 64) (pow-suc 2 i) (pow-lt h)) ∙ sym (pow-suc 2 i)

frobenius_at : (i : ℕ) → i < 64 → power (2 ^ i) (2 ^ 64) ≡ 2 ^ i
frobenius_at i h =
    ap (λ (x : ℕ). power x (2 ^ 64)) (sym (powers_of_t i h)) ∙ sym (power-mul 2 i (2 ^ 64))
    ∙ ap (power 2) (mul_comm i (2 ^ 64)) ∙ power-mul 2 (2 ^ 64) i ∙ ap (λ (x : ℕ). power x i) t_power ∙ powers_of_t i h

pub frobenius : (a : ℕ) → a < 2 ^ 64 → power a (2 ^ 64) ≡ a
frobenius = agree (λ a. power a (2 ^ 64)) (λ a. a) (power-sum 64) (λ a b. refl) 64 frobenius_at

-- ---- the inverse

pub inverse_lt : (a : ℕ) → inverse a < 2 ^ 64
unfolding inverse
inverse_lt a = power_lt a (2 ^ 64 - 2)

-- a² · inverse a
absorbed : (a : ℕ) → a < 2 ^ 64 → product a (product a (inverse a)) ≡ a
unfolding inverse
absorbed a h =
    ap (product a) (sym (power-suc a (2 ^ 64 - 2))) ∙ sym (power-suc a (2 ^ 64 - 1)) ∙ frobenius a h

own_square : (a : ℕ) → a < 2 ^ 64 → product (product a (inverse a)) (product a (inverse a)) ≡ product a (inverse a)
own_square a h =
    sym (product_assoc (product a (inverse a)) a (inverse a))
    ∙ ap (λ (x : ℕ). product x (inverse a)) (product_comm (product a (inverse a)) a ∙ absorbed a h)

pub inverse_right : (a : ℕ) → a < 2 ^ 64 → a ≢ 0 → product a (inverse a) ≡ 1
inverse_right a h nz =
    pick (product a (inverse a)) refl
    (idempotent_small (product a (inverse a)) (product_lt a (inverse a)) (own_square a h))
  where
    pick : (e : ℕ) → product a (inverse a) ≡ e → e < 2 → product a (inverse a) ≡ 1
    pick zero p l = absurd (nz (sym (absorbed a h) ∙ ap (product a) p ∙ product-zero_r a))
    pick (suc zero) p l = p
    pick (suc (suc e)) p l = absurd (omega arith)

pub inverse_unique : (a x : ℕ) → a < 2 ^ 64 → x < 2 ^ 64 → product a x ≡ 1 → x ≡ inverse a
inverse_unique a x ha hx e =
    sym (product_one_r x hx) ∙ ap (product x) (sym (inverse_right a ha nonzero)) ∙ sym (product_assoc x a (inverse a))
    ∙ ap (λ (y : ℕ). product y (inverse a)) (product_comm x a ∙ e) ∙ product_one_l (inverse a) (inverse_lt a)
  where
    nonzero : a ≢ 0
    nonzero z = zero_not_one (sym (product-zero_l x) ∙ ap (λ (y : ℕ). product y x) (sym z) ∙ e)
      where
        zero_not_one : ◌≡◌ {A = ℕ} 0 1 → ⊥
        zero_not_one p = omega arith

pub no_zero_divisors : (a b : ℕ) → a < 2 ^ 64 → b < 2 ^ 64 → a ≢ 0 → product a b ≡ 0 → b ≡ 0
no_zero_divisors a b ha hb nz e =
    sym (product_one_l b hb) ∙ ap (λ (x : ℕ). product x b) (sym (inverse_right a ha nz) ∙ product_comm a (inverse a))
    ∙ product_assoc (inverse a) a b ∙ ap (product (inverse a)) e ∙ product-zero_r (inverse a)

pub inverse-zero : inverse 0 ≡ 0
unfolding inverse
inverse-zero = power-suc 0 (2 ^ 64 - 3) ∙ product-zero_l (power 0 (2 ^ 64 - 3))
