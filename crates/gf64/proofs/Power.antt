-- Powers: a^(n+1) = a · a^n, sums and products of exponents, and a^(2^k) additive in a. Assumes nothing.
use mathlib.Core.Path.{◌≡◌, refl, sym, ap, ap₂, ◌∙◌, subst}
use Prim.Native.Nat.{ℕ, zero, suc, ◌+◌, ◌*◌, ◌/◌, ◌%◌, ◌^◌, ◌≤◌, ◌<◌}
use native.Mathlib.Nat.{not-suc-le-zero, le_refl, zero-add, suc-add, mul-zero, mul-suc}
use native.Mathlib.Nat.{pow-suc, add_comm, mul-mod_left, mul-div_cancel, zero-lt-suc}
use native.Mathlib.Decide.{le_ind}
use native.Mathlib.Omega.{arith}
use native.Mathlib.Bridge.{le_by_compare, IsLe}
use lib.Arith.{bin_ind, half_le}
use lib.Bits.{bit_xor}
use Rattle.gf64.specs.Polynomial.{remainder}
use Rattle.gf64.specs.Field.{product, times_where, power_in, power}
use Rattle.gf64.proofs.Xor.{by_bit}
use Rattle.gf64.proofs.Remainder.{remainder-add}
use Rattle.gf64.proofs.Ring.{product_lt, product_comm, product_assoc, product_one}
use Rattle.gf64.proofs.Ring.{product_one_l, product_swap, square_add}

-- ---- the step

more : (f a n : ℕ) → n ≤ f → power_in (suc f) a n ≡ power_in f a n
unfolding power_in
more zero a zero h = refl
more zero a (suc n) h = absurd (not-suc-le-zero h)
more (suc f) a zero h = refl
more (suc f) a (suc n) h =
    ap (λ (p : ℕ). times_where (suc n % 2) a (product p p)) (more f a (suc n / 2) (half_le h))

enough : (f a n : ℕ) → n ≤ f → power_in f a n ≡ power_in n a n
enough f a n h = le_ind (λ (m : ℕ). power_in m a n ≡ power_in n a n) refl (λ m k e. more m a n k ∙ e) f h

pub power_zero : (a : ℕ) → power a 0 ≡ 1
unfolding power power_in
power_zero a = refl

power_step : (a n : ℕ) → power a n ≡ times_where (n % 2) a (product (power a (n / 2)) (power a (n / 2)))
unfolding power power_in times_where IsLe
power_step a zero = sym (product_one_l 1 (le_by_compare 2 (2 ^ 64) tt))
power_step a (suc n) =
    ap (λ (p : ℕ). times_where (suc n % 2) a (product p p)) (enough n a (suc n / 2) (half_le (le_refl (suc n))))

pub power_double : (a n : ℕ) → power a (n * 2) ≡ product (power a n) (power a n)
unfolding times_where
power_double a n =
    power_step a (n * 2)
    ∙ ap₂ (λ (r m : ℕ). times_where r a (product (power a m) (power a m))) (mul-mod_left n 2)
    (mul-div_cancel n (zero-lt-suc 1))

power_odd : (a n : ℕ) → power a (suc (n * 2)) ≡ product a (product (power a n) (power a n))
unfolding times_where
power_odd a n =
    power_step a (suc (n * 2))
    ∙ ap₂ (λ (r m : ℕ). times_where r a (product (power a m) (power a m))) rest half
  where
    rest : suc (n * 2) % 2 ≡ 1
    rest = omega arith

    half : suc (n * 2) / 2 ≡ n
    half = omega arith

-- ---- the textbook recursion

suc_even : (a m : ℕ) → power a (suc (m * 2)) ≡ product a (power a (m * 2))
suc_even a m = power_odd a m ∙ ap (product a) (sym (power_double a m))

suc_odd : (a m : ℕ) → power a (suc m) ≡ product a (power a m)
    → power a (suc (suc (m * 2))) ≡ product a (power a (suc (m * 2)))
suc_odd a m ih =
    ap (power a) twice ∙ power_double a (suc m) ∙ ap (λ (p : ℕ). product p p) ih
    ∙ product_swap a (power a m) a (power a m) ∙ product_assoc a a (product (power a m) (power a m))
    ∙ ap (product a) (sym (power_odd a m))
  where
    twice : suc (suc (m * 2)) ≡ suc m * 2
    twice = omega arith

pub power-suc : (a n : ℕ) → power a (suc n) ≡ product a (power a n)
power-suc a =
    bin_ind (λ (n : ℕ). power a (suc n) ≡ product a (power a n)) (suc_even a 0)
    (λ n ih.
    by_bit (λ (r : ℕ). n % 2 ≡ r → power a (suc n) ≡ product a (power a n))
    (λ e. subst (λ (m : ℕ). power a (suc m) ≡ product a (power a m)) (sym (even n e)) (suc_even a (n / 2)))
    (λ e. subst (λ (m : ℕ). power a (suc m) ≡ product a (power a m)) (sym (odd n e)) (suc_odd a (n / 2) ih)) n refl)
  where
    even : (n : ℕ) → n % 2 ≡ 0 → n ≡ n / 2 * 2
    even n e = omega arith

    odd : (n : ℕ) → n % 2 ≡ 1 → n ≡ suc (n / 2 * 2)
    odd n e = omega arith

pub power_lt : (a n : ℕ) → power a n < 2 ^ 64
unfolding IsLe
power_lt a zero = subst (λ (x : ℕ). x < 2 ^ 64) (sym (power_zero a)) (le_by_compare 2 (2 ^ 64) tt)
power_lt a (suc n) = subst (λ (x : ℕ). x < 2 ^ 64) (sym (power-suc a n)) (product_lt a (power a n))

pub power_one : (a : ℕ) → power a 1 ≡ remainder a
power_one a = power-suc a 0 ∙ ap (product a) (power_zero a) ∙ product_comm a 1 ∙ product_one a

-- ---- exponents

pub power-add : (a m n : ℕ) → power a (m + n) ≡ product (power a m) (power a n)
power-add a zero n =
    ap (power a) (zero-add n) ∙ sym (product_one_l (power a n) (power_lt a n))
    ∙ ap (λ (x : ℕ). product x (power a n)) (sym (power_zero a))
power-add a (suc m) n =
    ap (power a) (suc-add m n) ∙ power-suc a (m + n) ∙ ap (product a) (power-add a m n)
    ∙ sym (product_assoc a (power a m) (power a n)) ∙ ap (λ (x : ℕ). product x (power a n)) (sym (power-suc a m))

pub power-mul : (a m n : ℕ) → power a (m * n) ≡ power (power a m) n
power-mul a m zero = ap (power a) (mul-zero m) ∙ power_zero a ∙ sym (power_zero (power a m))
power-mul a m (suc n) =
    ap (power a) (mul-suc m n ∙ add_comm (m * n) m) ∙ power-add a m (m * n) ∙ ap (product (power a m)) (power-mul a m n)
    ∙ sym (power-suc (power a m) n)

-- ---- squaring k times is additive

pub power-sum : (k a b : ℕ) → power (bit_xor a b) (2 ^ k) ≡ bit_xor (power a (2 ^ k)) (power b (2 ^ k))
power-sum zero a b =
    power_one (bit_xor a b) ∙ remainder-add a b ∙ ap₂ bit_xor (sym (power_one a)) (sym (power_one b))
power-sum (suc k) a b =
    squared (bit_xor a b) ∙ ap (λ (p : ℕ). product p p) (power-sum k a b)
    ∙ square_add (power a (2 ^ k)) (power b (2 ^ k)) ∙ ap₂ bit_xor (sym (squared a)) (sym (squared b))
  where
    squared : (x : ℕ) → power x (2 ^ suc k) ≡ product (power x (2 ^ k)) (power x (2 ^ k))
    squared x = ap (power x) (pow-suc 2 k) ∙ power_double x (2 ^ k)
