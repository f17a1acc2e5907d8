-- The polynomial product over GF(2): commutative, associative, distributive, on all naturals.
-- Everything follows from one equation, `carryless_step`, and induction on the bits. Assumes nothing.
use mathlib.Core.Path.{◌≡◌, refl, sym, ap, ap₂, ◌∙◌, subst}
use Prim.Native.Nat.{ℕ, zero, suc, ◌+◌, ◌*◌, ◌/◌, ◌%◌, ◌^◌, ◌≤◌, ◌<◌}
use native.Mathlib.Nat.{zero-mul, one-mul, mul-zero, mul-one, mul_assoc, mul-div_cancel, mul-mod_left}
use native.Mathlib.Nat.{not-suc-le-zero, le_refl, zero-lt-suc, mod-lt, suc-add, lt_of_lt_of_le, le-add_left, pow-suc}
use native.Mathlib.Decide.{le_ind}
use native.Mathlib.Omega.{arith}
use lib.Arith.{bin_ind, half_le, lt-one}
use lib.Pow.{pow_pos, pow_mono, split}
use lib.Bits.{bit_xor, xor_zero_r, xor_shifted, xor_lt}
use Rattle.gf64.specs.Polynomial.{carryless, carryless_in}
use Rattle.gf64.proofs.Xor.{xor_swap, xor_double, xor_split, by_bit, bit_add_r}

-- ---- the step

more : (n a b : ℕ) → a ≤ n → carryless_in (suc n) a b ≡ carryless_in n a b
unfolding carryless_in
more zero zero b h = refl
more zero (suc a) b h = absurd (not-suc-le-zero h)
more (suc n) zero b h = refl
more (suc n) (suc a) b h = ap (λ (x : ℕ). bit_xor (suc a % 2 * b) (x * 2)) (more n (suc a / 2) b (half_le h))

enough : (n a b : ℕ) → a ≤ n → carryless_in n a b ≡ carryless_in a a b
enough n a b h =
    le_ind (λ (m : ℕ). carryless_in m a b ≡ carryless_in a a b) refl (λ m k e. more m a b k ∙ e) n h

pub carryless_step : (a b : ℕ) → carryless a b ≡ bit_xor (a % 2 * b) (carryless (a / 2) b * 2)
unfolding carryless carryless_in
carryless_step zero b = sym (ap (λ (x : ℕ). bit_xor x 0) (zero-mul b))
carryless_step (suc a) b =
    ap (λ (x : ℕ). bit_xor (suc a % 2 * b) (x * 2)) (enough a (suc a / 2) b (half_le (le_refl (suc a))))

pub carryless-zero_l : (b : ℕ) → carryless 0 b ≡ 0
unfolding carryless carryless_in
carryless-zero_l b = refl

-- ---- doubling, zero and one

pub carryless_double_l : (a b : ℕ) → carryless (a * 2) b ≡ carryless a b * 2
carryless_double_l a b =
    carryless_step (a * 2) b
    ∙ ap₂ (λ (x y : ℕ). bit_xor (x * b) (carryless y b * 2)) (mul-mod_left a 2) (mul-div_cancel a (zero-lt-suc 1))
    ∙ ap (λ (x : ℕ). bit_xor x (carryless a b * 2)) (zero-mul b)

pub carryless_one_l : (b : ℕ) → carryless 1 b ≡ b
carryless_one_l b =
    carryless_step 1 b
    ∙ ap₂ (λ (x y : ℕ). bit_xor x (y * 2)) (one-mul b) (carryless-zero_l b) ∙ xor_zero_r b

pub carryless-zero_r : (a : ℕ) → carryless a 0 ≡ 0
carryless-zero_r =
    bin_ind (λ (n : ℕ). carryless n 0 ≡ 0) (carryless-zero_l 0)
    (λ n ih. carryless_step n 0 ∙ ap₂ (λ (x y : ℕ). bit_xor x (y * 2)) (mul-zero (n % 2)) ih)

pub carryless_one_r : (a : ℕ) → carryless a 1 ≡ a
carryless_one_r =
    bin_ind (λ (n : ℕ). carryless n 1 ≡ n) (carryless-zero_l 1)
    (λ n ih. carryless_step n 1 ∙ ap₂ (λ (x y : ℕ). bit_xor x (y * 2)) (mul-one (n % 2)) ih ∙ xor_split n)

-- ---- distributive

-- both parts of a step distribute, so the step does
pub carryless-add_r : (a b c : ℕ) → carryless a (bit_xor b c) ≡ bit_xor (carryless a b) (carryless a c)
carryless-add_r =
    bin_ind (λ (n : ℕ). (b c : ℕ) → carryless n (bit_xor b c) ≡ bit_xor (carryless n b) (carryless n c))
    (λ b c. carryless-zero_l (bit_xor b c) ∙ ap₂ bit_xor (sym (carryless-zero_l b)) (sym (carryless-zero_l c)))
    (λ n ih b c.
    carryless_step n (bit_xor b c)
    ∙ ap₂ bit_xor (bit_add_r n b c)
    (ap (λ (x : ℕ). x * 2) (ih b c) ∙ sym (xor_double (carryless (n / 2) b) (carryless (n / 2) c)))
    ∙ xor_swap (n % 2 * b) (n % 2 * c) (carryless (n / 2) b * 2) (carryless (n / 2) c * 2)
    ∙ ap₂ bit_xor (sym (carryless_step n b)) (sym (carryless_step n c)))

pub carryless_double_r : (a b : ℕ) → carryless a (b * 2) ≡ carryless a b * 2
carryless_double_r =
    bin_ind (λ (n : ℕ). (b : ℕ) → carryless n (b * 2) ≡ carryless n b * 2)
    (λ b. carryless-zero_l (b * 2) ∙ ap (λ (x : ℕ). x * 2) (sym (carryless-zero_l b)))
    (λ n ih b.
    carryless_step n (b * 2)
    ∙ ap₂ (λ (x y : ℕ). bit_xor x (y * 2)) (sym (mul_assoc (n % 2) b 2)) (ih b)
    ∙ xor_double (n % 2 * b) (carryless (n / 2) b * 2) ∙ ap (λ (x : ℕ). x * 2) (sym (carryless_step n b)))

-- ---- commutative

pub carryless_bit_r : (a b : ℕ) → carryless b (a % 2) ≡ a % 2 * b
carryless_bit_r a b =
    by_bit (λ (r : ℕ). carryless b r ≡ r * b) (carryless-zero_r b ∙ sym (zero-mul b))
    (carryless_one_r b ∙ sym (one-mul b)) a

pub carryless_comm : (a b : ℕ) → carryless a b ≡ carryless b a
carryless_comm =
    bin_ind (λ (n : ℕ). (b : ℕ) → carryless n b ≡ carryless b n)
    (λ b. carryless-zero_l b ∙ sym (carryless-zero_r b))
    (λ n ih b.
    carryless_step n b
    ∙ ap₂ bit_xor (sym (carryless_bit_r n b)) (ap (λ (x : ℕ). x * 2) (ih b) ∙ sym (carryless_double_r b (n / 2)))
    ∙ sym (carryless-add_r b (n % 2) (n / 2 * 2)) ∙ ap (carryless b) (xor_split n))

pub carryless-add_l : (a b c : ℕ) → carryless (bit_xor a b) c ≡ bit_xor (carryless a c) (carryless b c)
carryless-add_l a b c =
    carryless_comm (bit_xor a b) c ∙ carryless-add_r c a b ∙ ap₂ bit_xor (carryless_comm c a) (carryless_comm c b)

-- ---- associative

carryless_bit_l : (a b c : ℕ) → carryless (a % 2 * b) c ≡ a % 2 * carryless b c
carryless_bit_l a b c =
    by_bit (λ (r : ℕ). carryless (r * b) c ≡ r * carryless b c)
    (ap (λ (x : ℕ). carryless x c) (zero-mul b) ∙ carryless-zero_l c ∙ sym (zero-mul (carryless b c)))
    (ap (λ (x : ℕ). carryless x c) (one-mul b) ∙ sym (one-mul (carryless b c))) a

pub carryless_assoc : (a b c : ℕ) → carryless (carryless a b) c ≡ carryless a (carryless b c)
carryless_assoc =
    bin_ind (λ (n : ℕ). (b c : ℕ) → carryless (carryless n b) c ≡ carryless n (carryless b c))
    (λ b c. ap (λ (x : ℕ). carryless x c) (carryless-zero_l b) ∙ carryless-zero_l c
    ∙ sym (carryless-zero_l (carryless b c)))
    (λ n ih b c.
    ap (λ (x : ℕ). carryless x c) (carryless_step n b)
    ∙ carryless-add_l (n % 2 * b) (carryless (n / 2) b * 2) c
    ∙ ap₂ bit_xor (carryless_bit_l n b c) (carryless_double_l (carryless (n / 2) b) c ∙ ap (λ (x : ℕ). x * 2) (ih b c))
    ∙ sym (carryless_step n (carryless b c)))

shift_suc : (a k : ℕ) → a * 2 ^ suc k ≡ a * 2 ^ k * 2
shift_suc a k = ap (λ (x : ℕ). a * x) (pow-suc 2 k) ∙ sym (mul_assoc a (2 ^ k) 2)

-- ---- a factor in parts, and how many bits a product has

pub carryless_shift_l : (k a b : ℕ) → carryless (a * 2 ^ k) b ≡ carryless a b * 2 ^ k
carryless_shift_l zero a b = ap (λ (x : ℕ). carryless x b) (mul-one a) ∙ sym (mul-one (carryless a b))
carryless_shift_l (suc k) a b =
    ap (λ (x : ℕ). carryless x b) (shift_suc a k) ∙ carryless_double_l (a * 2 ^ k) b
    ∙ ap (λ (x : ℕ). x * 2) (carryless_shift_l k a b) ∙ sym (shift_suc (carryless a b) k)

-- the k low bits and the bits above them
pub carryless_parts : (k a b : ℕ) → carryless a b ≡ bit_xor (carryless (a / 2 ^ k) b * 2 ^ k) (carryless (a % 2 ^ k) b)
carryless_parts k a b =
    ap (λ (x : ℕ). carryless x b) (sym (split a k) ∙ sym (xor_shifted (a / 2 ^ k) k (a % 2 ^ k) (mod-lt a (pow_pos k))))
    ∙ carryless-add_l (a / 2 ^ k * 2 ^ k) (a % 2 ^ k) b
    ∙ ap (λ (x : ℕ). bit_xor x (carryless (a % 2 ^ k) b)) (carryless_shift_l k (a / 2 ^ k) b)

pub carryless_lt : (j k a b : ℕ) → a < 2 ^ j → b < 2 ^ k → carryless a b < 2 ^ (j + k)
carryless_lt zero k a b ha hb =
    subst (λ (x : ℕ). x < 2 ^ (zero + k))
    (sym (ap (λ (x : ℕ). carryless x b) (lt-one ha) ∙ carryless-zero_l b)) (pow_pos (zero + k))
carryless_lt (suc j) k a b ha hb =
    subst (λ (x : ℕ). x < 2 ^ (suc j + k)) (sym (carryless_step a b))
    (xor_lt (suc j + k) (a % 2 * b) (carryless (a / 2) b * 2)
    (by_bit (λ (r : ℕ). r * b < 2 ^ (suc j + k))
    (subst (λ (x : ℕ). x < 2 ^ (suc j + k)) (sym (zero-mul b)) (pow_pos (suc j + k)))
    (subst (λ (x : ℕ). x < 2 ^ (suc j + k)) (sym (one-mul b)) (lt_of_lt_of_le hb (pow_mono (le-add_left k (suc j)))))
    a)
    (high (carryless_lt j k (a / 2) b (omega arith) hb)))
  where
    high : carryless (a / 2) b < 2 ^ (j + k) → carryless (a / 2) b * 2 < 2 ^ (suc j + k)
    high below = rw (suc-add j k) (omega arith)
