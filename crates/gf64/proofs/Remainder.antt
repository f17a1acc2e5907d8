-- The remainder by t^64 + t^4 + t^3 + t + 1: below 2^64, additive, the identity below 2^64, zero on multiples; x is
-- quotient · modulus + remainder, and no other number below 2^64 is such a remainder. Assumes nothing.
use mathlib.Core.Path.{◌≡◌, refl, sym, ap, ap₂, ◌∙◌, subst}
use Prim.Native.Nat.{ℕ, zero, suc, ◌+◌, ◌*◌, ◌/◌, ◌%◌, ◌^◌, ◌≤◌, ◌<◌}
use native.Mathlib.Nat.{mul-mod_left, mul-div_cancel, mod-lt, zero-lt-suc, not-suc-le-zero}
use native.Mathlib.Nat.{le_refl, div-eq_of_lt, mod-eq_of_lt, le_trans, le_of_suc-le-suc}
use native.Mathlib.Decide.{le_ind}
use native.Mathlib.Omega.{arith}
use native.Mathlib.Bridge.{le_by_compare, IsLe}
use lib.Arith.{bin_ind, half_le}
use lib.Pow.{pow_pos, pow_mono}
use lib.Bits.{bit_xor, xor_shr, xor_mod, xor_lt, xor_shifted}
use Rattle.gf64.specs.Polynomial.{carryless, times_t, remainder, remainder_in, reduction, modulus}
use Rattle.gf64.proofs.Xor.{xor_assoc, xor_swap, xor_double, xor_split}
use Rattle.gf64.proofs.Xor.{xor_cancel, xor_left_comm, by_bit, bit_add_l}
use Rattle.gf64.proofs.Carryless.{carryless_step, carryless-zero_l, carryless_double_l, carryless-add_l}
use Rattle.gf64.proofs.Carryless.{carryless_one_l, carryless_bit_r, carryless_comm, carryless_assoc}
use Rattle.gf64.proofs.Carryless.{carryless_shift_l}

-- ---- t · v reduced

pub times_t-add : (a b : ℕ) → times_t (bit_xor a b) ≡ bit_xor (times_t a) (times_t b)
unfolding times_t
times_t-add a b =
    ap₂ bit_xor
    (ap (λ (x : ℕ). x % 2 * reduction) (xor_shr a b 63) ∙ bit_add_l (a / 2 ^ 63) (b / 2 ^ 63) reduction)
    (ap (λ (x : ℕ). x % 2 ^ 64) (sym (xor_double a b)) ∙ xor_mod (a * 2) (b * 2) 64)
    ∙ xor_swap (a / 2 ^ 63 % 2 * reduction) (b / 2 ^ 63 % 2 * reduction) (a * 2 % 2 ^ 64) (b * 2 % 2 ^ 64)

times_t_lt : (v : ℕ) → times_t v < 2 ^ 64
unfolding times_t IsLe
times_t_lt v =
    xor_lt 64 (v / 2 ^ 63 % 2 * reduction) (v * 2 % 2 ^ 64)
    (by_bit (λ (r : ℕ). r * reduction < 2 ^ 64) (le_by_compare 1 (2 ^ 64) tt)
    (le_by_compare (suc reduction) (2 ^ 64) tt) (v / 2 ^ 63)) (mod-lt (v * 2) (pow_pos 64))

times_t-zero : times_t 0 ≡ 0
unfolding times_t
times_t-zero = refl

-- nothing to reduce where t · v has no bit 64
times_t_short : (v : ℕ) → v < 2 ^ 63 → times_t v ≡ v * 2
unfolding times_t
times_t_short v h =
    ap₂ (λ (x y : ℕ). bit_xor (x % 2 * reduction) y) (div-eq_of_lt h) (mod-eq_of_lt (omega arith))

-- ---- the step

more : (n x : ℕ) → x ≤ n → remainder_in (suc n) x ≡ remainder_in n x
unfolding remainder_in
more zero zero h = refl
more zero (suc x) h = absurd (not-suc-le-zero h)
more (suc n) zero h = refl
more (suc n) (suc x) h = ap (λ (r : ℕ). bit_xor (suc x % 2) (times_t r)) (more n (suc x / 2) (half_le h))

enough : (n x : ℕ) → x ≤ n → remainder_in n x ≡ remainder_in x x
enough n x h = le_ind (λ (m : ℕ). remainder_in m x ≡ remainder_in x x) refl (λ m k e. more m x k ∙ e) n h

pub remainder_step : (x : ℕ) → remainder x ≡ bit_xor (x % 2) (times_t (remainder (x / 2)))
unfolding remainder remainder_in
remainder_step zero = sym times_t-zero
remainder_step (suc x) =
    ap (λ (r : ℕ). bit_xor (suc x % 2) (times_t r)) (enough x (suc x / 2) (half_le (le_refl (suc x))))

pub remainder-zero : remainder 0 ≡ 0
unfolding remainder remainder_in
remainder-zero = refl

-- ---- below 2^64; additive; the identity below 2^64

bit_lt : (x : ℕ) → x % 2 < 2 ^ 64
unfolding IsLe
bit_lt x = by_bit (λ (r : ℕ). r < 2 ^ 64) (le_by_compare 1 (2 ^ 64) tt) (le_by_compare 2 (2 ^ 64) tt) x

pub remainder_lt : (x : ℕ) → remainder x < 2 ^ 64
remainder_lt x =
    subst (λ (r : ℕ). r < 2 ^ 64) (sym (remainder_step x))
    (xor_lt 64 (x % 2) (times_t (remainder (x / 2))) (bit_lt x) (times_t_lt (remainder (x / 2))))

pub remainder-add : (x y : ℕ) → remainder (bit_xor x y) ≡ bit_xor (remainder x) (remainder y)
remainder-add =
    bin_ind (λ (n : ℕ). (y : ℕ) → remainder (bit_xor n y) ≡ bit_xor (remainder n) (remainder y))
    (λ y. ap (λ (r : ℕ). bit_xor r (remainder y)) (sym remainder-zero))
    (λ n ih y.
    remainder_step (bit_xor n y)
    ∙ ap₂ (λ (p q : ℕ). bit_xor p (times_t q)) (xor_mod n y 1)
    (ap remainder (xor_shr n y 1) ∙ ih (y / 2))
    ∙ ap (bit_xor (bit_xor (n % 2) (y % 2))) (times_t-add (remainder (n / 2)) (remainder (y / 2)))
    ∙ xor_swap (n % 2) (y % 2) (times_t (remainder (n / 2))) (times_t (remainder (y / 2)))
    ∙ ap₂ bit_xor (sym (remainder_step n)) (sym (remainder_step y)))

below : (k x : ℕ) → x < 2 ^ k → k ≤ 64 → remainder x ≡ x
below zero x h l = ap remainder e ∙ remainder-zero ∙ sym e
  where
    e : x ≡ 0
    e = omega arith
below (suc k) x h l =
    remainder_step x
    ∙ ap (λ (r : ℕ). bit_xor (x % 2) (times_t r)) (below k (x / 2) half (omega arith))
    ∙ ap (bit_xor (x % 2)) (times_t_short (x / 2) short)
    ∙ xor_split x
  where
    half : x / 2 < 2 ^ k
    half = omega arith

    short : x / 2 < 2 ^ 63
    short = le_trans half (pow_mono (le_of_suc-le-suc l))

pub remainder_id : (x : ℕ) → x < 2 ^ 64 → remainder x ≡ x
remainder_id x h = below 64 x h (le_refl 64)

pub remainder_double : (x : ℕ) → remainder (x * 2) ≡ times_t (remainder x)
remainder_double x =
    remainder_step (x * 2)
    ∙ ap₂ (λ (p q : ℕ). bit_xor p (times_t (remainder q))) (mul-mod_left x 2) (mul-div_cancel x (zero-lt-suc 1))

-- ---- multiples of the modulus

remainder-modulus : remainder modulus ≡ 0
unfolding remainder remainder_in times_t
remainder-modulus = refl

pub remainder_multiple : (q : ℕ) → remainder (carryless q modulus) ≡ 0
remainder_multiple =
    bin_ind (λ (n : ℕ). remainder (carryless n modulus) ≡ 0) (ap remainder (carryless-zero_l modulus) ∙ remainder-zero)
    (λ n ih.
    ap remainder (carryless_step n modulus)
    ∙ remainder-add (n % 2 * modulus) (carryless (n / 2) modulus * 2)
    ∙ ap₂ bit_xor
    (by_bit (λ (r : ℕ). remainder (r * modulus) ≡ 0) remainder-zero remainder-modulus n)
    (remainder_double (carryless (n / 2) modulus) ∙ ap times_t ih ∙ times_t-zero))

-- ---- division with remainder

-- the bit 63 of r, which t carries out of 64 bits
top : ℕ → ℕ
top r = r / 2 ^ 63 % 2

top_split : (r : ℕ) → r < 2 ^ 64 → r * 2 ≡ bit_xor (top r * 2 ^ 64) (r * 2 % 2 ^ 64)
unfolding top
top_split r h = e ∙ sym (xor_shifted (r / 2 ^ 63 % 2) 64 (r * 2 % 2 ^ 64) (mod-lt (r * 2) (pow_pos 64)))
  where
    e : r * 2 ≡ r / 2 ^ 63 % 2 * 2 ^ 64 + r * 2 % 2 ^ 64
    e = omega arith

top_modulus : (r : ℕ) → top r * modulus ≡ bit_xor (top r * 2 ^ 64) (top r * reduction)
unfolding top
top_modulus r = by_bit (λ (b : ℕ). b * modulus ≡ bit_xor (b * 2 ^ 64) (b * reduction)) refl refl (r / 2 ^ 63)

-- t · r is t · r reduced, and the modulus besides where r has bit 63
carried : (r : ℕ) → r < 2 ^ 64 → r * 2 ≡ bit_xor (top r * modulus) (times_t r)
unfolding times_t top
carried r h =
    top_split r h
    ∙ ap (bit_xor (top r * 2 ^ 64)) (sym (xor_cancel (top r * reduction) (r * 2 % 2 ^ 64)))
    ∙ sym (xor_assoc (top r * 2 ^ 64) (top r * reduction) (times_t r))
    ∙ ap (λ (x : ℕ). bit_xor x (times_t r)) (sym (top_modulus r))

-- the quotient's next bit is the one that t carries out of the remainder so far
quotient_step : (x q : ℕ) → x / 2 ≡ bit_xor (carryless q modulus) (remainder (x / 2))
    → x ≡ bit_xor (carryless (bit_xor (q * 2) (top (remainder (x / 2)))) modulus) (remainder x)
unfolding top
quotient_step x q e =
    sym (xor_split x)
    ∙ ap (λ (y : ℕ). bit_xor (x % 2) (y * 2)) e
    ∙ ap (bit_xor (x % 2))
    (sym (xor_double (carryless q modulus) r)
    ∙ ap₂ bit_xor (sym (carryless_double_l q modulus)) (carried r (remainder_lt (x / 2)))
    ∙ sym (xor_assoc (carryless (q * 2) modulus) (top r * modulus) (times_t r)))
    ∙ xor_left_comm (x % 2) (bit_xor (carryless (q * 2) modulus) (top r * modulus)) (times_t r)
    ∙ ap₂ bit_xor
    (ap (bit_xor (carryless (q * 2) modulus))
    (sym (carryless_bit_r (r / 2 ^ 63) modulus) ∙ carryless_comm modulus (top r))
    ∙ sym (carryless-add_l (q * 2) (top r) modulus))
    (sym (remainder_step x))
  where
    r : ℕ
    r = remainder (x / 2)

-- x is a multiple of the modulus and the remainder
pub remainder_decomposes : (x : ℕ) → (q : ℕ) × (x ≡ bit_xor (carryless q modulus) (remainder x))
remainder_decomposes =
    bin_ind (λ (n : ℕ). (q : ℕ) × (n ≡ bit_xor (carryless q modulus) (remainder n)))
    (0, sym (ap₂ bit_xor (carryless-zero_l modulus) remainder-zero))
    (λ n ih. (bit_xor (ih.0 * 2) (top (remainder (n / 2))), quotient_step n ih.0 ih.1))

pub remainder_unique : (x q r : ℕ) → r < 2 ^ 64 → x ≡ bit_xor (carryless q modulus) r → r ≡ remainder x
remainder_unique x q r h e =
    sym (remainder_id r h) ∙ ap (λ (m : ℕ). bit_xor m (remainder r)) (sym (remainder_multiple q))
    ∙ sym (remainder-add (carryless q modulus) r) ∙ ap remainder (sym e)

-- ---- a factor may be reduced before the product is

pub remainder_factor : (a b : ℕ) → remainder (carryless (remainder a) b) ≡ remainder (carryless a b)
remainder_factor a b =
    sym (ap (λ (x : ℕ). remainder (carryless x b)) e
    ∙ ap remainder (carryless-add_l (carryless q modulus) (remainder a) b)
    ∙ remainder-add (carryless (carryless q modulus) b) (carryless (remainder a) b)
    ∙ ap (λ (x : ℕ). bit_xor x (remainder (carryless (remainder a) b)))
    (ap remainder swapped ∙ remainder_multiple (carryless q b)))
  where
    q : ℕ
    q = (remainder_decomposes a).0

    e : a ≡ bit_xor (carryless q modulus) (remainder a)
    e = (remainder_decomposes a).1

    swapped : carryless (carryless q modulus) b ≡ carryless (carryless q b) modulus
    swapped =
        carryless_assoc q modulus b ∙ ap (carryless q) (carryless_comm modulus b) ∙ sym (carryless_assoc q b modulus)

-- ---- t^64 is t^4 + t^3 + t + 1

pub remainder_high : (h l : ℕ) → l < 2 ^ 64 → remainder (h * 2 ^ 64 + l) ≡ bit_xor (remainder (carryless reduction h)) l
remainder_high h l hl =
    ap remainder (sym (xor_shifted h 64 l hl)) ∙ remainder-add (h * 2 ^ 64) l ∙ ap₂ bit_xor high (remainder_id l hl)
  where
    -- t^64 · h is the modulus times h and (t^4 + t^3 + t + 1) · h
    parts : h * 2 ^ 64 ≡ bit_xor (carryless h modulus) (carryless reduction h)
    parts =
        ap (λ (x : ℕ). x * 2 ^ 64) (sym (carryless_one_l h)) ∙ sym (carryless_shift_l 64 1 h)
        ∙ carryless-add_l modulus reduction h
        ∙ ap (λ (x : ℕ). bit_xor x (carryless reduction h)) (carryless_comm modulus h)

    high : remainder (h * 2 ^ 64) ≡ remainder (carryless reduction h)
    high =
        ap remainder parts ∙ remainder-add (carryless h modulus) (carryless reduction h)
        ∙ ap (λ (x : ℕ). bit_xor x (remainder (carryless reduction h))) (remainder_multiple h)

pub remainder_t64 : remainder (2 ^ 64) ≡ reduction
unfolding remainder remainder_in times_t
remainder_t64 = refl
