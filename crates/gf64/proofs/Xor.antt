-- The exclusive or as a commutative group on all naturals, with shifts and parities. Assumes nothing.
use mathlib.Core.Path.{◌≡◌, refl, sym, ap, ap₂, ◌∙◌}
use Prim.Native.Nat.{ℕ, zero, suc, ◌+◌, ◌*◌, ◌/◌, ◌%◌, ◌^◌, ◌<◌}
use native.Mathlib.Nat.{add-zero, div-add-mod', mod-lt, zero-lt-suc, zero-mul, one-mul}
use native.Mathlib.Omega.{arith}
use lib.Arith.{bin_ind}
use lib.Pow.{pow_pos}
use lib.Bits.{bit_xor, xor_comm, xor_self, xor_zero_r, xor_shr, xor_mod, xor_block, xor_shifted, xor_add_and}

-- two numbers are equal when their halves and their parities are
pub halves_eq : (x y : ℕ) → x / 2 ≡ y / 2 → x % 2 ≡ y % 2 → x ≡ y
halves_eq x y p q = omega arith

pub xor_half : (a b : ℕ) → bit_xor a b / 2 ≡ bit_xor (a / 2) (b / 2)
xor_half a b = xor_shr a b 1

pub xor_parity : (a b : ℕ) → bit_xor a b % 2 ≡ (a + b) % 2
xor_parity a b = omega (arith, xor_add_and a b)

assoc_parity : (a b c : ℕ) → bit_xor (bit_xor a b) c % 2 ≡ bit_xor a (bit_xor b c) % 2
assoc_parity a b c =
    omega (arith, xor_add_and (bit_xor a b) c, xor_add_and a b, xor_add_and a (bit_xor b c), xor_add_and b c)

pub xor_assoc : (a b c : ℕ) → bit_xor (bit_xor a b) c ≡ bit_xor a (bit_xor b c)
xor_assoc =
    bin_ind (λ (n : ℕ). (b c : ℕ) → bit_xor (bit_xor n b) c ≡ bit_xor n (bit_xor b c)) (λ b c. refl)
    (λ n ih b c.
    halves_eq (bit_xor (bit_xor n b) c) (bit_xor n (bit_xor b c))
    (xor_half (bit_xor n b) c ∙ ap (λ (x : ℕ). bit_xor x (c / 2)) (xor_half n b) ∙ ih (b / 2) (c / 2)
    ∙ ap (bit_xor (n / 2)) (sym (xor_half b c)) ∙ sym (xor_half n (bit_xor b c)))
    (assoc_parity n b c))

pub xor_left_comm : (a b c : ℕ) → bit_xor a (bit_xor b c) ≡ bit_xor b (bit_xor a c)
xor_left_comm a b c = sym (xor_assoc a b c) ∙ ap (λ (x : ℕ). bit_xor x c) (xor_comm a b) ∙ xor_assoc b a c

-- the sum of two sums, the inner terms exchanged
pub xor_swap : (a b c d : ℕ) → bit_xor (bit_xor a b) (bit_xor c d) ≡ bit_xor (bit_xor a c) (bit_xor b d)
xor_swap a b c d =
    xor_assoc a b (bit_xor c d) ∙ ap (bit_xor a) (xor_left_comm b c d) ∙ sym (xor_assoc a c (bit_xor b d))

-- a term added twice is gone
pub xor_cancel : (a b : ℕ) → bit_xor a (bit_xor a b) ≡ b
xor_cancel a b = sym (xor_assoc a a b) ∙ ap (λ (x : ℕ). bit_xor x b) (xor_self a)

pub xor_shift : (k a b : ℕ) → bit_xor (a * 2 ^ k) (b * 2 ^ k) ≡ bit_xor a b * 2 ^ k
xor_shift k a b =
    sym (ap₂ bit_xor (add-zero (a * 2 ^ k)) (add-zero (b * 2 ^ k))) ∙ xor_block k a b 0 0 (pow_pos k) (pow_pos k)
    ∙ add-zero (bit_xor a b * 2 ^ k)

pub xor_double : (a b : ℕ) → bit_xor (a * 2) (b * 2) ≡ bit_xor a b * 2
xor_double a b = xor_shift 1 a b

-- a number is the sum of its lowest bit and the rest
pub xor_split : (a : ℕ) → bit_xor (a % 2) (a / 2 * 2) ≡ a
xor_split a =
    xor_comm (a % 2) (a / 2 * 2) ∙ xor_shifted (a / 2) 1 (a % 2) (mod-lt a (zero-lt-suc 1)) ∙ div-add-mod' a 2

-- ---- a bit times a number

data Bit : ℕ → Type 0 where
  low : Bit 0
  high : Bit 1

bit_of : (a : ℕ) → Bit (a % 2)
bit_of a = pick (a % 2) (mod-lt a (zero-lt-suc 1))
  where
    pick : (r : ℕ) → r < 2 → Bit r
    pick zero h = low
    pick (suc zero) h = high
    pick (suc (suc r)) h = absurd (omega arith)

-- what holds of 0 and of 1 holds of every parity
pub by_bit : (P : ℕ → Type 0) → P 0 → P 1 → (a : ℕ) → P (a % 2)
by_bit P p q a = go (bit_of a)
  where
    go : {r : ℕ} → Bit r → P r
    go low = p
    go high = q

pub bit_add_r : (a b c : ℕ) → a % 2 * bit_xor b c ≡ bit_xor (a % 2 * b) (a % 2 * c)
bit_add_r a b c =
    by_bit (λ (r : ℕ). r * bit_xor b c ≡ bit_xor (r * b) (r * c)) (simp zero-mul) (simp one-mul) a

pub bit_add_l : (a b c : ℕ) → bit_xor a b % 2 * c ≡ bit_xor (a % 2 * c) (b % 2 * c)
bit_add_l a b c =
    ap (λ (x : ℕ). x * c) (xor_mod a b 1)
    ∙ by_bit (λ (r : ℕ). bit_xor r (b % 2) * c ≡ bit_xor (r * c) (b % 2 * c)) (simp zero-mul)
    (by_bit (λ (s : ℕ). bit_xor 1 s * c ≡ bit_xor (1 * c) (s * c)) (simp (zero-mul, one-mul, xor_zero_r))
    (simp (zero-mul, one-mul, xor_self)) b) a
