-- The table of the multiples of a polynomial of 32 bits: entry n from entry n / 2. Assumes nothing.
use mathlib.Core.Path.{◌≡◌, sym, ap, ◌∙◌, subst}
use mathlib.Core.List.{List}
use Prim.Native.Nat.{ℕ, ◌+◌, ◌*◌, ◌/◌, ◌%◌, ◌^◌, ◌≤◌, ◌<◌}
use native.Mathlib.Nat.{le_trans}
use native.Mathlib.Omega.{arith}
use lib.Arith.{lt-one}
use lib.ListN.{length, get_or, set}
use lib.Seq.{get_or-set_same, get_or-set_other}
use lib.Bits.{bit_xor}
use borrow.Author.Count.{below_more}
use Rattle.gf64.specs.Polynomial.{carryless}
use Rattle.gf64.proofs.Carryless.{carryless_step, carryless_lt, carryless-zero_l, carryless_one_l}
use Rattle.carryless.specs.Window.{Multiples}

-- the entries below n are the multiples
abbrev pub Filled : ℕ → List ℕ → ℕ → Type 0
Filled a t n = (m : ℕ) → m < n → get_or t m 0 ≡ carryless m a

pub first_multiple : (a : ℕ) (t : List ℕ) → get_or t 0 0 ≡ 0 → Filled a t 1
first_multiple a t e m h =
    subst (λ (k : ℕ). get_or t k 0 ≡ carryless k a) (sym (lt-one h)) (e ∙ sym (carryless-zero_l a))

-- a multiple of fewer than four bits can be doubled in 64
pub half_multiple_lt : (a x n : ℕ) → a < 2 ^ 32 → n < 16 → x ≡ carryless n a → x < 2 ^ 63
half_multiple_lt a x n ha hn e = subst (λ (y : ℕ). y < 2 ^ 63) (sym e)
    (le_trans (carryless_lt 4 32 n a hn ha) (omega arith))

pub next_multiple : (a : ℕ) (t : List ℕ) (n v : ℕ) → 0 < n → n < length t → Filled a t n
    → v ≡ bit_xor (n % 2 * a) (get_or t (n / 2) 0 * 2) → Filled a (set t n v) (n + 1)
next_multiple a t n v pos inside filled e =
    below_more (λ k. get_or (set t n v) k 0 ≡ carryless k a) n
    (λ k l. get_or-set_other t n k v 0 (omega arith) ∙ filled k l)
    (get_or-set_same t n v 0 inside ∙ e ∙ ap (λ (x : ℕ). bit_xor (n % 2 * a) (x * 2)) (filled (n / 2) (omega arith))
    ∙ sym (carryless_step n a))

-- entry 1 is the polynomial itself
pub entry_one : (a : ℕ) (t : List ℕ) (n : ℕ) → 1 < n → Filled a t n → get_or t 1 0 ≡ a
entry_one a t n h filled = filled 1 h ∙ carryless_one_l a

pub all_multiples : (a : ℕ) (t : List ℕ) (n : ℕ) → a < 2 ^ 32 → 16 ≤ n → Filled a t n → Multiples (get_or t 1 0) t
all_multiples a t n short h filled =
    subst (λ (x : ℕ). Multiples x t) (sym (entry_one a t n (omega arith) filled))
    (record { short = short; at = λ m l. filled m (omega arith) })
