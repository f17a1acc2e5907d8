-- Additive maps on the naturals: two that agree on the powers of two below 2^k agree on every number below 2^k.
-- Assumes nothing.
use mathlib.Core.Path.{◌≡◌, refl, sym, ap, ap₂, ◌∙◌, subst}
use mathlib.Core.Logic.{⊎_elim}
use mathlib.Core.Bool.{Bool, true, false, ◌&&◌}
use mathlib.Core.List.{List, [], ◌∷◌}
use Prim.Native.Nat.{ℕ, zero, suc, ◌*◌, ◌/◌, ◌%◌, ◌^◌, ◌<◌}
use native.Mathlib.Nat.{zero-mul, one-mul, mod-lt, le_refl, not-suc-le-zero}
use native.Mathlib.Nat.{div-lt_iff_lt-mul, eq-or-lt_of_le, le_of_suc-le-suc}
use native.Mathlib.Omega.{arith}
use lib.Arith.{lt-one}
use lib.Pow.{pow_pos, split}
use lib.Dec.{T, eqb, eqb→eq}
use lib.Bits.{bit_xor, xor_self, xor_shifted, xor_shr, xor_mod}
use Rattle.gf64.proofs.Xor.{xor_swap, xor_cancel, xor_shift, bit_add_l}

abbrev pub Additive : (ℕ → ℕ) → Type 0
Additive f = (a b : ℕ) → f (bit_xor a b) ≡ bit_xor (f a) (f b)

pub additive_zero : (f : ℕ → ℕ) → Additive f → f 0 ≡ 0
additive_zero f h = sym (xor_cancel (f 0) (f 0)) ∙ ap (bit_xor (f 0)) (sym (h 0 0)) ∙ xor_self (f 0)

-- ---- additive maps to start from

pub sum_additive : (f g : ℕ → ℕ) → Additive f → Additive g → Additive (λ x. bit_xor (f x) (g x))
sum_additive f g hf hg a b = ap₂ bit_xor (hf a b) (hg a b) ∙ xor_swap (f a) (f b) (g a) (g b)

pub shift_left_additive : (k w : ℕ) → Additive (λ x. x * 2 ^ k % 2 ^ w)
shift_left_additive k w a b =
    ap (λ (x : ℕ). x % 2 ^ w) (sym (xor_shift k a b)) ∙ xor_mod (a * 2 ^ k) (b * 2 ^ k) w

-- ---- agreement

-- a number of k + 1 bits is its bit k and the k bits below
top_bit : (f : ℕ → ℕ) → Additive f → (k x : ℕ) → f x ≡ bit_xor (f (x / 2 ^ k * 2 ^ k)) (f (x % 2 ^ k))
top_bit f h k x =
    ap f (sym (split x k) ∙ sym (xor_shifted (x / 2 ^ k) k (x % 2 ^ k) (mod-lt x (pow_pos k))))
    ∙ h (x / 2 ^ k * 2 ^ k) (x % 2 ^ k)

module _ (f g : ℕ → ℕ) (hf : Additive f) (hg : Additive g) where
  agree_bit : (b k : ℕ) → b < 2 → f (2 ^ k) ≡ g (2 ^ k) → f (b * 2 ^ k) ≡ g (b * 2 ^ k)
  agree_bit zero k h e =
      ap f (zero-mul (2 ^ k)) ∙ additive_zero f hf ∙ sym (additive_zero g hg) ∙ ap g (sym (zero-mul (2 ^ k)))
  agree_bit (suc zero) k h e = ap f (one-mul (2 ^ k)) ∙ e ∙ ap g (sym (one-mul (2 ^ k)))
  agree_bit (suc (suc b)) k h e = absurd (omega arith)

  pub agree : (k : ℕ) → ((i : ℕ) → i < k → f (2 ^ i) ≡ g (2 ^ i)) → (x : ℕ) → x < 2 ^ k → f x ≡ g x
  agree zero e x h = ap f (lt-one h) ∙ additive_zero f hf ∙ sym (additive_zero g hg) ∙ ap g (sym (lt-one h))
  agree (suc k) e x h =
      top_bit f hf k x
      ∙ ap₂ bit_xor
      (agree_bit (x / 2 ^ k) k ((div-lt_iff_lt-mul (pow_pos k)).1 (omega arith)) (e k (le_refl (suc k))))
      (agree k (λ i l. e i (omega arith)) (x % 2 ^ k) (mod-lt x (pow_pos k)))
      ∙ sym (top_bit g hg k x)

-- ---- agreement as a test that is computed

both_left : (a b : Bool) → T (a && b) → T a
both_left true b t = tt
both_left false b t = t

both_right : (a b : Bool) → T (a && b) → T b
both_right true b t = t
both_right false b t = absurd t

-- f and g agree on the powers of two below 2^k
unfoldable pub agree_on : (ℕ → ℕ) → (ℕ → ℕ) → ℕ → Bool
agree_on f g zero = true
agree_on f g (suc k) = eqb (f (2 ^ k)) (g (2 ^ k)) && agree_on f g k

agree_on_at : (f g : ℕ → ℕ) (k : ℕ) → T (agree_on f g k) → (i : ℕ) → i < k → f (2 ^ i) ≡ g (2 ^ i)
unfolding agree_on
agree_on_at f g zero t i h = absurd (not-suc-le-zero h)
agree_on_at f g (suc k) t i h =
    ⊎_elim
    (λ (e : i ≡ k).
    subst (λ (n : ℕ). f (2 ^ n) ≡ g (2 ^ n)) (sym e) (eqb→eq (f (2 ^ k)) (g (2 ^ k)) (both_left here rest t)))
    (λ l. agree_on_at f g k (both_right here rest t) i l)
    (eq-or-lt_of_le (le_of_suc-le-suc h))
  where
    here : Bool
    here = eqb (f (2 ^ k)) (g (2 ^ k))

    rest : Bool
    rest = agree_on f g k

pub agree_tested : (f g : ℕ → ℕ) → Additive f → Additive g → (k : ℕ) → T (agree_on f g k) → (x : ℕ) → x < 2 ^ k
    → f x ≡ g x
agree_tested f g hf hg k t = agree f g hf hg k (agree_on_at f g k t)

-- ---- the additive map that sends 2^i to entry i of a list

unfoldable pub map_bits : List ℕ → ℕ → ℕ
map_bits [] y = 0
map_bits (c ∷ cs) y = bit_xor (y % 2 * c) (map_bits cs (y / 2))

pub map_bits_additive : (cs : List ℕ) → Additive (map_bits cs)
unfolding map_bits
map_bits_additive [] a b = refl
map_bits_additive (c ∷ cs) a b =
    ap₂ bit_xor (bit_add_l a b c) (ap (map_bits cs) (xor_shr a b 1) ∙ map_bits_additive cs (a / 2) (b / 2))
    ∙ xor_swap (a % 2 * c) (b % 2 * c) (map_bits cs (a / 2)) (map_bits cs (b / 2))
