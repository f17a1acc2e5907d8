-- The product by halves of 32 bits: each half's product from the products of its parts, and the sum of the four.
-- Assumes nothing.
use mathlib.Core.Path.{◌≡◌, refl, sym, ap, ap₂, ◌∙◌, subst}
use Prim.Native.Nat.{ℕ, ◌+◌, ◌*◌, ◌/◌, ◌%◌, ◌^◌, ◌≤◌, ◌<◌}
use native.Mathlib.Nat.{mod-lt, mod-one, mul-div-mul_right, mul_assoc}
use native.Mathlib.Omega.{arith}
use lib.Pow.{pow_pos, shl_exact, shr_lt, field, mod-mod-pow}
use lib.Bits.{bit_xor, xor_shifted, xor_comm}
use Rattle.gf64.specs.Polynomial.{carryless}
use Rattle.gf64.proofs.Xor.{xor_swap, xor_shift}
use Rattle.gf64.proofs.Additive.{shift_left_additive}
use Rattle.gf64.proofs.Carryless.{carryless_lt, carryless_parts, carryless_comm, carryless-zero_l}
use Rattle.carryless.specs.declared.Products.{Products}
use Rattle.carryless.specs.Window.{Sums, shifted_sum, joined_of}
use Rattle.carryless.proofs.WideSums.{wide_sum}

-- ---- a product from those of a factor's two parts

-- nothing is lost by shifting the high part's product, so the two parts' products make the whole
parts_joined : (j k a b high low : ℕ) → a < 2 ^ 32 → b < 2 ^ (j + k) → j + 32 + k ≤ 64
    → high ≡ carryless (b / 2 ^ k) a → low ≡ carryless (b % 2 ^ k) a → shifted_sum high k low ≡ carryless b a
parts_joined j k a b high low ha hb fits eh el =
    ap₂ (λ (x y : ℕ). shifted_sum x k y) eh el
    ∙ ap (λ (x : ℕ). bit_xor x (carryless (b % 2 ^ k) a))
    (shl_exact (j + 32) k 64 (carryless_lt j 32 (b / 2 ^ k) a (shr_lt j k hb) ha) fits)
    ∙ sym (carryless_parts k b a)

shifted_swap : (k u v s t : ℕ) → shifted_sum (bit_xor u v) k (bit_xor s t) ≡ bit_xor (shifted_sum u k s) (shifted_sum v k t)
shifted_swap k u v s t =
    ap (λ (x : ℕ). bit_xor x (bit_xor s t)) (shift_left_additive k 64 u v)
    ∙ xor_swap (u * 2 ^ k % 2 ^ 64) (v * 2 ^ k % 2 ^ 64) s t

sums_joined : (j k a₀ a₁ x y : ℕ) (p q r : Products) → a₀ < 2 ^ 32 → a₁ < 2 ^ 32 → x < 2 ^ (j + k) → y < 2 ^ (j + k)
    → j + 32 + k ≤ 64 → Sums a₀ a₁ (x / 2 ^ k) (y / 2 ^ k) p → Sums a₀ a₁ (x % 2 ^ k) (y % 2 ^ k) q
    → r ≡ joined_of p k q → Sums a₀ a₁ x y r
sums_joined j k a₀ a₁ x y p q r h₀ h₁ hx hy fits above below e =
    record {
      low = ap (λ (s : Products). s.low) e
          ∙ parts_joined j k a₀ y p.low q.low h₀ hy fits above.low below.low;
      middle =
          ap (λ (s : Products). s.middle) e
          ∙ ap₂ (λ (u v : ℕ). shifted_sum u k v) above.middle below.middle
          ∙ shifted_swap k (carryless (x / 2 ^ k) a₀) (carryless (y / 2 ^ k) a₁) (carryless (x % 2 ^ k) a₀)
          (carryless (y % 2 ^ k) a₁)
          ∙ ap₂ bit_xor (parts_joined j k a₀ x _ _ h₀ hx fits refl refl)
          (parts_joined j k a₁ y _ _ h₁ hy fits refl refl);
      high = ap (λ (s : Products). s.high) e
          ∙ parts_joined j k a₁ x p.high q.high h₁ hx fits above.high below.high;
    }

-- ---- the sums by four bits of x and y after the other, from the lowest on

pub no_sums : (a₀ a₁ x y : ℕ) → Sums a₀ a₁ (x % 1) (y % 1) (record { low = 0; middle = 0; high = 0 })
no_sums a₀ a₁ x y =
    record {
      low = none y a₀;
      middle = ap₂ bit_xor (none x a₀) (none y a₁);
      high = none x a₁;
    }
  where
    none : (u a : ℕ) → 0 ≡ carryless (u % 1) a
    none u a = rw (mod-one u) (sym (carryless-zero_l a))

pub sums_next : (a₀ a₁ x y n : ℕ) (p q r : Products) → a₀ < 2 ^ 32 → a₁ < 2 ^ 32 → n < 8
    → Sums a₀ a₁ (x / 2 ^ (4 * n) % 2 ^ 4) (y / 2 ^ (4 * n) % 2 ^ 4) p
    → Sums a₀ a₁ (x % 2 ^ (4 * n)) (y % 2 ^ (4 * n)) q → r ≡ joined_of p (4 * n) q
    → Sums a₀ a₁ (x % 2 ^ (4 * (n + 1))) (y % 2 ^ (4 * (n + 1))) r
sums_next a₀ a₁ x y n p q r h₀ h₁ h upper lower e =
    subst (λ (k : ℕ). Sums a₀ a₁ (x % 2 ^ k) (y % 2 ^ k) r) (omega arith)
    (sums_joined 4 (4 * n) a₀ a₁ (x % 2 ^ (4 + 4 * n)) (y % 2 ^ (4 + 4 * n)) p q r h₀ h₁
    (mod-lt x (pow_pos (4 + 4 * n))) (mod-lt y (pow_pos (4 + 4 * n))) (omega arith)
    (rw (field x 4 (4 * n), field y 4 (4 * n)) upper)
    (rw (mod-mod-pow x 4 (4 * n), mod-mod-pow y 4 (4 * n)) lower) e)

-- ---- the schoolbook product by halves of 32 bits

parts_r : (y a : ℕ) → carryless y a ≡ bit_xor (carryless y (a / 2 ^ 32) * 2 ^ 32) (carryless y (a % 2 ^ 32))
parts_r y a =
    carryless_comm y a ∙ carryless_parts 32 a y
    ∙ ap₂ (λ (u v : ℕ). bit_xor (u * 2 ^ 32) v) (carryless_comm (a / 2 ^ 32) y) (carryless_comm (a % 2 ^ 32) y)

-- the four products: high by high, the two mixed ones, low by low
four_products : (a b h p q l : ℕ) → h ≡ carryless (b / 2 ^ 32) (a / 2 ^ 32) → p ≡ carryless (b / 2 ^ 32) (a % 2 ^ 32)
    → q ≡ carryless (b % 2 ^ 32) (a / 2 ^ 32) → l ≡ carryless (b % 2 ^ 32) (a % 2 ^ 32)
    → carryless b a ≡ bit_xor (bit_xor (h * 2 ^ 64) (p * 2 ^ 32)) (bit_xor (q * 2 ^ 32) l)
four_products a b h p q l eh ep eq el =
    carryless_parts 32 b a
    ∙ ap₂ (λ (u v : ℕ). bit_xor (u * 2 ^ 32) v)
    (parts_r (b / 2 ^ 32) a ∙ sym (ap₂ (λ (u v : ℕ). bit_xor (u * 2 ^ 32) v) eh ep))
    (parts_r (b % 2 ^ 32) a ∙ sym (ap₂ (λ (u v : ℕ). bit_xor (u * 2 ^ 32) v) eq el))
    ∙ ap (λ (u : ℕ). bit_xor u (bit_xor (q * 2 ^ 32) l))
    (sym (xor_shift 32 (h * 2 ^ 32) p) ∙ ap (λ (u : ℕ). bit_xor u (p * 2 ^ 32)) (mul_assoc h (2 ^ 32) (2 ^ 32)))

schoolbook_mixed : (a b h p q l : ℕ) → h ≡ carryless (b / 2 ^ 32) (a / 2 ^ 32) → p ≡ carryless (b / 2 ^ 32) (a % 2 ^ 32)
    → q ≡ carryless (b % 2 ^ 32) (a / 2 ^ 32) → l ≡ carryless (b % 2 ^ 32) (a % 2 ^ 32)
    → bit_xor h (bit_xor p q / 2 ^ 32) * 2 ^ 64 + bit_xor l (bit_xor p q * 2 ^ 32 % 2 ^ 64) ≡ carryless a b
schoolbook_mixed a b h p q l eh ep eq el =
    ap (λ (u : ℕ). bit_xor h u * 2 ^ 64 + bit_xor l (bit_xor p q * 2 ^ 32 % 2 ^ 64))
    (sym (mul-div-mul_right (bit_xor p q) (2 ^ 32) (pow_pos 32)))
    ∙ wide_sum h l (bit_xor p q * 2 ^ 32) low_fits
    ∙ ap₂ bit_xor (sym (xor_shifted h 64 l low_fits)) (sym (xor_shift 32 p q))
    ∙ xor_swap (h * 2 ^ 64) l (p * 2 ^ 32) (q * 2 ^ 32)
    ∙ ap (bit_xor (bit_xor (h * 2 ^ 64) (p * 2 ^ 32))) (xor_comm l (q * 2 ^ 32))
    ∙ sym (four_products a b h p q l eh ep eq el) ∙ carryless_comm b a
  where
    low_fits : l < 2 ^ 64
    low_fits =
        subst (λ (x : ℕ). x < 2 ^ 64) (sym el)
        (carryless_lt 32 32 (b % 2 ^ 32) (a % 2 ^ 32) (mod-lt b (pow_pos 32)) (mod-lt a (pow_pos 32)))

pub schoolbook : (a b : ℕ) (p : Products) → Sums (a % 2 ^ 32) (a / 2 ^ 32) (b / 2 ^ 32) (b % 2 ^ 32) p
    → bit_xor p.high (p.middle / 2 ^ 32) * 2 ^ 64 + bit_xor p.low (p.middle * 2 ^ 32 % 2 ^ 64) ≡ carryless a b
schoolbook a b p s =
    ap (λ (m : ℕ). bit_xor p.high (m / 2 ^ 32) * 2 ^ 64 + bit_xor p.low (m * 2 ^ 32 % 2 ^ 64)) s.middle
    ∙ schoolbook_mixed a b p.high _ _ p.low s.high refl refl s.low
