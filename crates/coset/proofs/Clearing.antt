-- `cleared b` is additive with kernel 0 and b, for a b that is not 0: it adds b where the bit is set that is b's
-- highest. Assumes nothing.
use mathlib.Core.Path.{◌≡◌, refl, sym, ap, ap₂, ◌∙◌}
use mathlib.Core.Logic.{◌≢◌, ◌⊎◌, inl, inr, ⊎_elim}
use mathlib.Core.Bool.{Bool, cond, ◌||◌, or-true}
use Prim.Native.Nat.{ℕ, zero, suc, ◌+◌, ◌*◌, ◌-◌, ◌/◌, ◌%◌, ◌^◌, ◌<◌, ◌≤◌}
use native.Mathlib.Nat.{zero-mul, one-mul, lt_of_not-le, le_of_lt}
use native.Mathlib.Omega.{arith}
use lib.Arith.{bin_ind}
use lib.Pow.{shr-shr, shr_mono}
use lib.Dec.{eqb, eqb-suc-zero}
use lib.Bits.{bit_xor, xor_self, xor_zero_r, xor_step, xor_shr, differ}
use borrow.Author.Tests.{eq-eqb, ne_eqb, lt-ltb, le-ltb}
use Rattle.gf64.proofs.Xor.{by_bit, bit_add_l}
use Rattle.gf64.proofs.Additive.{Additive, additive_zero, sum_additive}
use Rattle.coset.specs.Elimination.{cleared}
use Rattle.coset.proofs.Span.{Kernel}
use Rattle.poly.proofs.Sums.{equal_of_sum}
use Rattle.poly.proofs.AtField.{gf64_laws}
use Rattle.poly.specs.Carrier.{gf64}
use Rattle.gf64.specs.Field.{IsElement}

-- the place of the highest bit
highest : (b : ℕ) → b ≢ 0 → (p : ℕ) × (b / 2 ^ p ≡ 1)
highest = bin_ind (λ (b : ℕ). b ≢ 0 → (p : ℕ) × (b / 2 ^ p ≡ 1)) (λ nz. absurd (nz refl)) step
  where
    step : (n : ℕ) → (n / 2 ≢ 0 → (p : ℕ) × (n / 2 / 2 ^ p ≡ 1)) → n ≢ 0 → (p : ℕ) × (n / 2 ^ p ≡ 1)
    step zero ih nz = absurd (nz refl)
    step (suc zero) ih nz = (0, refl)
    step (suc (suc n)) ih nz =
        let above = ih (λ z. omega arith) in
        (1 + above.0, sym (shr-shr (suc (suc n)) 1 above.0) ∙ above.1)

equal_of_xor : (a b : ℕ) → bit_xor a b ≡ 0 → a ≡ b
equal_of_xor = equal_of_sum gf64 IsElement gf64_laws

xor_of_equal : (a b : ℕ) → a ≡ b → bit_xor a b ≡ 0
xor_of_equal a b e = ap (λ (s : ℕ). bit_xor s b) e ∙ xor_self b

-- the test whether v is zero, where v is zero exactly when a is 0 or b
pub zero_test : (a b v : ℕ) → (v ≡ 0 → (a ≡ 0) ⊎ (a ≡ b)) → (a ≡ 0 → v ≡ 0) → (a ≡ b → v ≡ 0)
    → eqb v 0 ≡ (eqb a 0 || eqb (bit_xor a b) 0)
zero_test a b zero k z s =
    ⊎_elim
    (λ (e : a ≡ 0). sym (ap (λ (t : Bool). t || eqb (bit_xor a b) 0) (eq-eqb a 0 e)))
    (λ (e : a ≡ b).
    sym (ap (λ (t : Bool). eqb a 0 || t) (eq-eqb (bit_xor a b) 0 (xor_of_equal a b e)) ∙ or-true (eqb a 0)))
    (k refl)
zero_test a b (suc v) k z s =
    eqb-suc-zero v
    ∙ sym
    (ap₂ ◌||◌ (ne_eqb a 0 (λ e. not_zero v (z e))) (ne_eqb (bit_xor a b) 0 (λ e. not_zero v (s (equal_of_xor a b e)))))
  where
    not_zero : (n : ℕ) → suc n ≡ 0 → ⊥
    not_zero n e = omega arith

xor_one : (v : ℕ) → bit_xor v 1 ≡ v / 2 * 2 + (1 - v % 2)
xor_one v =
    xor_step v 1
    ∙ ap₂ (λ (h r : ℕ). h * 2 + r) (xor_zero_r (v / 2)) (by_bit (λ (r : ℕ). differ r 1 ≡ 1 - r) refl refl v)

module _ (b p : ℕ) (top : b / 2 ^ p ≡ 1) where
  shifted : (a : ℕ) → bit_xor a b / 2 ^ p ≡ bit_xor (a / 2 ^ p) 1
  shifted a = xor_shr a b p ∙ ap (bit_xor (a / 2 ^ p)) top

  less : (a : ℕ) → a / 2 ^ p % 2 ≡ 1 → bit_xor a b < a
  less a h = lt_of_not-le (λ le. omega (arith, shr_mono p le, shifted a, xor_one (a / 2 ^ p)))

  more : (a : ℕ) → a / 2 ^ p % 2 ≡ 0 → a ≤ bit_xor a b
  more a h = le_of_lt (lt_of_not-le (λ le. omega (arith, shr_mono p le, shifted a, xor_one (a / 2 ^ p))))

  cleared_at : (a r : ℕ) → r < 2 → a / 2 ^ p % 2 ≡ r → cleared b a ≡ bit_xor a (r * b)
  unfolding cleared
  cleared_at a zero l e =
      ap (λ (t : Bool). cond t (bit_xor a b) a) (le-ltb (bit_xor a b) a (more a e)) ∙ sym (xor_zero_r a)
      ∙ ap (bit_xor a) (sym (zero-mul b))
  cleared_at a (suc zero) l e =
      ap (λ (t : Bool). cond t (bit_xor a b) a) (lt-ltb (bit_xor a b) a (less a e)) ∙ ap (bit_xor a) (sym (one-mul b))
  cleared_at a (suc (suc r)) l e = absurd (omega arith)

  cleared-sum : (a : ℕ) → cleared b a ≡ bit_xor a (a / 2 ^ p % 2 * b)
  cleared-sum a = cleared_at a (a / 2 ^ p % 2) (omega arith) refl

  bit_additive : Additive (λ a. a / 2 ^ p % 2 * b)
  bit_additive x y = ap (λ (s : ℕ). s % 2 * b) (xor_shr x y p) ∙ bit_add_l (x / 2 ^ p) (y / 2 ^ p) b

  cleared_additive_at : Additive (cleared b)
  cleared_additive_at x y =
      cleared-sum (bit_xor x y) ∙ sum_additive (λ a. a) (λ a. a / 2 ^ p % 2 * b) (λ a c. refl) bit_additive x y
      ∙ sym (ap₂ bit_xor (cleared-sum x) (cleared-sum y))

  cleared-zero_at : cleared b 0 ≡ 0
  cleared-zero_at = additive_zero (cleared b) cleared_additive_at

  cleared_self_at : cleared b b ≡ 0
  cleared_self_at =
      cleared-sum b ∙ ap (λ (s : ℕ). bit_xor b (s % 2 * b)) top ∙ ap (bit_xor b) (one-mul b) ∙ xor_self b

  -- what is cleared to zero is 0 or b
  cleared_kernel_at : (a r : ℕ) → r < 2 → a / 2 ^ p % 2 ≡ r → cleared b a ≡ 0 → (a ≡ 0) ⊎ (a ≡ b)
  cleared_kernel_at a zero l e z =
      inl (equal_of_xor a 0 (sym (ap (bit_xor a) (zero-mul b)) ∙ sym (cleared_at a 0 l e) ∙ z))
  cleared_kernel_at a (suc zero) l e z =
      inr (equal_of_xor a b (sym (ap (bit_xor a) (one-mul b)) ∙ sym (cleared_at a 1 l e) ∙ z))
  cleared_kernel_at a (suc (suc r)) l e z = absurd (omega arith)

pub cleared_additive : (b : ℕ) → b ≢ 0 → Additive (cleared b)
cleared_additive b nz = cleared_additive_at b (highest b nz).0 (highest b nz).1

pub cleared_self : (b : ℕ) → b ≢ 0 → cleared b b ≡ 0
cleared_self b nz = cleared_self_at b (highest b nz).0 (highest b nz).1

pub cleared_kernel : (b : ℕ) → b ≢ 0 → Kernel (λ a. record {}) (cleared b) b
cleared_kernel b nz a any = zero_test a b (cleared b a) in_kernel zero-cleared self_cleared
  where
    p : ℕ
    p = (highest b nz).0

    top : b / 2 ^ p ≡ 1
    top = (highest b nz).1

    in_kernel : cleared b a ≡ 0 → (a ≡ 0) ⊎ (a ≡ b)
    in_kernel = cleared_kernel_at b p top a (a / 2 ^ p % 2) (omega arith) refl

    zero-cleared : a ≡ 0 → cleared b a ≡ 0
    zero-cleared e = ap (cleared b) e ∙ cleared-zero_at b p top

    self_cleared : a ≡ b → cleared b a ≡ 0
    self_cleared e = ap (cleared b) e ∙ cleared_self_at b p top
