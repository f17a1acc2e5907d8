-- The least bound of the degree against all bounds. Assumes nothing.
use mathlib.Core.Path.{◌≡◌, refl, sym, subst, ◌∙◌}
use mathlib.Core.Logic.{◌≢◌, ◌↔◌, ◌⊎◌, inl, inr}
use mathlib.Core.Bool.{Bool, true, false, cond}
use mathlib.Core.List.{List, [], ◌∷◌}
use Prim.Native.Nat.{ℕ, zero, suc, ◌+◌, ◌≤◌, ◌<◌}
use native.Mathlib.Numerals.{add-one}
use native.Mathlib.Omega.{arith}
use lib.ListN.{length, get_or, drop_of_length-le}
use lib.Seq.{drop-cons}
use lib.Dec.{T, leb, eqb, eqb→eq}
use borrow.Author.Tests.{eq-eqb, leb-true, leb-false}
use Rattle.poly.specs.Carrier.{gf64}
use Rattle.poly.specs.Polynomial.{Zeros, DegreeBelow}
use Rattle.poly.specs.Degree.{degree_bound}
use Rattle.poly.specs.Theorems.{Degrees}

-- one coefficient more: b is the bound of the others, and the tests are those of b and c
bound_next : ℕ → Bool → Bool → ℕ
bound_next b rest constant = cond rest (cond constant 0 1) (suc b)

zero_of : (n : ℕ) → eqb n 0 ≡ true → n ≡ 0
zero_of n e = eqb→eq n 0 (subst T (sym e) tt)

none : (b c : ℕ) (rest constant : Bool) → eqb b 0 ≡ rest → eqb c 0 ≡ constant → bound_next b rest constant ≤ 0
    → (c ≡ 0) × (b ≤ 0)
unfolding bound_next
none b c true true r e h = (zero_of c e, omega (arith, zero_of b r))
none b c true false r e h = absurd (omega arith)
none b c false constant r e h = absurd (omega arith)

some : (b c n : ℕ) (rest constant : Bool) → eqb b 0 ≡ rest
    → (bound_next b rest constant ≤ suc n → b ≤ n) × (b ≤ n → bound_next b rest constant ≤ suc n)
unfolding bound_next
some b c n true true r = (λ h. omega (arith, zero_of b r), λ h. omega arith)
some b c n true false r = (λ h. omega (arith, zero_of b r), λ h. omega arith)
some b c n false constant r = (λ h. omega arith, λ h. omega arith)

-- a degree is below n exactly where n is at least its least bound
pub below_bound : (n : ℕ) (p : List ℕ) → DegreeBelow gf64 n p ↔ (degree_bound p ≤ n)
unfolding degree_bound bound_next
below_bound zero [] = (λ z. omega arith, λ h. record {})
below_bound (suc n) [] = (λ z. omega arith, λ h. record {})
below_bound zero (c ∷ p) = (
  λ z. subst (λ (t : Bool). cond t (cond (eqb c 0) 0 1) (suc (degree_bound p)) ≤ 0)
      (sym (eq-eqb (degree_bound p) 0 (omega (arith, (below_bound zero p).0 z.1))))
      (subst (λ (t : Bool). cond t 0 1 ≤ 0) (sym (eq-eqb c 0 z.0)) (omega arith)),
  λ h. let both = none (degree_bound p) c (eqb (degree_bound p) 0) (eqb c 0) refl refl h in
      (both.0, (below_bound zero p).1 both.1),
)
below_bound (suc n) (c ∷ p) = (
  λ z. (some (degree_bound p) c n (eqb (degree_bound p) 0) (eqb c 0) refl).1 ((below_bound n p).0 z),
  λ h. (below_bound n p).1 ((some (degree_bound p) c n (eqb (degree_bound p) 0) (eqb c 0) refl).0 h),
)

pub degrees : Degrees
degrees = record { least = below_bound }

by_test : (n : ℕ) (p : List ℕ) (test : Bool) → leb (degree_bound p) n ≡ test
    → DegreeBelow gf64 n p ⊎ (DegreeBelow gf64 n p → ⊥)
by_test n p true e = inl ((below_bound n p).1 (leb-true (degree_bound p) n e))
by_test n p false e = inr (λ z. absurd (omega (arith, leb-false (degree_bound p) n e, (below_bound n p).0 z)))

-- a degree is below n or it is not
pub below_or_not : (n : ℕ) (p : List ℕ) → DegreeBelow gf64 n p ⊎ (DegreeBelow gf64 n p → ⊥)
below_or_not n p = by_test n p (leb (degree_bound p) n) refl

-- ---- the last coefficient that is not zero

zeros_from : (p : List ℕ) (n : ℕ) → ((k : ℕ) → n ≤ k → k < length p → get_or p k 0 ≡ 0) → DegreeBelow gf64 n p
zeros_from [] zero z = record {}
zeros_from [] (suc n) z = record {}
zeros_from (c ∷ p) zero z = (z 0 (omega arith) (omega arith), zeros_from p zero (λ k l h. z (suc k) (omega arith) (omega arith)))
zeros_from (c ∷ p) (suc n) z = zeros_from p n (λ k l h. z (suc k) (omega arith) (omega arith))

zero_above : (p : List ℕ) (n : ℕ) → n < length p → degree_bound p ≤ n → get_or p n 0 ≡ 0
zero_above p n h b = (subst (Zeros gf64) (drop-cons p n 0 h) ((below_bound n p).1 b)).0

bound_least : (p : List ℕ) (n : ℕ) → n < length p → degree_bound p ≤ suc n → get_or p n 0 ≢ 0 → suc n ≡ degree_bound p
bound_least p n h b z = by (below_or_not n p)
  where
    by : DegreeBelow gf64 n p ⊎ (DegreeBelow gf64 n p → ⊥) → suc n ≡ degree_bound p
    by (inl d) = absurd (z (zero_above p n h ((below_bound n p).0 d)))
    by (inr d) = at_least (leb (degree_bound p) n) refl
      where
        at_least : (test : Bool) → leb (degree_bound p) n ≡ test → suc n ≡ degree_bound p
        at_least true e = absurd (d ((below_bound n p).1 (leb-true (degree_bound p) n e)))
        at_least false e = omega (arith, leb-false (degree_bound p) n e)

pub bound_of_last : (p : List ℕ) (n : ℕ) → n < length p → get_or p n 0 ≢ 0
    → ((k : ℕ) → n < k → k < length p → get_or p k 0 ≡ 0) → n + 1 ≡ degree_bound p
bound_of_last p n h c z =
    add-one n ∙ bound_least p n h ((below_bound (suc n) p).0 (zeros_from p (suc n) (λ k l i. z k (omega arith) i))) c

pub bound_of_none : (p : List ℕ) → ((k : ℕ) → k < length p → get_or p k 0 ≡ 0) → 0 ≡ degree_bound p
bound_of_none p z = omega (arith, (below_bound 0 p).0 (zeros_from p 0 (λ k l i. z k i)))

pub bound_within : (p : List ℕ) → degree_bound p ≤ length p
bound_within p =
    (below_bound (length p) p).0
    (subst (Zeros gf64) (sym (drop_of_length-le p {i = length p} (omega arith))) (record {}))
