-- The division into rows as an identity of polynomials: p and Σ row_i · q^i have the same
-- coefficients. Assumes nothing.
use mathlib.Core.Path.{◌≡◌, refl, sym, ap, ap₂, ◌∙◌, subst}
use mathlib.Core.List.{List, [], ◌∷◌}
use Prim.Native.Nat.{ℕ, zero, suc, ◌*◌}
use native.Mathlib.Nat.{zero-mul}
use lib.ListN.{length, drop, get_or}
use Rattle.poly.specs.Carrier.{Operations, Laws}
use Rattle.poly.specs.Polynomial.{All, Zeros, DegreeBelow, plus, scale}
use Rattle.poly.specs.Rows.{monic, but_last, last, remainder_by, quotient_by, rows, times, composed}
use Rattle.poly.proofs.Sums.{sum-zero_r, sum_cancel, product-zero_l, product-zero_r}
use Rattle.poly.proofs.Division.{length-remainder, last-element, remainder-elements}
use Rattle.poly.proofs.Division.{quotient_elements, quotient_degree}
use Rattle.poly.proofs.Rows.{one_more}
use Rattle.poly.proofs.Entries.{get_or_replicated}

module _ {A : Type 0} (F : Operations A) (Element : A → Type 0) (L : Laws A F Element) where
  open F use {zero as 𝟘, one as 𝟙, sum as ◌⊕◌, product as ◌⊗◌}

  infixl 60 ◌⊕◌
  infixl 70 ◌⊗◌
  -- coefficient i
  abbrev at : List A → ℕ → A
  at p i = get_or p i 𝟘

  -- ---- coefficients of sums, multiples and products

  at_plus : (p q : List A) (i : ℕ) → at (plus F p q) i ≡ at p i ⊕ at q i
  unfolding plus
  at_plus [] q i = sym (L.sum_zero (at q i))
  at_plus (c ∷ p) [] i = sym (sum-zero_r F Element L (at (c ∷ p) i))
  at_plus (c ∷ p) (d ∷ q) zero = refl
  at_plus (c ∷ p) (d ∷ q) (suc i) = at_plus p q i

  at_scale : (a : A) (p : List A) (i : ℕ) → at (scale F a p) i ≡ a ⊗ at p i
  unfolding scale
  at_scale a [] i = sym (product-zero_r F Element L a)
  at_scale a (c ∷ p) zero = refl
  at_scale a (c ∷ p) (suc i) = at_scale a p i

  at_times : (m : List A) (c : A) (p : List A) (i : ℕ) → at (times F m (c ∷ p)) i ≡ c ⊗ at m i ⊕ at (𝟘 ∷ times F m p) i
  unfolding times
  at_times m c p i =
      at_plus (scale F c m) (𝟘 ∷ times F m p) i ∙ ap (λ (s : A). s ⊕ at (𝟘 ∷ times F m p) i) (at_scale c m i)

  -- m · p depends on the coefficients of p alone
  shifted_same : (p q : List A) → ((i : ℕ) → at p i ≡ at q i) → (i : ℕ) → at (𝟘 ∷ p) i ≡ at (𝟘 ∷ q) i
  shifted_same p q e zero = refl
  shifted_same p q e (suc i) = e i

  shifted_none : (p : List A) → ((i : ℕ) → 𝟘 ≡ at p i) → (i : ℕ) → 𝟘 ≡ at (𝟘 ∷ p) i
  shifted_none p e zero = refl
  shifted_none p e (suc i) = e i

  times_none : (m : List A) (p : List A) → ((i : ℕ) → 𝟘 ≡ at p i) → (i : ℕ) → 𝟘 ≡ at (times F m p) i
  unfolding times
  times_none m [] e i = refl
  times_none m (c ∷ p) e i =
      sym
      (at_times m c p i
      ∙ ap₂ ◌⊕◌ (ap (λ (s : A). s ⊗ at m i) (sym (e zero)) ∙ product-zero_l F Element L (at m i))
      (sym (shifted_none (times F m p) (times_none m p (λ j. e (suc j))) i))
      ∙ L.sum_zero 𝟘)

  times-same : (m p q : List A) → ((i : ℕ) → at p i ≡ at q i) → (i : ℕ) → at (times F m p) i ≡ at (times F m q) i
  unfolding times
  times-same m [] [] e i = refl
  times-same m [] (d ∷ q) e i = times_none m (d ∷ q) e i
  times-same m (c ∷ p) [] e i = sym (times_none m (c ∷ p) (λ j. sym (e j)) i)
  times-same m (c ∷ p) (d ∷ q) e i =
      at_times m c p i
      ∙ ap₂ (λ (a s : A). a ⊗ at m i ⊕ s) (e zero)
      (shifted_same (times F m p) (times F m q) (times-same m p q (λ j. e (suc j))) i)
      ∙ sym (at_times m d q i)

  -- ---- the division

  -- t at place m, zeros before it
  single : ℕ → A → List A
  single zero t = t ∷ []
  single (suc m) t = 𝟘 ∷ single m t

  at_last : (c : A) (r : List A) (i : ℕ) → at (c ∷ r) i ≡ at (but_last c r) i ⊕ at (single (length r) (last c r)) i
  unfolding but_last last single
  at_last c [] zero = sym (L.sum_zero c)
  at_last c [] (suc i) = sym (L.sum_zero 𝟘)
  at_last c (d ∷ r) zero = sym (sum-zero_r F Element L c)
  at_last c (d ∷ r) (suc i) = at_last d r i

  at_monic : (q : List A) (t : A) (i : ℕ) → Element t → t ⊗ at (monic F q) i ≡ t ⊗ at q i ⊕ at (single (length q) t) i
  unfolding monic single
  at_monic [] t zero e =
      L.product_commutative t 𝟙 ∙ L.one_neutral t e ∙ sym (L.sum_zero t)
      ∙ ap (λ (s : A). s ⊕ t) (sym (product-zero_r F Element L t))
  at_monic [] t (suc i) e = sym (sum-zero_r F Element L (t ⊗ 𝟘))
  at_monic (c ∷ q) t zero e = sym (sum-zero_r F Element L (t ⊗ c))
  at_monic (c ∷ q) t (suc i) e = at_monic q t i e

  cancelled : (b s w z : A) → (b ⊕ s) ⊕ z ≡ (b ⊕ w) ⊕ ((w ⊕ s) ⊕ z)
  cancelled b s w z =
      sym
      (sym (L.sum_associative (b ⊕ w) (w ⊕ s) z)
      ∙ ap (λ (v : A). v ⊕ z) (L.sum_associative b w (w ⊕ s) ∙ ap (λ (v : A). b ⊕ v) (sum_cancel F Element L w s)))

  -- one step: from p = r + m · k to c + X · p = (c + X · r less t · m) + m · (t + X · k)
  division_cons : (q : List A) (c : A) (p r k : List A) → length r ≡ length q → Element (last c r)
      → ((i : ℕ) → at p i ≡ at r i ⊕ at (times F (monic F q) k) i)
      → (i : ℕ) → at (c ∷ p) i
      ≡ at (plus F (but_last c r) (scale F (last c r) q)) i ⊕ at (times F (monic F q) (last c r ∷ k)) i
  division_cons q c p r k h e ih i =
      before i
      ∙ ap (λ (s : A). s ⊕ z) (at_last c r i ∙ ap (λ (m : ℕ). at (but_last c r) i ⊕ at (single m t) i) h)
      ∙ cancelled (at (but_last c r) i) (at (single (length q) t) i) (t ⊗ at q i) z
      ∙ ap₂ ◌⊕◌
      (sym (at_plus (but_last c r) (scale F t q) i ∙ ap (λ (s : A). at (but_last c r) i ⊕ s) (at_scale t q i)))
      (ap (λ (s : A). s ⊕ z) (sym (at_monic q t i e)) ∙ sym (at_times (monic F q) t k i))
    where
      t : A
      t = last c r

      z : A
      z = at (𝟘 ∷ times F (monic F q) k) i

      before : (i : ℕ) → at (c ∷ p) i ≡ at (c ∷ r) i ⊕ at (𝟘 ∷ times F (monic F q) k) i
      before zero = sym (sum-zero_r F Element L c)
      before (suc i) = ih i

  -- p = remainder + (X^m + q) · quotient
  division_identity : (q p : List A) → All Element q → All Element p
      → (i : ℕ) → at p i ≡ at (remainder_by F q p) i ⊕ at (times F (monic F q) (quotient_by F q p)) i
  unfolding remainder_by quotient_by times
  division_identity q [] eq ep i = sym (ap (λ (s : A). s ⊕ 𝟘) (get_or_replicated (length q) i 𝟘) ∙ L.sum_zero 𝟘)
  division_identity q (c ∷ p) eq ep i =
      division_cons q c p (remainder_by F q p) (quotient_by F q p) (length-remainder F q p)
      (last-element F Element L c (remainder_by F q p) ep.0 (remainder-elements F Element L q p eq ep.1))
      (division_identity q p eq ep.1) i

  -- ---- the rows

  zeros_at : (p : List A) (i : ℕ) → Zeros F p → at p i ≡ 𝟘
  zeros_at [] i z = refl
  zeros_at (c ∷ p) zero z = z.0
  zeros_at (c ∷ p) (suc i) z = zeros_at p i z.1

  -- p = Σ row_i · q^i
  pub rows_identity : (q : List A) (n : ℕ) (p : List A) → All Element q → All Element p → DegreeBelow F (n * length q) p
      → (i : ℕ) → at p i ≡ at (composed F (monic F q) (rows F q n p)) i
  unfolding rows composed
  rows_identity q zero p eq ep z i = zeros_at p i (subst (λ (k : ℕ). Zeros F (drop k p)) (zero-mul (length q)) z)
  rows_identity q (suc n) p eq ep z i =
      division_identity q p eq ep i
      ∙ ap (λ (s : A). at (remainder_by F q p) i ⊕ s)
      (times-same (monic F q) (quotient_by F q p) (composed F (monic F q) (rows F q n (quotient_by F q p)))
      (rows_identity q n (quotient_by F q p) eq (quotient_elements F Element L q p eq ep)
      (quotient_degree F Element L q p (n * length q) (one_more F Element L q p n z))) i)
      ∙ sym
      (at_plus (remainder_by F q p) (times F (monic F q) (composed F (monic F q) (rows F q n (quotient_by F q p)))) i)
