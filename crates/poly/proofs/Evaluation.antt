-- Evaluation of sums, multiples, padded polynomials. Assumes nothing.
use mathlib.Core.Path.{◌≡◌, refl, sym, ap, ◌∙◌, ap₂}
use mathlib.Core.List.{List, [], ◌∷◌, ◌++◌, append-nil}
use Prim.Native.Nat.{ℕ, zero, suc, ◌+◌, ◌-◌, ◌≤◌}
use native.Mathlib.Nat.{sub_self}
use native.Mathlib.Omega.{arith}
use lib.ListN.{length, take, replicate, length-map, length-append, length-replicate}
use Rattle.poly.specs.Carrier.{Operations, Laws}
use Rattle.poly.specs.Polynomial.{All, evaluate, plus, scale, padded, times_linear, Zeros, DegreeBelow}
use Rattle.poly.proofs.Sums.{sum-zero_r, sum_swap, product-zero_r, product_left_comm, distributive_l}
use Rattle.poly.proofs.Entries.{all_append, all_replicate}

-- ---- lengths

pub length-plus : {A : Type 0} (F : Operations A) (p q : List A) → length q ≤ length p → length (plus F p q) ≡ length p
unfolding plus
length-plus F [] [] h = refl
length-plus F [] (d ∷ q) h = absurd (omega arith)
length-plus F (c ∷ p) [] h = refl
length-plus F (c ∷ p) (d ∷ q) h = ap suc (length-plus F p q (omega arith))

pub length-scale : {A : Type 0} (F : Operations A) (a : A) (p : List A) → length (scale F a p) ≡ length p
unfolding scale
length-scale F a p = length-map p (F.product a)

pub length-times_linear : {A : Type 0} (F : Operations A) (c x : A) (p : List A)
    → length (times_linear F c x p) ≡ suc (length p)
unfolding times_linear
length-times_linear F c x p = length-plus F (c ∷ p) (scale F x p) (omega (arith, length-scale F x p))

pub length-padded : {A : Type 0} (F : Operations A) (n : ℕ) (p : List A) → length p ≤ n → length (padded F n p) ≡ n
unfolding padded
length-padded F n p h =
    length-append p (replicate (n - length p) F.zero)
    ∙ ap (λ (m : ℕ). length p + m) (length-replicate (n - length p) F.zero) ∙ omega arith

pub padded_full : {A : Type 0} (F : Operations A) (n : ℕ) (p : List A) → length p ≡ n → padded F n p ≡ p
unfolding padded
padded_full F n p h = ap (λ (m : ℕ). p ++ replicate m F.zero) (ap (λ (m : ℕ). n - m) h ∙ sub_self n) ∙ append-nil p

module _ {A : Type 0} (F : Operations A) (Element : A → Type 0) (L : Laws A F Element) where
  open F use {zero as 𝟘, sum as ◌⊕◌, product as ◌⊗◌}

  infixl 60 ◌⊕◌
  infixl 70 ◌⊗◌
  -- ---- values

  horner_plus : (c d x s t : A) → (c ⊕ d) ⊕ x ⊗ (s ⊕ t) ≡ (c ⊕ x ⊗ s) ⊕ (d ⊕ x ⊗ t)
  horner_plus c d x s t =
      ap (λ (v : A). (c ⊕ d) ⊕ v) (L.distributive x s t) ∙ sum_swap F Element L c d (x ⊗ s) (x ⊗ t)

  pub evaluate-plus : (p q : List A) (x : A) → evaluate F (plus F p q) x ≡ evaluate F p x ⊕ evaluate F q x
  unfolding evaluate plus
  evaluate-plus [] q x = sym (L.sum_zero (evaluate F q x))
  evaluate-plus (c ∷ p) [] x = sym (sum-zero_r F Element L (evaluate F (c ∷ p) x))
  evaluate-plus (c ∷ p) (d ∷ q) x =
      ap (λ (v : A). (c ⊕ d) ⊕ x ⊗ v) (evaluate-plus p q x) ∙ horner_plus c d x (evaluate F p x) (evaluate F q x)

  pub evaluate-scale : (a : A) (p : List A) (x : A) → evaluate F (scale F a p) x ≡ a ⊗ evaluate F p x
  unfolding evaluate scale
  evaluate-scale a [] x = sym (product-zero_r F Element L a)
  evaluate-scale a (c ∷ p) x =
      ap (λ (v : A). a ⊗ c ⊕ x ⊗ v) (evaluate-scale a p x)
      ∙ ap (λ (v : A). a ⊗ c ⊕ v) (product_left_comm F Element L x a (evaluate F p x))
      ∙ sym (L.distributive a c (x ⊗ evaluate F p x))

  pub evaluate-times_linear : (c x : A) (p : List A) (z : A)
      → evaluate F (times_linear F c x p) z ≡ c ⊕ (z ⊕ x) ⊗ evaluate F p z
  unfolding times_linear evaluate
  evaluate-times_linear c x p z =
      evaluate-plus (c ∷ p) (scale F x p) z
      ∙ ap (λ (v : A). evaluate F (c ∷ p) z ⊕ v) (evaluate-scale x p z)
      ∙ L.sum_associative c (z ⊗ evaluate F p z) (x ⊗ evaluate F p z)
      ∙ ap (λ (v : A). c ⊕ v) (sym (distributive_l F Element L z x (evaluate F p z)))

  pub evaluate_zeros : (p : List A) (x : A) → Zeros F p → evaluate F p x ≡ 𝟘
  unfolding evaluate
  evaluate_zeros [] x z = refl
  evaluate_zeros (c ∷ p) x z =
      ap₂ (λ (b v : A). b ⊕ x ⊗ v) z.0 (evaluate_zeros p x z.1) ∙ L.sum_zero (x ⊗ 𝟘)
      ∙ product-zero_r F Element L x

  -- coefficients from n on that are zero may be left off
  pub evaluate_taken : (n : ℕ) (p : List A) (x : A) → DegreeBelow F n p → evaluate F (take n p) x ≡ evaluate F p x
  unfolding evaluate
  evaluate_taken zero p x z = sym (evaluate_zeros p x z)
  evaluate_taken (suc n) [] x z = refl
  evaluate_taken (suc n) (c ∷ p) x z = ap (λ (v : A). c ⊕ x ⊗ v) (evaluate_taken n p x z)

  evaluate_followed : (p : List A) (n : ℕ) (x : A) → evaluate F (p ++ replicate n 𝟘) x ≡ evaluate F p x
  unfolding evaluate
  evaluate_followed [] n x = evaluate_zeros (replicate n 𝟘) x (all_replicate (λ c. c ≡ 𝟘) n 𝟘 refl)
  evaluate_followed (c ∷ p) n x = ap (λ (v : A). c ⊕ x ⊗ v) (evaluate_followed p n x)

  pub evaluate-padded : (n : ℕ) (p : List A) (x : A) → evaluate F (padded F n p) x ≡ evaluate F p x
  unfolding padded
  evaluate-padded n p x = evaluate_followed p (n - length p) x

  -- ---- elements

  pub evaluate-element : (p : List A) (x : A) → All Element p → Element x → Element (evaluate F p x)
  unfolding evaluate
  evaluate-element [] x ep ex = L.zero_element
  evaluate-element (c ∷ p) x ep ex =
      L.sum_element c (x ⊗ evaluate F p x) ep.0
      (L.product_element x (evaluate F p x) ex (evaluate-element p x ep.1 ex))

  pub plus-elements : (p q : List A) → All Element p → All Element q → All Element (plus F p q)
  unfolding plus
  plus-elements [] q ep eq = eq
  plus-elements (c ∷ p) [] ep eq = ep
  plus-elements (c ∷ p) (d ∷ q) ep eq = (L.sum_element c d ep.0 eq.0, plus-elements p q ep.1 eq.1)

  pub scale-elements : (a : A) (p : List A) → Element a → All Element p → All Element (scale F a p)
  unfolding scale
  scale-elements a [] ea ep = record {}
  scale-elements a (c ∷ p) ea ep = (L.product_element a c ea ep.0, scale-elements a p ea ep.1)

  pub times_linear-elements : (c x : A) (p : List A) → Element c → Element x → All Element p
      → All Element (times_linear F c x p)
  unfolding times_linear
  times_linear-elements c x p ec ex ep = plus-elements (c ∷ p) (scale F x p) (ec, ep) (scale-elements x p ex ep)

  pub padded-elements : (n : ℕ) (p : List A) → All Element p → All Element (padded F n p)
  unfolding padded
  padded-elements n p ep =
      all_append Element p (replicate (n - length p) 𝟘) ep (all_replicate Element (n - length p) 𝟘 L.zero_element)
