-- The root bound by synthetic division, p(x) = p(a) + (x + a) · s(x), and from it that two polynomials of n
-- coefficients that agree at n distinct points are equal. Assumes nothing.
use mathlib.Core.Path.{◌≡◌, refl, sym, ap, ap₂, ◌∙◌, subst}
use mathlib.Core.Logic.{◌≢◌}
use mathlib.Core.List.{List, [], ◌∷◌, map}
use Prim.Native.Nat.{ℕ, zero, suc, ◌≤◌}
use native.Mathlib.Nat.{le_of_eq}
use native.Mathlib.Omega.{arith}
use lib.ListN.{length, take, drop, length-take, take-append-drop}
use Rattle.poly.specs.Carrier.{Operations, Laws}
use Rattle.poly.specs.Polynomial.{All, Distinct, Zeros, DegreeBelow, evaluate, plus}
use Rattle.poly.proofs.Sums.{sum-zero_r, sum_cancel, equal_of_sum, sum_not_zero, product-zero_r}
use Rattle.poly.proofs.Sums.{distributive_l, product_left_comm, no_zero_divisors}
use Rattle.poly.proofs.Evaluation.{evaluate-plus, evaluate-element, plus-elements, length-plus, evaluate_zeros}
use Rattle.poly.proofs.Entries.{all_append, all_take}

-- the quotient of c ∷ p by X + a, whatever c
divided : {A : Type 0} → Operations A → A → List A → List A
divided F a [] = []
divided F a (d ∷ p) = evaluate F (d ∷ p) a ∷ divided F a p

length_divided : {A : Type 0} (F : Operations A) (a : A) (p : List A) → length (divided F a p) ≡ length p
unfolding divided
length_divided F a [] = refl
length_divided F a (d ∷ p) = ap suc (length_divided F a p)

module _ {A : Type 0} (F : Operations A) (Element : A → Type 0) (L : Laws A F Element) where
  open F use {zero as 𝟘, sum as ◌⊕◌, product as ◌⊗◌}

  infixl 60 ◌⊕◌
  infixl 70 ◌⊗◌
  divided_elements : (a : A) (p : List A) → Element a → All Element p → All Element (divided F a p)
  unfolding divided
  divided_elements a [] ea ep = ep
  divided_elements a (d ∷ p) ea ep = (evaluate-element F Element L (d ∷ p) a ep ea, divided_elements a p ea ep.1)

  -- with r = p(a) and s the value of the quotient at x: c + x · (r + (x + a) · s) = (c + a · r) + (x + a) · (r + x · s)
  division_step : (c x a r s : A) → c ⊕ x ⊗ (r ⊕ (x ⊕ a) ⊗ s) ≡ (c ⊕ a ⊗ r) ⊕ (x ⊕ a) ⊗ (r ⊕ x ⊗ s)
  division_step c x a r s =
      ap (λ (v : A). c ⊕ v) (left ∙ sym right) ∙ sym (L.sum_associative c (a ⊗ r) ((x ⊕ a) ⊗ (r ⊕ x ⊗ s)))
    where
      left : x ⊗ (r ⊕ (x ⊕ a) ⊗ s) ≡ x ⊗ r ⊕ (x ⊕ a) ⊗ (x ⊗ s)
      left = L.distributive x r ((x ⊕ a) ⊗ s) ∙ ap (λ (v : A). x ⊗ r ⊕ v) (product_left_comm F Element L x (x ⊕ a) s)

      right : a ⊗ r ⊕ (x ⊕ a) ⊗ (r ⊕ x ⊗ s) ≡ x ⊗ r ⊕ (x ⊕ a) ⊗ (x ⊗ s)
      right =
          ap (λ (v : A). a ⊗ r ⊕ v)
          (L.distributive (x ⊕ a) r (x ⊗ s) ∙ ap (λ (v : A). v ⊕ (x ⊕ a) ⊗ (x ⊗ s)) (distributive_l F Element L x a r))
          ∙ sym (L.sum_associative (a ⊗ r) (x ⊗ r ⊕ a ⊗ r) ((x ⊕ a) ⊗ (x ⊗ s)))
          ∙ ap (λ (v : A). v ⊕ (x ⊕ a) ⊗ (x ⊗ s))
          (ap (λ (v : A). a ⊗ r ⊕ v) (L.sum_commutative (x ⊗ r) (a ⊗ r)) ∙ sum_cancel F Element L (a ⊗ r) (x ⊗ r))

  -- p(x) = p(a) + (x + a) · s(x)
  division : (c : A) (p : List A) (a x : A)
      → evaluate F (c ∷ p) x ≡ evaluate F (c ∷ p) a ⊕ (x ⊕ a) ⊗ evaluate F (divided F a p) x
  unfolding evaluate divided
  division c [] a x =
      ap (λ (v : A). c ⊕ v) (product-zero_r F Element L x ∙ sym (product-zero_r F Element L a))
      ∙ sym (sum-zero_r F Element L (c ⊕ a ⊗ 𝟘))
      ∙ ap (λ (v : A). (c ⊕ a ⊗ 𝟘) ⊕ v) (sym (product-zero_r F Element L (x ⊕ a)))
  division c (d ∷ p) a x =
      ap (λ (v : A). c ⊕ x ⊗ v) (division d p a x)
      ∙ division_step c x a (evaluate F (d ∷ p) a) (evaluate F (divided F a p) x)

  -- a root of p other than a is a root of the quotient by a root a
  root_of_divided : (c : A) (p : List A) (a x : A) → Element a → Element x → All Element p → x ≢ a
      → evaluate F (c ∷ p) a ≡ 𝟘 → evaluate F (c ∷ p) x ≡ 𝟘 → evaluate F (divided F a p) x ≡ 𝟘
  root_of_divided c p a x ea ex ep ne ra rx =
      no_zero_divisors F Element L (x ⊕ a) s (L.sum_element x a ex ea) (sum_not_zero F Element L x a ne)
      (evaluate-element F Element L (divided F a p) x (divided_elements a p ea ep) ex)
      (sym (L.sum_zero ((x ⊕ a) ⊗ s)) ∙ ap (λ (v : A). v ⊕ (x ⊕ a) ⊗ s) (sym ra) ∙ sym (division c p a x) ∙ rx)
    where
      s : A
      s = evaluate F (divided F a p) x

  -- the constant is the value less what the rest contributes
  constant_zero : (c : A) (p : List A) (a : A) → Zeros F p → evaluate F (c ∷ p) a ≡ 𝟘 → c ≡ 𝟘
  unfolding evaluate
  constant_zero c p a z e =
      sym (sum-zero_r F Element L c)
      ∙ ap (λ (v : A). c ⊕ v)
      (sym (product-zero_r F Element L a) ∙ ap (λ (v : A). a ⊗ v) (sym (evaluate_zeros F Element L p a z))) ∙ e

  zeros_cons : (c : A) (p : List A) (a : A) → evaluate F (c ∷ p) a ≡ 𝟘 → Zeros F p → Zeros F (c ∷ p)
  zeros_cons c p a e z = (constant_zero c p a z e, z)

  zeros_of_divided : (a : A) (p : List A) → Zeros F (divided F a p) → Zeros F p
  unfolding divided
  zeros_of_divided a [] z = z
  zeros_of_divided a (d ∷ p) z = zeros_cons d p a z.0 (zeros_of_divided a p z.1)

  roots_of_divided : (c : A) (p : List A) (a : A) → Element a → All Element p → evaluate F (c ∷ p) a ≡ 𝟘
      → (roots : List A) → All Element roots → All (λ x. x ≢ a) roots → All (λ x. evaluate F (c ∷ p) x ≡ 𝟘) roots
      → All (λ x. evaluate F (divided F a p) x ≡ 𝟘) roots
  roots_of_divided c p a ea ep ra [] er d r = record {}
  roots_of_divided c p a ea ep ra (x ∷ roots) er d r = (
    root_of_divided c p a x ea er.0 ep d.0 ra r.0,
    roots_of_divided c p a ea ep ra roots er.1 d.1 r.1,
  )

  root_bound_by : (roots p : List A) → All Element roots → Distinct roots → All Element p
      → All (λ x. evaluate F p x ≡ 𝟘) roots → length p ≤ length roots → Zeros F p
  root_bound_by [] [] er d ep r h = record {}
  root_bound_by [] (c ∷ p) er d ep r h = absurd (omega arith)
  root_bound_by (a ∷ roots) [] er d ep r h = record {}
  root_bound_by (a ∷ roots) (c ∷ p) er d ep r h =
      zeros_cons c p a r.0
      (zeros_of_divided a p
      (root_bound_by roots (divided F a p) er.1 d.1 (divided_elements a p er.0 ep.1)
      (roots_of_divided c p a er.0 ep.1 r.0 roots er.1 d.0 r.1)
      (omega (arith, length_divided F a p))))

  -- a polynomial with as many distinct roots as coefficients is zero
  pub root_bound : (p roots : List A) → All Element p → All Element roots → Distinct roots
      → All (λ x. evaluate F p x ≡ 𝟘) roots → length p ≤ length roots → Zeros F p
  root_bound p roots ep er d r h = root_bound_by roots p er d ep r h

  -- ---- the same by the degree

  evaluate-take : (n : ℕ) (p : List A) (x : A) → Zeros F (drop n p) → evaluate F (take n p) x ≡ evaluate F p x
  unfolding evaluate
  evaluate-take zero p x z = sym (evaluate_zeros F Element L p x z)
  evaluate-take (suc n) [] x z = refl
  evaluate-take (suc n) (c ∷ p) x z = ap (λ (v : A). c ⊕ x ⊗ v) (evaluate-take n p x z)

  roots_of_take : (n : ℕ) (p roots : List A) → Zeros F (drop n p) → All (λ x. evaluate F p x ≡ 𝟘) roots
      → All (λ x. evaluate F (take n p) x ≡ 𝟘) roots
  roots_of_take n p [] z r = record {}
  roots_of_take n p (x ∷ roots) z r = (evaluate-take n p x z ∙ r.0, roots_of_take n p roots z r.1)

  -- a polynomial of degree below n with n distinct roots is zero
  pub root_bound_degree : (n : ℕ) (p roots : List A) → All Element p → All Element roots → Distinct roots
      → All (λ x. evaluate F p x ≡ 𝟘) roots → DegreeBelow F n p → n ≤ length roots → Zeros F p
  root_bound_degree n p roots ep er d r z h =
      subst (Zeros F) (take-append-drop n p)
      (all_append (λ c. c ≡ 𝟘) (take n p) (drop n p)
      (root_bound (take n p) roots (all_take Element n p ep) er d (roots_of_take n p roots z r)
      (omega (arith, length-take n p))) z)

  -- ---- uniqueness

  roots_of_sum : (p q points : List A) → map (evaluate F p) points ≡ map (evaluate F q) points
      → All (λ x. evaluate F (plus F p q) x ≡ 𝟘) points
  roots_of_sum p q [] e = record {}
  roots_of_sum p q (x ∷ points) e = (
    evaluate-plus F Element L p q x ∙ ap (λ (v : A). v ⊕ evaluate F q x) (head_equal e) ∙ L.sum_self (evaluate F q x),
    roots_of_sum p q points (tail_equal e),
  )
    where
      head_equal : {a b : A} {s t : List A} → ◌≡◌ {A = List A} (a ∷ s) (b ∷ t) → a ≡ b
      head_equal h = cc

      tail_equal : {a b : A} {s t : List A} → ◌≡◌ {A = List A} (a ∷ s) (b ∷ t) → s ≡ t
      tail_equal h = cc

  equal_of_plus : (p q : List A) → length p ≡ length q → Zeros F (plus F p q) → p ≡ q
  unfolding plus
  equal_of_plus [] [] h z = refl
  equal_of_plus [] (d ∷ q) h z = absurd (omega arith)
  equal_of_plus (c ∷ p) [] h z = absurd (omega arith)
  equal_of_plus (c ∷ p) (d ∷ q) h z =
      ap₂ (λ (a : A) (s : List A). a ∷ s) (equal_of_sum F Element L c d z.0) (equal_of_plus p q (omega arith) z.1)

  -- two polynomials of n coefficients with the same values at n distinct points are equal
  pub unique : (p q points : List A) → All Element p → All Element q → All Element points → Distinct points
      → length p ≡ length points → length q ≡ length points
      → map (evaluate F p) points ≡ map (evaluate F q) points → p ≡ q
  unique p q points ep eq es d hp hq e =
      equal_of_plus p q (hp ∙ sym hq)
      (root_bound (plus F p q) points (plus-elements F Element L p q ep eq) es d (roots_of_sum p q points e)
      (omega (arith, length-plus F p q (le_of_eq (hq ∙ sym hp)))))
