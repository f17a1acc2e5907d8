-- The interpolant has the given values at the points, and as many coefficients as there are points; it is the only such
-- polynomial. Assumes nothing.
use mathlib.Core.Path.{◌≡◌, refl, sym, ap, ap₂, ◌∙◌}
use mathlib.Core.Logic.{◌≢◌}
use mathlib.Core.List.{List, [], ◌∷◌, map}
use Prim.Native.Nat.{ℕ, suc, ◌≤◌}
use native.Mathlib.Omega.{arith}
use lib.ListN.{length, length-map}
use Rattle.poly.specs.Carrier.{Operations, Laws}
use Rattle.poly.specs.Polynomial.{All, Distinct, evaluate, padded, times_linear, divided_differences, interpolant}
use Rattle.poly.proofs.Sums.{sum-zero_r, sum_cancel, sum_not_zero, product-zero_l, divides}
use Rattle.poly.proofs.Evaluation.{evaluate-times_linear, evaluate-padded, evaluate-element}
use Rattle.poly.proofs.Evaluation.{length-times_linear, length-padded, times_linear-elements, padded-elements}
use Rattle.poly.proofs.Roots.{unique}

length-divided_differences : {A : Type 0} (F : Operations A) (x y : A) (points values : List A)
    → length points ≡ length values → length (divided_differences F x y points values) ≡ length points
unfolding divided_differences
length-divided_differences F x y [] values h = refl
length-divided_differences F x y (x' ∷ points) [] h = absurd (omega arith)
length-divided_differences F x y (x' ∷ points) (y' ∷ values) h =
    ap suc (length-divided_differences F x y points values (omega arith))

pub length-interpolant : {A : Type 0} (F : Operations A) (points values : List A)
    → length points ≡ length values → length (interpolant F points values) ≡ length points
unfolding interpolant
length-interpolant F [] values h = refl
length-interpolant F (x ∷ points) [] h = absurd (omega arith)
length-interpolant F (x ∷ points) (y ∷ values) h =
    length-times_linear F y x (interpolant F points (divided_differences F x y points values))
    ∙ ap suc (length-interpolant F points (divided_differences F x y points values)
    (sym (length-divided_differences F x y points values (omega arith))))

module _ {A : Type 0} (F : Operations A) (Element : A → Type 0) (L : Laws A F Element) where
  open F use {zero as 𝟘, sum as ◌⊕◌, product as ◌⊗◌}

  infixl 60 ◌⊕◌
  infixl 70 ◌⊗◌
  divided_differences-elements : (x y : A) (points values : List A) → Element x → Element y → All Element points
      → All Element values
      → All Element (divided_differences F x y points values)
  unfolding divided_differences
  divided_differences-elements x y [] values ex ey ep ev = record {}
  divided_differences-elements x y (x' ∷ points) [] ex ey ep ev = record {}
  divided_differences-elements x y (x' ∷ points) (y' ∷ values) ex ey ep ev = (
    L.product_element (F.inverse (x' ⊕ x)) (y' ⊕ y) (L.inverse_element (x' ⊕ x) (L.sum_element x' x ep.0 ex))
        (L.sum_element y' y ev.0 ey),
    divided_differences-elements x y points values ex ey ep.1 ev.1,
  )

  pub interpolant-elements : (points values : List A) → All Element points → All Element values
      → All Element (interpolant F points values)
  unfolding interpolant
  interpolant-elements [] values ep ev = record {}
  interpolant-elements (x ∷ points) [] ep ev = record {}
  interpolant-elements (x ∷ points) (y ∷ values) ep ev =
      times_linear-elements F Element L y x
      (interpolant F points (divided_differences F x y points values)) ev.0 ep.0
      (interpolant-elements points (divided_differences F x y points values) ep.1
      (divided_differences-elements x y points values ep.0 ev.0 ep.1 ev.1))

  -- y + (x + x) · q is y
  at_own_point : (x y : A) (q : List A) → evaluate F (times_linear F y x q) x ≡ y
  at_own_point x y q =
      evaluate-times_linear F Element L y x q x
      ∙ ap (λ (v : A). y ⊕ v)
      (ap (λ (v : A). v ⊗ evaluate F q x) (L.sum_self x) ∙ product-zero_l F Element L (evaluate F q x))
      ∙ sum-zero_r F Element L y

  -- where q has the divided difference for its value, y + (x' + x) · q is y'
  at_other_point : (x y x' y' : A) (q : List A) → Element x → Element y → Element x' → Element y' → x' ≢ x
      → evaluate F q x' ≡ F.inverse (x' ⊕ x) ⊗ (y' ⊕ y) → evaluate F (times_linear F y x q) x' ≡ y'
  at_other_point x y x' y' q ex ey ex' ey' ne e =
      evaluate-times_linear F Element L y x q x'
      ∙ ap (λ (v : A). y ⊕ v)
      (ap (λ (v : A). (x' ⊕ x) ⊗ v) e
      ∙ divides F Element L (x' ⊕ x) (y' ⊕ y) (L.sum_element x' x ex' ex) (sum_not_zero F Element L x' x ne)
      (L.sum_element y' y ey' ey)
      ∙ L.sum_commutative y' y)
      ∙ sum_cancel F Element L y y'

  at_other_points : (x y : A) (q : List A) → Element x → Element y → (points values : List A) → All Element points
      → All Element values
      → All (λ x'. x' ≢ x) points → length points ≡ length values
      → map (evaluate F q) points ≡ divided_differences F x y points values
      → map (evaluate F (times_linear F y x q)) points ≡ values
  unfolding divided_differences
  at_other_points x y q ex ey [] [] ep ev d h e = refl
  at_other_points x y q ex ey [] (y' ∷ values) ep ev d h e = absurd (omega arith)
  at_other_points x y q ex ey (x' ∷ points) [] ep ev d h e = absurd (omega arith)
  at_other_points x y q ex ey (x' ∷ points) (y' ∷ values) ep ev d h e =
      ap₂ (λ (a : A) (s : List A). a ∷ s)
      (at_other_point x y x' y' q ex ey ep.0 ev.0 d.0 (cc))
      (at_other_points x y q ex ey points values ep.1 ev.1 d.1 (omega arith) (cc))

  -- the interpolant has the values at the points
  pub interpolant_agrees : (points values : List A) → All Element points → All Element values → Distinct points
      → length points ≡ length values → map (evaluate F (interpolant F points values)) points ≡ values
  unfolding interpolant
  interpolant_agrees [] [] ep ev d h = refl
  interpolant_agrees [] (y ∷ values) ep ev d h = absurd (omega arith)
  interpolant_agrees (x ∷ points) [] ep ev d h = absurd (omega arith)
  interpolant_agrees (x ∷ points) (y ∷ values) ep ev d h =
      ap₂ (λ (a : A) (s : List A). a ∷ s)
      (at_own_point x y (interpolant F points (divided_differences F x y points values)))
      (at_other_points x y (interpolant F points (divided_differences F x y points values)) ep.0 ev.0 points values
      ep.1 ev.1 d.0 (omega arith)
      (interpolant_agrees points (divided_differences F x y points values) ep.1
      (divided_differences-elements x y points values ep.0 ev.0 ep.1 ev.1) d.1
      (sym (length-divided_differences F x y points values (omega arith)))))

  -- whatever has as many coefficients as there are points, and the values at them, is the interpolant
  pub interpolant_unique : (p points values : List A) → All Element p → All Element points → All Element values
      → Distinct points
      → length p ≡ length points → map (evaluate F p) points ≡ values → p ≡ interpolant F points values
  interpolant_unique p points values ep es ev d h e =
      unique F Element L p (interpolant F points values) points ep (interpolant-elements points values es ev) es d h
      (length-interpolant F points values same) (e ∙ sym (interpolant_agrees points values es ev d same))
    where
      same : length points ≡ length values
      same = sym (length-map points (evaluate F p)) ∙ ap length e

  pub values_padded : (n : ℕ) (p points : List A) → map (evaluate F (padded F n p)) points ≡ map (evaluate F p) points
  values_padded n p [] = refl
  values_padded n p (x ∷ points) =
      ap₂ (λ (a : A) (s : List A). a ∷ s) (evaluate-padded F Element L n p x) (values_padded n p points)

  pub values_elements : (p points : List A) → All Element p → All Element points
      → All Element (map (evaluate F p) points)
  values_elements p [] ep es = record {}
  values_elements p (x ∷ points) ep es =
      (evaluate-element F Element L p x ep es.0, values_elements p points ep es.1)

  -- from the values of p at the points the interpolant is p again, zeros filled in
  pub interpolant_recovers : (p points : List A) → All Element p → All Element points → Distinct points
      → length p ≤ length points
      → interpolant F points (map (evaluate F p) points) ≡ padded F (length points) p
  interpolant_recovers p points ep es d h =
      sym
      (interpolant_unique (padded F (length points) p) points (map (evaluate F p) points)
      (padded-elements F Element L (length points) p ep) es (values_elements p points ep es) d
      (length-padded F (length points) p h) (values_padded (length points) p points))
