-- Newton's form: its coefficients one after the other give it the values at distinct points,
-- and expanded it is the interpolant. Assumes nothing.
use mathlib.Core.Path.{◌≡◌, refl, sym, ap, ap₂, ◌∙◌}
use mathlib.Core.Logic.{◌≢◌}
use mathlib.Core.List.{List, [], ◌∷◌, ◌++◌, map, append_assoc, append-nil}
use Prim.Native.Nat.{ℕ, zero, suc, ◌<◌, ◌≤◌}
use native.Mathlib.Omega.{arith}
use lib.ListN.{length, get_or, take, length-append}
use Rattle.poly.specs.Carrier.{Operations, Laws}
use Rattle.poly.specs.Polynomial.{All, Distinct, evaluate, plus, scale, times_linear, interpolant}
use Rattle.poly.specs.Newton.{newton_value, vanishing, newton_coefficient}
use Rattle.poly.specs.Newton.{newton_after, newton_coefficients, horner_step, expanded}
use Rattle.poly.proofs.Sums.{sum-zero_r, sum_cancel, sum_not_zero, product-zero_l, divides, no_zero_divisors}
use Rattle.poly.proofs.Evaluation.{evaluate-times_linear, length-times_linear, times_linear-elements}
use Rattle.poly.proofs.Interpolation.{interpolant_unique}
use Rattle.poly.proofs.Entries.{all_append}

-- ---- lengths

pub length-newton_after : {A : Type 0} (F : Operations A) (earlier known points values : List A)
    → length points ≡ length values → length (newton_after F earlier known points values) ≡ length points
unfolding newton_after
length-newton_after F earlier known [] values h = refl
length-newton_after F earlier known (x ∷ points) [] h = absurd (omega arith)
length-newton_after F earlier known (x ∷ points) (y ∷ values) h =
    ap suc
    (length-newton_after F (earlier ++ (x ∷ []))
    (known ++ (newton_coefficient F earlier known x y ∷ [])) points values (omega arith))

pub length_joined : {A : Type 0} (F : Operations A) (x : A) (p : List A) → length (horner_step F x p) ≡ length p
unfolding horner_step
length_joined F x [] = refl
length_joined F x (c ∷ p) = length-times_linear F c x p

pub length-expanded : {A : Type 0} (F : Operations A) (points cs : List A) → length points ≡ length cs
    → length (expanded F points cs) ≡ length points
unfolding expanded
length-expanded F [] cs h = refl
length-expanded F (x ∷ points) [] h = absurd (omega arith)
length-expanded F (x ∷ points) (c ∷ cs) h =
    length_joined F x (c ∷ expanded F points cs) ∙ ap suc (length-expanded F points cs (omega arith))

module _ {A : Type 0} (F : Operations A) (Element : A → Type 0) (L : Laws A F Element) where
  open F use {zero as 𝟘, one as 𝟙, sum as ◌⊕◌, product as ◌⊗◌}

  infixl 60 ◌⊕◌
  infixl 70 ◌⊗◌
  -- ---- a form over points and further points

  split_step : (c d n w r : A) → c ⊕ d ⊗ (n ⊕ w ⊗ r) ≡ (c ⊕ d ⊗ n) ⊕ (d ⊗ w) ⊗ r
  split_step c d n w r =
      ap (λ (s : A). c ⊕ s) (L.distributive d n (w ⊗ r)) ∙ sym (L.sum_associative c (d ⊗ n) (d ⊗ (w ⊗ r)))
      ∙ ap (λ (s : A). (c ⊕ d ⊗ n) ⊕ s) (sym (L.product_associative d w r))

  pub newton_split : (points cs points' cs' : List A) (z : A) → length points ≡ length cs
      → Element (newton_value F points' cs' z)
      → newton_value F (points ++ points') (cs ++ cs') z
      ≡ newton_value F points cs z ⊕ vanishing F points z ⊗ newton_value F points' cs' z
  unfolding newton_value vanishing
  newton_split [] [] points' cs' z h e =
      sym (L.sum_zero (𝟙 ⊗ newton_value F points' cs' z) ∙ L.one_neutral (newton_value F points' cs' z) e)
  newton_split [] (c ∷ cs) points' cs' z h e = absurd (omega arith)
  newton_split (x ∷ points) [] points' cs' z h e = absurd (omega arith)
  newton_split (x ∷ points) (c ∷ cs) points' cs' z h e =
      ap (λ (s : A). c ⊕ (z ⊕ x) ⊗ s) (newton_split points cs points' cs' z (omega arith) e)
      ∙ split_step c (z ⊕ x) (newton_value F points cs z) (vanishing F points z) (newton_value F points' cs' z)

  pub vanishing-last : (points : List A) (x z : A) → vanishing F (points ++ (x ∷ [])) z ≡ vanishing F points z ⊗ (z ⊕ x)
  unfolding vanishing
  vanishing-last [] x z = L.product_commutative (z ⊕ x) 𝟙
  vanishing-last (y ∷ points) x z =
      ap (λ (s : A). (z ⊕ y) ⊗ s) (vanishing-last points x z)
      ∙ sym (L.product_associative (z ⊕ y) (vanishing F points z) (z ⊕ x))

  -- ---- elements

  pub newton_value-element : (points cs : List A) (z : A) → All Element points → All Element cs → Element z
      → Element (newton_value F points cs z)
  unfolding newton_value
  newton_value-element [] cs z ep ec ez = L.zero_element
  newton_value-element (x ∷ points) [] z ep ec ez = L.zero_element
  newton_value-element (x ∷ points) (c ∷ cs) z ep ec ez =
      L.sum_element c ((z ⊕ x) ⊗ newton_value F points cs z) ec.0
      (L.product_element (z ⊕ x) (newton_value F points cs z) (L.sum_element z x ez ep.0)
      (newton_value-element points cs z ep.1 ec.1 ez))

  pub vanishing-element : (points : List A) (z : A) → All Element points → Element z → Element (vanishing F points z)
  unfolding vanishing
  vanishing-element [] z ep ez = L.one_element
  vanishing-element (x ∷ points) z ep ez =
      L.product_element (z ⊕ x) (vanishing F points z) (L.sum_element z x ez ep.0)
      (vanishing-element points z ep.1 ez)

  -- no point is z: so no difference is zero, nor is their product
  pub vanishing_not_zero : (points : List A) (z : A) → All Element points → Element z → All (λ x. z ≢ x) points
      → vanishing F points z ≢ 𝟘
  unfolding vanishing
  vanishing_not_zero [] z ep ez d e = L.one_not_zero e
  vanishing_not_zero (x ∷ points) z ep ez d e =
      vanishing_not_zero points z ep.1 ez d.1
      (no_zero_divisors F Element L (z ⊕ x) (vanishing F points z) (L.sum_element z x ez ep.0)
      (sum_not_zero F Element L z x d.0) (vanishing-element points z ep.1 ez) e)

  newton_coefficient-element : (points cs : List A) (z y : A) → All Element points → All Element cs → Element z
      → Element y
      → Element (newton_coefficient F points cs z y)
  unfolding newton_coefficient
  newton_coefficient-element points cs z y ep ec ez ey =
      L.product_element (y ⊕ newton_value F points cs z) (F.inverse (vanishing F points z))
      (L.sum_element y (newton_value F points cs z) ey (newton_value-element points cs z ep ec ez))
      (L.inverse_element (vanishing F points z) (vanishing-element points z ep ez))

  -- ---- the coefficients

  -- at its first point the form is its first coefficient
  own_point : (x c : A) (points cs : List A) → newton_value F (x ∷ points) (c ∷ cs) x ≡ c
  unfolding newton_value
  own_point x c points cs =
      ap (λ (s : A). c ⊕ s)
      (ap (λ (s : A). s ⊗ newton_value F points cs x) (L.sum_self x)
      ∙ product-zero_l F Element L (newton_value F points cs x))
      ∙ sum-zero_r F Element L c

  -- with its coefficient the form has the value y at the new point x, whatever follows
  at_new_point : (earlier known : List A) (x y : A) (points cs : List A) → length earlier ≡ length known
      → All Element earlier → All Element known → Element x → Element y → All Element points → All Element cs
      → All (λ b. x ≢ b) earlier
      → newton_value F (earlier ++ x ∷ points) (known ++ newton_coefficient F earlier known x y ∷ cs) x ≡ y
  unfolding newton_coefficient
  at_new_point earlier known x y points cs h ee ek ex ey ep ec d =
      newton_split earlier known (x ∷ points) (c ∷ cs) x h
      (newton_value-element (x ∷ points) (c ∷ cs) x (ex, ep) (element_c, ec) ex)
      ∙ ap (λ (s : A). n ⊕ w ⊗ s) (own_point x c points cs)
      ∙ ap (λ (s : A). n ⊕ s) (filled_in n w y (vanishing-element earlier x ee ex)
      (vanishing_not_zero earlier x ee ex d) (L.sum_element y n ey element_n))
      ∙ ap (λ (s : A). n ⊕ s) (L.sum_commutative y n) ∙ sum_cancel F Element L n y
    where
      n : A
      n = newton_value F earlier known x

      w : A
      w = vanishing F earlier x

      c : A
      c = newton_coefficient F earlier known x y

      element_n : Element n
      element_n = newton_value-element earlier known x ee ek ex

      element_c : Element c
      element_c = newton_coefficient-element earlier known x y ee ek ex ey

      filled_in : (n w y : A) → Element w → w ≢ 𝟘 → Element (y ⊕ n) → w ⊗ ((y ⊕ n) ⊗ F.inverse w) ≡ y ⊕ n
      filled_in n w y ew nz e =
          ap (λ (s : A). w ⊗ s) (L.product_commutative (y ⊕ n) (F.inverse w)) ∙ divides F Element L w (y ⊕ n) ew nz e

  newton_after-elements : (earlier known points values : List A) → All Element earlier → All Element known
      → All Element points → All Element values
      → All Element (newton_after F earlier known points values)
  unfolding newton_after
  newton_after-elements earlier known [] values ee ek ep ev = record {}
  newton_after-elements earlier known (x ∷ points) [] ee ek ep ev = record {}
  newton_after-elements earlier known (x ∷ points) (y ∷ values) ee ek ep ev = (
    newton_coefficient-element earlier known x y ee ek ep.0 ev.0,
    newton_after-elements (earlier ++ (x ∷ [])) (known ++ (newton_coefficient F earlier known x y ∷ [])) points values
        (all_append Element earlier (x ∷ []) ee (ep.0, record {}))
        (all_append Element known (newton_coefficient F earlier known x y ∷ []) ek
        (newton_coefficient-element earlier known x y ee ek ep.0 ev.0, record {}))
        ep.1 ev.1,
  )

  also_differs : (earlier points : List A) (x : A) → All (λ z. All (λ b. z ≢ b) earlier) points
      → All (λ z. z ≢ x) points
      → All (λ z. All (λ b. z ≢ b) (earlier ++ (x ∷ []))) points
  also_differs earlier [] x d n = record {}
  also_differs earlier (z ∷ points) x d n =
      (all_append (λ b. z ≢ b) earlier (x ∷ []) d.0 (n.0, record {}), also_differs earlier points x d.1 n.1)

  newton_after_agrees : (earlier known points values : List A) → length earlier ≡ length known
      → length points ≡ length values
      → All Element earlier → All Element known → All Element points → All Element values
      → All (λ z. All (λ b. z ≢ b) earlier) points → Distinct points
      → map (newton_value F (earlier ++ points) (known ++ newton_after F earlier known points values)) points ≡ values
  unfolding newton_after
  newton_after_agrees earlier known [] [] h l ee ek ep ev d n = refl
  newton_after_agrees earlier known [] (y ∷ values) h l ee ek ep ev d n = absurd (omega arith)
  newton_after_agrees earlier known (x ∷ points) [] h l ee ek ep ev d n = absurd (omega arith)
  newton_after_agrees earlier known (x ∷ points) (y ∷ values) h l ee ek ep ev d n =
      ap₂ (λ (a : A) (s : List A). a ∷ s)
      (at_new_point earlier known x y points
      (newton_after F earlier' known' points values) h ee ek ep.0 ev.0 ep.1
      (newton_after-elements earlier' known' points values ee' ek' ep.1 ev.1) d.0)
      (ap₂ (λ (ps cs : List A). map (newton_value F ps cs) points) (sym (append_assoc earlier (x ∷ []) points))
      (sym (append_assoc known (c ∷ []) (newton_after F earlier' known' points values)))
      ∙ newton_after_agrees earlier' known' points values one_longer (omega arith) ee' ek' ep.1 ev.1
      (also_differs earlier points x d.1 n.0) n.1)
    where
      c : A
      c = newton_coefficient F earlier known x y

      earlier' : List A
      earlier' = earlier ++ (x ∷ [])

      known' : List A
      known' = known ++ (c ∷ [])

      ee' : All Element earlier'
      ee' = all_append Element earlier (x ∷ []) ee (ep.0, record {})

      ek' : All Element known'
      ek' =
          all_append Element known (c ∷ []) ek
          (newton_coefficient-element earlier known x y ee ek ep.0 ev.0, record {})

      one_longer : length earlier' ≡ length known'
      one_longer = omega (arith, length-append earlier (x ∷ []), length-append known (c ∷ []))

  none_earlier : (points : List A) → All (λ z. All (λ b. z ≢ b) []) points
  none_earlier [] = record {}
  none_earlier (x ∷ points) = (record {}, none_earlier points)

  newton_coefficients_agree : (points values : List A) → length points ≡ length values → All Element points
      → All Element values → Distinct points
      → map (newton_value F points (newton_coefficients F points values)) points ≡ values
  unfolding newton_coefficients
  newton_coefficients_agree points values l ep ev d =
      newton_after_agrees [] [] points values refl l (record {}) (record {}) ep ev (none_earlier points) d

  -- ---- the expanded form

  evaluate-expanded : (points cs : List A) (z : A) → evaluate F (expanded F points cs) z ≡ newton_value F points cs z
  unfolding evaluate expanded horner_step newton_value
  evaluate-expanded [] cs z = refl
  evaluate-expanded (x ∷ points) [] z = refl
  evaluate-expanded (x ∷ points) (c ∷ cs) z =
      evaluate-times_linear F Element L c x (expanded F points cs) z
      ∙ ap (λ (s : A). c ⊕ (z ⊕ x) ⊗ s) (evaluate-expanded points cs z)

  values_expanded : (points cs at : List A)
      → map (evaluate F (expanded F points cs)) at ≡ map (newton_value F points cs) at
  values_expanded points cs [] = refl
  values_expanded points cs (z ∷ at) =
      ap₂ (λ (a : A) (s : List A). a ∷ s) (evaluate-expanded points cs z) (values_expanded points cs at)

  expanded-elements : (points cs : List A) → All Element points → All Element cs → All Element (expanded F points cs)
  unfolding expanded horner_step
  expanded-elements [] cs ep ec = record {}
  expanded-elements (x ∷ points) [] ep ec = record {}
  expanded-elements (x ∷ points) (c ∷ cs) ep ec =
      times_linear-elements F Element L c x (expanded F points cs) ec.0 ep.0
      (expanded-elements points cs ep.1 ec.1)

  -- Newton's form, expanded, is the interpolant
  pub newton_interpolant : (points values : List A) → length points ≡ length values → All Element points
      → All Element values → Distinct points
      → expanded F points (newton_coefficients F points values) ≡ interpolant F points values
  unfolding newton_coefficients
  newton_interpolant points values l ep ev d =
      interpolant_unique F Element L (expanded F points (newton_coefficients F points values)) points values
      (expanded-elements points (newton_coefficients F points values) ep
      (newton_after-elements [] [] points values (record {}) (record {}) ep ev)) ep ev d
      (length-expanded F points (newton_coefficients F points values) (sym (length-newton_after F [] [] points values l)))
      (values_expanded points (newton_coefficients F points values) points
      ∙ newton_coefficients_agree points values l ep ev d)

-- ---- entry by entry

-- an entry of c + (X - x) · p: the entry there plus x times the next
pub joined_get_or : {A : Type 0} (F : Operations A) (d x : A) (p : List A) (j : ℕ) → suc j < length p
    → get_or (horner_step F x p) j d ≡ F.sum (get_or p j d) (F.product x (get_or p (suc j) d))
unfolding horner_step times_linear plus scale
joined_get_or F d x [] j h = absurd (omega arith)
joined_get_or F d x (c ∷ []) j h = absurd (omega arith)
joined_get_or F d x (c ∷ e ∷ p) zero h = refl
joined_get_or F d x (c ∷ e ∷ p) (suc j) h = joined_get_or F d x (e ∷ p) j (omega arith)

-- the last entry is as it was
pub joined_last : {A : Type 0} (F : Operations A) (d x : A) (p : List A) (j : ℕ) → length p ≤ suc j
    → get_or (horner_step F x p) j d ≡ get_or p j d
unfolding horner_step times_linear plus scale
joined_last F d x [] j h = refl
joined_last F d x (c ∷ []) zero h = refl
joined_last F d x (c ∷ []) (suc j) h = refl
joined_last F d x (c ∷ e ∷ p) zero h = absurd (omega arith)
joined_last F d x (c ∷ e ∷ p) (suc j) h = joined_last F d x (e ∷ p) j (omega arith)

newton_after-get_or : {A : Type 0} (F : Operations A) (d : A) (earlier known points values : List A) (i : ℕ)
    → length points ≡ length values → i < length points
    → get_or (newton_after F earlier known points values) i d
    ≡ newton_coefficient F (earlier ++ take i points) (known ++ take i (newton_after F earlier known points values))
    (get_or points i d) (get_or values i d)
unfolding newton_after
newton_after-get_or F d earlier known [] values i l h = absurd (omega arith)
newton_after-get_or F d earlier known (x ∷ points) [] i l h = absurd (omega arith)
newton_after-get_or F d earlier known (x ∷ points) (y ∷ values) zero l h =
    ap₂ (λ (ps cs : List _). newton_coefficient F ps cs x y) (sym (append-nil earlier)) (sym (append-nil known))
newton_after-get_or F d earlier known (x ∷ points) (y ∷ values) (suc i) l h =
    newton_after-get_or F d (earlier ++ (x ∷ [])) (known ++ (newton_coefficient F earlier known x y ∷ [])) points values i
    (omega arith) (omega arith)
    ∙ ap₂ (λ (ps cs : List _). newton_coefficient F ps cs (get_or points i d) (get_or values i d))
    (append_assoc earlier (x ∷ []) (take i points))
    (append_assoc known (newton_coefficient F earlier known x y ∷ [])
    (take i
    (newton_after F (earlier ++ (x ∷ [])) (known ++ (newton_coefficient F earlier known x y ∷ [])) points values)))

pub newton_coefficients-get_or : {A : Type 0} (F : Operations A) (d : A) (points values : List A) (i : ℕ)
    → length points ≡ length values → i < length points
    → get_or (newton_coefficients F points values) i d
    ≡ newton_coefficient F (take i points) (take i (newton_coefficients F points values))
    (get_or points i d) (get_or values i d)
unfolding newton_coefficients
newton_coefficients-get_or F d points values i l h = newton_after-get_or F d [] [] points values i l h

pub length-newton_coefficients : {A : Type 0} (F : Operations A) (points values : List A)
    → length points ≡ length values → length (newton_coefficients F points values) ≡ length points
unfolding newton_coefficients
length-newton_coefficients F points values h = length-newton_after F [] [] points values h
