-- The maps z_n over an independent basis: constant on the cosets of the first n elements, one more behind element n,
-- and z_n^2 + z_n is a multiple of z_(n+1). Assumes nothing.
use mathlib.Core.Path.{◌≡◌, refl, sym, ap, ap₂, ◌∙◌}
use mathlib.Core.Logic.{◌≢◌}
use mathlib.Core.List.{List, [], ◌∷◌, ◌++◌, map}
use Prim.Native.Nat.{ℕ, zero, suc, ◌/◌, ◌^◌, ◌<◌, ◌≤◌}
use native.Mathlib.Nat.{le_refl, le_of_lt, le_of_eq}
use native.Mathlib.Omega.{arith}
use lib.ListN.{length, get_or, take, drop, drop_of_length-le}
use lib.Seq.{take-suc, length-take-le}
use lib.Bits.{bit_xor}
use Rattle.gf64.specs.Field.{IsElement, sum, product, inverse}
use Rattle.gf64.proofs.Ring.{product_lt, product_comm, product-add_r, product-add_l, product_one_l}
use Rattle.gf64.proofs.Ring.{product_one_r, product_left_comm, product_swap}
use Rattle.gf64.proofs.Inverse.{inverse_right}
use Rattle.poly.specs.Polynomial.{All}
use Rattle.poly.proofs.Entries.{all_at}
use Rattle.poly.proofs.Filling.{get_d_map}
use Rattle.coset.specs.Coset.{point}
use Rattle.coset.specs.Span.{Independent}
use Rattle.coset.specs.Steps.{one_step, composed_maps, step_elements}
use Rattle.coset.proofs.Steps.{through_additive, through_point, elements_of_prefix, length-elements}
use Rattle.coset.proofs.Steps.{element_at, elements_not_zero, mapped_elements}
use Rattle.transform.specs.Transform.{ratio_of, normalised_at}

-- the elements of a shorter step are the first ones
take-elements : (n k : ℕ) (basis : List ℕ) → n ≤ k → take n (step_elements k basis) ≡ step_elements n basis
unfolding step_elements
take-elements zero k basis h = refl
take-elements (suc n) zero basis h = absurd (omega arith)
take-elements (suc n) (suc k) [] h = refl
take-elements (suc n) (suc k) (b ∷ basis) h =
    ap {B = List ℕ} (λ l. b ∷ l) (take-elements n k (map (one_step b) basis) (omega arith))

through_append : (a b : List ℕ) (x : ℕ) → composed_maps (a ++ b) x ≡ composed_maps b (composed_maps a x)
unfolding composed_maps
through_append [] b x = refl
through_append (e ∷ a) b x = through_append a b (one_step e x)

steps_element : (k : ℕ) (basis : List ℕ) → All IsElement basis → All IsElement (step_elements k basis)
unfolding step_elements
steps_element zero basis h = record {}
steps_element (suc k) [] h = record {}
steps_element (suc k) (b ∷ basis) h = (h.0, steps_element k (map (one_step b) basis) (mapped_elements b basis h.1))

-- e · (d · d) times d' · (c · c), where e d' = 1 and d c = 1
inverse_ratio : (e d d' c : ℕ) → product e d' ≡ 1 → product d c ≡ 1
    → product (product e (product d d)) (product d' (product c c)) ≡ 1
inverse_ratio e d d' c he hd =
    product_swap e (product d d) d' (product c c)
    ∙ ap₂ product he (product_swap d d c c ∙ ap₂ product hd hd ∙ product_one_l 1 (omega arith))
    ∙ product_one_l 1 (omega arith)

-- e · (d · d) times s (s + c) · d', where e d' = 1 and d c = 1, is (s d)^2 + s d
next_product : (e d d' c s : ℕ) → product e d' ≡ 1 → product d c ≡ 1
    → product (product e (product d d)) (product (product s (sum s c)) d')
    ≡ sum (product (product s d) (product s d)) (product s d)
next_product e d d' c s he hd =
    ap (product (product e (product d d))) (product_comm (product s (sum s c)) d')
    ∙ product_swap e (product d d) d' (product s (sum s c)) ∙ ap (λ (p : ℕ). product p rest) he
    ∙ product_one_l rest (product_lt (product d d) (product s (sum s c)))
    ∙ ap (product (product d d)) (product-add_r s s c) ∙ product-add_r (product d d) (product s s) (product s c)
    ∙ ap₂ sum
    (product_comm (product d d) (product s s) ∙ product_swap s s d d)
    (product_comm (product d d) (product s c) ∙ product_swap s c d d
    ∙ ap (product (product s d)) (product_comm c d ∙ hd) ∙ product_one_r (product s d) (product_lt s d))
  where
    rest : ℕ
    rest = product (product d d) (product s (sum s c))

module _ (basis : List ℕ) (elements : All IsElement basis) (independent : Independent basis) where
  abbrev k : ℕ
  k = length basis

  abbrev es : List ℕ
  es = step_elements k basis

  abbrev ds : List ℕ
  ds = map inverse es

  counted : length es ≡ k
  counted = length-elements (length basis) basis (le_refl (length basis))

  abbrev z : ℕ → ℕ → ℕ
  z = normalised_at es ds

  abbrev ratio : ℕ → ℕ
  ratio = ratio_of es ds

  abbrev ratio' : ℕ → ℕ
  ratio' = ratio_of ds es

  -- an element times its inverse
  divides : (j : ℕ) → j < k → product (get_or es j 0) (get_or ds j 0) ≡ 1
  divides j h =
      ap (product (get_or es j 0)) (get_d_map inverse es j (omega (arith, counted)))
      ∙ inverse_right (get_or es j 0)
      (all_at IsElement es j 0 (steps_element (length basis) basis elements) (omega (arith, counted)))
      (all_at (λ e. e ≢ 0) es j 0 (elements_not_zero (length basis) basis elements independent) (omega
      (arith, counted)))

  divides_back : (j : ℕ) → j < k → product (get_or ds j 0) (get_or es j 0) ≡ 1
  divides_back j h = product_comm (get_or ds j 0) (get_or es j 0) ∙ divides j h

  pub ratios_inverse : (j : ℕ) → j < k → product (ratio j) (ratio' j) ≡ 1
  unfolding ratio_of
  ratios_inverse zero h = divides 0 h
  ratios_inverse (suc j) h =
      inverse_ratio (get_or es (suc j) 0) (get_or ds j 0) (get_or ds (suc j) 0) (get_or es j 0) (divides (suc j) h)
      (divides_back j (omega arith))

  pub multiplier_element : (n x : ℕ) → IsElement (z n x)
  unfolding normalised_at
  multiplier_element n x = product_lt (composed_maps (take n es) x) (get_or ds n 0)

  pub multiplier_constant : (n offset i : ℕ) → n < k → z n (point offset (take n basis) i) ≡ z n offset
  unfolding normalised_at point
  multiplier_constant n offset i h =
      ap (λ (l : List ℕ). product (composed_maps l (point offset (take n basis) i)) (get_or ds n 0)) first
      ∙ ap (λ (v : ℕ). product v (get_or ds n 0))
      (through_point n offset (take n basis) i
      ∙ ap (λ (l : List ℕ). point (composed_maps (step_elements n (take n basis)) offset)
      (map (composed_maps (step_elements n (take n basis))) l) (i / 2 ^ n))
      nothing_left)
      ∙ ap (λ (l : List ℕ). product (composed_maps l offset) (get_or ds n 0)) (sym first)
    where
      first : take n (step_elements (length basis) basis) ≡ step_elements n (take n basis)
      first = take-elements n (length basis) basis (le_of_lt h) ∙ sym (elements_of_prefix n basis)

      nothing_left : drop n (take n basis) ≡ []
      nothing_left = drop_of_length-le (take n basis) (le_of_eq (length-take-le n basis (le_of_lt h)))

  own : (n : ℕ) → n < k → composed_maps (take n es) (get_or basis n 0) ≡ get_or es n 0
  own n h = element_at (length basis) basis n h (le_refl (length basis))

  pub multiplier_next : (n offset : ℕ) → n < k → z n (sum offset (get_or basis n 0)) ≡ sum (z n offset) 1
  unfolding normalised_at
  multiplier_next n offset h =
      ap (λ (v : ℕ). product v (get_or ds n 0)) (through_additive (take n es) offset (get_or basis n 0))
      ∙ product-add_l (composed_maps (take n es) offset) (composed_maps (take n es) (get_or basis n 0)) (get_or ds n 0)
      ∙ ap (bit_xor (product (composed_maps (take n es) offset) (get_or ds n 0)))
      (ap (λ (v : ℕ). product v (get_or ds n 0)) (own n h) ∙ divides n h)

  -- ---- the weights of the levels

  -- x, then z_j^2 + z_j
  pub level : ℕ → ℕ → ℕ
  level x zero = x
  level x (suc j) = sum (product (z j x) (z j x)) (z j x)

  pub level_first : (x : ℕ) → level x 0 ≡ x
  unfolding level
  level_first x = refl

  pub level_next : (x j : ℕ) → level x (suc j) ≡ sum (product (z j x) (z j x)) (z j x)
  unfolding level
  level_next x j = refl

  pub level_scaled : (x j : ℕ) → IsElement x → j < k → product (ratio j) (z j x) ≡ level x j
  unfolding ratio_of normalised_at level composed_maps one_step
  level_scaled x zero hx h =
      product_left_comm (get_or es 0 0) x (get_or ds 0 0) ∙ ap (product x) (divides 0 h) ∙ product_one_r x hx
  level_scaled x (suc j) hx h =
      ap (λ (v : ℕ). product (product (get_or es (suc j) 0) (product (get_or ds j 0) (get_or ds j 0)))
      (product v (get_or ds (suc j) 0)))
      (ap (λ (l : List ℕ). composed_maps l x) (take-suc es j 0 (omega (arith, counted)))
      ∙ through_append (take j es) (get_or es j 0 ∷ []) x)
      ∙ next_product (get_or es (suc j) 0) (get_or ds j 0) (get_or ds (suc j) 0) (get_or es j 0) (composed_maps (take j es) x)
      (divides (suc j) h) (divides_back j (omega arith))
