-- The transform in the place of a list, as the code goes. Assumes nothing.
use mathlib.Core.Path.{◌≡◌, refl, sym, ap, ap₂, ◌∙◌, subst}
use mathlib.Core.Logic.{◌≢◌}
use mathlib.Core.List.{List, [], ◌∷◌, ◌++◌, map}
use Prim.Native.Nat.{ℕ, zero, suc, ◌+◌, ◌-◌, ◌^◌, ◌≤◌, ◌<◌}
use native.Mathlib.Nat.{le_of_eq, le_refl, add-zero}
use native.Mathlib.Omega.{arith}
use lib.Pow.{pow_mono}
use lib.ListN.{length, get_or, take, drop, replicate, length-drop, length-map}
use lib.Seq.{length-take-le, drop_at}
use Rattle.gf64.specs.Field.{IsElement, product, inverse}
use Rattle.poly.specs.Carrier.{gf64}
use Rattle.poly.specs.Polynomial.{All, Zeros, DegreeBelow, evaluate, padded}
use Rattle.poly.proofs.AtField.{gf64_laws}
use Rattle.poly.proofs.Entries.{all_take, all_of, map_agree}
use Rattle.poly.proofs.Evaluation.{padded_full, evaluate_taken}
use Rattle.poly.proofs.Filling.{padded_taken}
use Rattle.coset.specs.Coset.{points}
use Rattle.coset.specs.Span.{Independent}
use Rattle.coset.specs.Steps.{step_elements}
use Rattle.coset.proofs.Points.{all_elements}
use Rattle.coset.proofs.Steps.{length-elements}
use Rattle.reed_solomon.specs.Codes.{encoded, interpolated}
use Rattle.transform.specs.Transform.{scaled_runs, regrouped, regrouped_back, converted, converted_back, ratio_of}
use Rattle.transform.specs.Transform.{normalised_at, split_in_halves, joined_from_halves, transformed, transformed_back}
use Rattle.transform.proofs.Converting.{converted_block}
use Rattle.transform.proofs.Theorems.{transformed_values, transformed_coefficients}

-- ---- level by level

pub converted_next : (ratio : ℕ → ℕ) (j levels : ℕ) (s : List ℕ) → j < levels
    → converted ratio (j + 1) (levels - (j + 1)) (regrouped j (levels - j) (scaled_runs j (ratio j) s))
    ≡ converted ratio j (levels - j) s
unfolding converted
converted_next ratio j levels s h =
    ap (λ (l : ℕ). converted ratio l (levels - (j + 1)) (regrouped j (levels - j) (scaled_runs j
    (ratio j) s))) one_more
    ∙ ap (λ (u : ℕ). converted ratio (suc j) (levels - (j + 1)) (regrouped j u (scaled_runs j (ratio j) s))) above
    ∙ sym (ap (λ (u : ℕ). converted ratio j u s) above)
  where
    one_more : j + 1 ≡ suc j
    one_more = omega arith

    above : levels - j ≡ suc (levels - (j + 1))
    above = omega arith

pub converted_end : (ratio : ℕ → ℕ) (j levels : ℕ) (s : List ℕ) → levels ≤ j → converted ratio j (levels - j) s ≡ s
unfolding converted
converted_end ratio j levels s h = ap (λ (u : ℕ). converted ratio j u s) none
  where
    none : levels - j ≡ 0
    none = omega arith

pub converted_back_start : (ratio : ℕ → ℕ) (levels : ℕ) (s : List ℕ)
    → s ≡ converted_back ratio levels (levels - levels) s
unfolding converted_back
converted_back_start ratio levels s = sym (ap (λ (u : ℕ). converted_back ratio levels u s) none)
  where
    none : levels - levels ≡ 0
    none = omega arith

pub converted_back_next : (ratio : ℕ → ℕ) (j levels : ℕ) (s : List ℕ) → 0 < j → j ≤ levels
    → scaled_runs (j - 1) (ratio (j - 1))
    (regrouped_back (j - 1) (levels - (j - 1)) (converted_back ratio j (levels - j) s))
    ≡ converted_back ratio (j - 1) (levels - (j - 1)) s
unfolding converted_back
converted_back_next ratio zero levels s p h = absurd (omega arith)
converted_back_next ratio (suc j) levels s p h =
    ap (λ (i : ℕ). scaled_runs i (ratio i)
    (regrouped_back i (levels - i) (converted_back ratio (suc j) (levels - suc j) s))) less
    ∙ ap (λ (u : ℕ). scaled_runs j (ratio j)
    (regrouped_back j u (converted_back ratio (suc j) (levels - suc j) s))) above
    ∙ sym (ap (λ (i : ℕ). converted_back ratio i (levels - i) s) less ∙ ap (λ
    (u : ℕ). converted_back ratio j u s) above)
  where
    less : suc j - 1 ≡ j
    less = omega arith

    above : levels - j ≡ suc (levels - suc j)
    above = omega arith

-- ---- the ratio of a level

pub ratio_first : (elements inverses : List ℕ) (j : ℕ) → j ≡ 0 → get_or elements j 0 ≡ ratio_of elements inverses j
unfolding ratio_of
ratio_first elements inverses zero h = refl
ratio_first elements inverses (suc j) h = absurd (omega arith)

pub ratio_later : (elements inverses : List ℕ) (j : ℕ) → j ≢ 0
    → product (get_or elements j 0) (product (get_or inverses (j - 1) 0) (get_or inverses (j - 1) 0))
    ≡ ratio_of elements inverses j
unfolding ratio_of
ratio_later elements inverses zero h = absurd (h refl)
ratio_later elements inverses (suc j) h =
    ap (λ (i : ℕ). product (get_or elements (suc j) 0) (product (get_or inverses i 0) (get_or inverses i 0))) less
  where
    less : suc j - 1 ≡ j
    less = omega arith

-- ---- the whole

zeros_repeated : (l : List ℕ) (n : ℕ) → Zeros gf64 l → length l ≡ n → replicate n 0 ≡ l
zeros_repeated [] zero z e = refl
zeros_repeated [] (suc n) z e = absurd (omega arith)
zeros_repeated (x ∷ l) zero z e = absurd (omega arith)
zeros_repeated (x ∷ l) (suc n) z e = ap₂ (λ (a : ℕ) (r : List ℕ). a ∷ r) (sym z.0) (zeros_repeated l n
    z.1 (omega arith))

module _ (offset : ℕ) (basis s : List ℕ) (eo : IsElement offset) (eb : (i : ℕ) → get_or basis i 0 < 2 ^ 64)
    (es : (i : ℕ) → get_or s i 0 < 2 ^ 64) (d : Independent basis) (counted : length s ≡ 2 ^ length basis) where
  abbrev elements : List ℕ
  elements = step_elements (length basis) basis

  abbrev inverses : List ℕ
  inverses = map inverse elements

  module _ (used : ℕ) (within : used ≤ length basis) (below : DegreeBelow gf64 (2 ^ used) s) where
    c : List ℕ
    c = take (2 ^ used) s

    length_c : length c ≡ 2 ^ used
    unfolding c
    length_c = length-take-le (2 ^ used) s (subst (λ (n : ℕ). 2 ^ used ≤ n) (sym counted) (pow_mono within))

    ec : All IsElement c
    unfolding c
    ec = all_take IsElement (2 ^ used) s (all_elements s es)

    products : List ℕ
    products = converted (ratio_of elements inverses) 0 used c

    length_products : length products ≡ 2 ^ used
    unfolding products
    length_products =
        (converted_block (ratio_of elements inverses) 0 used c
        (length_c ∙ ap (λ (n : ℕ). 2 ^ n) (sym (add-zero used)), ec)).0
        ∙ ap (λ (n : ℕ). 2 ^ n) (add-zero used)

    -- the zeros behind the products
    with_zeros : padded gf64 (2 ^ length basis) products ≡ products ++ drop (2 ^ used) s
    unfolding padded
    with_zeros =
        ap (λ (l : List ℕ). products ++ l)
        (zeros_repeated (drop (2 ^ used) s) (2 ^ length basis - length products) below
        (length-drop (2 ^ used) s ∙ ap₂ (λ (m n : ℕ). m - n) counted (sym length_products)))

    pub evaluated : split_in_halves (normalised_at elements inverses) basis (length basis) offset
        (converted (ratio_of elements inverses) 0 used (take (2 ^ used) s) ++ drop (2 ^ used) s)
        ≡ encoded offset basis s
    unfolding transformed encoded c products
    evaluated =
        ap (split_in_halves (normalised_at elements inverses) basis (length basis) offset)
        (sym (ap (λ (l : List ℕ). padded gf64 (2 ^ length basis) (converted (ratio_of elements inverses) 0 used l))
        (padded_full gf64 (2 ^ used) c length_c) ∙ with_zeros))
        ∙ transformed_values offset basis eo (all_elements basis eb) d used c ec within (le_of_eq length_c)
        ∙ map_agree (evaluate gf64 c) (evaluate gf64 s) (points offset basis)
        (all_of (λ x. evaluate gf64 c x ≡ evaluate gf64 s x)
        (λ x. evaluate_taken gf64 IsElement gf64_laws (2 ^ used) s x below) (points offset basis))

  pub interpolated_in_place : converted_back (ratio_of inverses elements) 0 (length basis)
      (joined_from_halves (normalised_at elements inverses) basis (length basis) offset s)
      ≡ interpolated offset basis s
  unfolding transformed_back
  interpolated_in_place =
      transformed_coefficients offset basis eo (all_elements basis eb) d s (all_elements s es) counted

-- with lists that hold the elements and their inverses
pub evaluated_with : (offset : ℕ) (basis s elements inverses : List ℕ) (used size : ℕ) → IsElement offset
    → ((i : ℕ) → get_or basis i 0 < 2 ^ 64) → ((i : ℕ) → get_or s i 0 < 2 ^ 64) → Independent basis
    → length s ≡ 2 ^ length basis → used ≤ length basis → DegreeBelow gf64 (2 ^ used) s
    → elements ≡ step_elements (length basis) basis → inverses ≡ map inverse elements → size ≡ 2 ^ used
    → split_in_halves (normalised_at elements inverses) basis (length basis) offset
    (converted (ratio_of elements inverses) 0 used (take size s) ++ drop size s)
    ≡ encoded offset basis s
evaluated_with offset basis s elements inverses used size eo eb es d counted within below e i p =
    ap (λ (n : ℕ). split_in_halves (normalised_at elements inverses) basis (length basis) offset
    (converted (ratio_of elements inverses) 0 used (take n s) ++ drop n s)) p
    ∙ ap₂ (λ (x y : List ℕ). split_in_halves (normalised_at x y) basis (length basis) offset
    (converted (ratio_of x y) 0 used (take (2 ^ used) s) ++ drop (2 ^ used) s)) e (i ∙ ap (map inverse) e)
    ∙ evaluated offset basis s eo eb es d counted used within below

pub interpolated_with : (offset : ℕ) (basis s elements inverses : List ℕ) → IsElement offset
    → ((i : ℕ) → get_or basis i 0 < 2 ^ 64) → ((i : ℕ) → get_or s i 0 < 2 ^ 64) → Independent basis
    → length s ≡ 2 ^ length basis
    → elements ≡ step_elements (length basis) basis → inverses ≡ map inverse elements
    → converted_back (ratio_of inverses elements) 0 (length basis)
    (joined_from_halves (normalised_at elements inverses) basis (length basis) offset s)
    ≡ interpolated offset basis s
interpolated_with offset basis s elements inverses eo eb es d counted e i =
    ap₂ (λ (x y : List ℕ). converted_back (ratio_of y x) 0 (length basis)
    (joined_from_halves (normalised_at x y) basis (length basis) offset s)) e (i ∙ ap (map inverse) e)
    ∙ interpolated_in_place offset basis s eo eb es d counted

pub size_fits : (used size : ℕ) (basis s : List ℕ) → size ≡ 2 ^ used → used ≤ length basis
    → length s ≡ 2 ^ length basis → size ≤ length s
size_fits used size basis s e h l =
    subst (λ (n : ℕ). n ≤ length s) (sym e) (subst (λ (n : ℕ). 2 ^ used ≤ n) (sym l) (pow_mono h))

-- the zeros behind a list of as many entries
pub zeros_behind : (used size : ℕ) (s front : List ℕ) → size ≡ 2 ^ used → length front ≡ size
    → DegreeBelow gf64 (2 ^ used) s → DegreeBelow gf64 (2 ^ used) (front ++ drop size s)
zeros_behind used size s front e h below =
    subst (λ (n : ℕ). Zeros gf64 (drop (2 ^ used) (front ++ drop n s))) (sym e)
    (subst (λ (r : List ℕ). Zeros gf64 r) (sym (drop_at front (drop (2 ^ used) s) (2 ^ used) (h ∙ e))) below)

-- ---- the elements, and their inverses in the front of an array

pub elements_counted : (basis elements : List ℕ) → elements ≡ step_elements (length basis) basis
    → length elements ≡ length basis
elements_counted basis elements e = ap length e ∙ length-elements (length basis) basis (le_refl (length basis))

pub inverses_counted : (basis elements inverses : List ℕ) → elements ≡ step_elements (length basis) basis
    → inverses ≡ map inverse elements → length inverses ≡ length basis
inverses_counted basis elements inverses e i =
    ap length i ∙ length-map elements inverse ∙ elements_counted basis elements e

pub inverses_held : (n : ℕ) (basis elements held : List ℕ) → elements ≡ step_elements (length basis) basis
    → held ≡ padded gf64 n (map inverse elements) → take (length basis) held ≡ map inverse elements
inverses_held n basis elements held e h =
    padded_taken n (length basis) (map inverse elements) held h (inverses_counted basis elements
    (map inverse elements) e refl)
