-- A block on its way to its inverses: the products before each place, from the first, and the inverses from the last.
-- Assumes nothing.
use mathlib.Core.Path.{◌≡◌, refl, sym, ap, ap₂, ◌∙◌, subst}
use mathlib.Core.Logic.{◌≢◌, ◌⊎◌, inl, inr}
use mathlib.Core.List.{List, map}
use Prim.Native.Nat.{ℕ, suc, ◌^◌, ◌≤◌, ◌<◌}
use native.Mathlib.Nat.{eq-or-lt_of_le}
use native.Mathlib.Omega.{arith}
use lib.ListN.{length, get_or, set, length-map, length-set}
use lib.Seq.{ext_get_or, get_or-set_same, get_or-set_other}
use Rattle.gf64.specs.Field.{product, inverse}
use Rattle.gf64.proofs.Ring.{product_comm}
use Rattle.gf64.proofs.Inverse.{inverse-zero}
use Rattle.poly.proofs.Filling.{get_d_map}
use Rattle.list_inverse.specs.Products.{nonzero_product}
use Rattle.list_inverse.proofs.Products.{past_zero, past_nonzero, product_element, product_not_zero, divided}

-- ---- from the first place

pub product_start : (elements : List ℕ) → 1 ≡ nonzero_product elements 0
unfolding nonzero_product
product_start elements = refl

-- ---- from the last place

-- the first n elements are there, inverses behind them; `rest` is the inverse of the product of these n
pub record InvertedFrom (elements : List ℕ) (n : ℕ) (block : List ℕ) (rest : ℕ) : Type 0 where
  pub within : n ≤ length elements
  pub as_many : length block ≡ length elements
  pub elements_left : (i : ℕ) → i < n → get_or block i 0 ≡ get_or elements i 0
  pub inverses_behind : (i : ℕ) → n ≤ i → i < length elements → get_or block i 0 ≡ inverse (get_or elements i 0)
  pub rest_is : rest ≡ inverse (nonzero_product elements n)

pub inverted_start : (elements : List ℕ) (rest : ℕ) → rest ≡ inverse (nonzero_product elements (length elements))
    → InvertedFrom elements (length elements) elements rest
inverted_start elements rest e =
    record {
      within = omega arith;
      as_many = refl;
      elements_left = λ i h. refl;
      inverses_behind = λ i h l. absurd (omega arith);
      rest_is = e;
    }

module _ (elements : List ℕ) (small : (i : ℕ) → get_or elements i 0 < 2 ^ 64) (n : ℕ) (block : List ℕ) (rest : ℕ)
    (here : InvertedFrom elements (suc n) block rest) where
  abbrev x : ℕ
  x = get_or elements n 0

  abbrev before : ℕ
  before = nonzero_product elements n

  inside : n < length elements
  inside = here.within

  -- the inverse of element n stands in its place
  one_more : (held : List ℕ) (rest' : ℕ) → length held ≡ length block → get_or held n 0 ≡ inverse x
      → ((i : ℕ) → i ≢ n → get_or held i 0 ≡ get_or block i 0) → rest' ≡ inverse before
      → InvertedFrom elements n held rest'
  one_more held rest' count at_n others e =
      record {
        within = omega (arith, inside);
        as_many = count ∙ here.as_many;
        elements_left = λ i h. others i (λ same. omega arith) ∙ here.elements_left i (omega arith);
        inverses_behind = λ i h l. behind i l (eq-or-lt_of_le h);
        rest_is = e;
      }
    where
      behind : (i : ℕ) → i < length elements → (n ≡ i) ⊎ (n < i) → get_or held i 0 ≡ inverse (get_or elements i 0)
      behind i l (inl same) = subst (λ (m : ℕ). get_or held m 0 ≡ inverse (get_or elements m 0)) same at_n
      behind i l (inr after) = others i (λ same. omega arith) ∙ here.inverses_behind i after l

  pub past_a_zero : get_or block n 0 ≡ 0 → InvertedFrom elements n block rest
  past_a_zero z =
      one_more block rest refl (z ∙ sym (ap inverse zero_here ∙ inverse-zero)) (λ i ne. refl)
      (here.rest_is ∙ ap inverse (past_zero elements n zero_here))
    where
      zero_here : x ≡ 0
      zero_here = sym (here.elements_left n (omega arith)) ∙ z

  pub past_an_element : (b value rest' : ℕ) → b ≡ before → value ≡ product rest b → get_or block n 0 ≢ 0
      → rest' ≡ product rest (get_or block n 0) → InvertedFrom elements n (set block n value) rest'
  past_an_element b value rest' eb ev nonzero er =
      one_more (set block n value) rest' (length-set block n value)
      (get_or-set_same block n value 0 (omega (arith, inside, here.as_many)) ∙ ev ∙ ap₂ product rest_here eb
      ∙ divided before x (product_element elements n) (small n) not_zero x_not_zero)
      (λ i ne. get_or-set_other block n i value 0 ne)
      (er ∙ ap₂ product (rest_here ∙ ap inverse (product_comm before x)) same
      ∙ divided x before (small n) (product_element elements n) x_not_zero not_zero)
    where
      same : get_or block n 0 ≡ x
      same = here.elements_left n (omega arith)

      x_not_zero : x ≢ 0
      x_not_zero z = nonzero (same ∙ z)

      not_zero : before ≢ 0
      not_zero = product_not_zero elements small n

      rest_here : rest ≡ inverse (product before x)
      rest_here = here.rest_is ∙ ap inverse (past_nonzero elements n x_not_zero)

pub inverted_end : (elements block : List ℕ) (rest : ℕ) → InvertedFrom elements 0 block rest
    → block ≡ map inverse elements
inverted_end elements block rest done =
    ext_get_or 0 block (map inverse elements) (done.as_many ∙ sym (length-map elements inverse))
    (λ i h.
    let inside : i < length elements = omega (arith, done.as_many) in
    done.inverses_behind i (omega arith) inside ∙ sym (get_d_map inverse elements i inside))
