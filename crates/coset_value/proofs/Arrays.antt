-- Eight elements in an array: their numbers, and the array as it is filled from the front. Assumes nothing.
use mathlib.Core.Path.{◌≡◌, refl, sym, ap, ◌∙◌}
use mathlib.Core.List.{List, [], ◌∷◌, map}
use Prim.Native.Nat.{ℕ, zero, suc, ◌+◌, ◌<◌, ◌≤◌}
use lib.ListN.{length, get_or, set, replicate, get_or-map, length-map}
use Rattle.std.proofs.lemmas.List.{map-set}
use Rattle.poly.specs.Carrier.{gf64}
use Rattle.poly.specs.Polynomial.{padded}
use Rattle.poly.proofs.Filling.{filled, filled_start, padded_next, filled_padded}
use Rattle.field.specs.declared.Element.{Element}
use Rattle.coset_value.specs.Cosets.{element, elements, numbers}

pub numbers_of : (l : List ℕ) → numbers (elements l) ≡ l
unfolding elements numbers
numbers_of [] = refl
numbers_of (n ∷ l) = ap {B = List ℕ} (λ r. n ∷ r) (numbers_of l)

pub length-numbers : (es : List Element) → length (numbers es) ≡ length es
unfolding numbers
length-numbers es = length-map es (λ (e : Element). e.0)

pub number_at : (es : List Element) (i : ℕ) → (get_or es i (element 0)).0 ≡ get_or (numbers es) i 0
unfolding numbers
number_at es i = sym (get_or-map (λ (e : Element). e.0) es i (element 0))

pub numbers_set : (es : List Element) (i : ℕ) (e : Element) → numbers (set es i e) ≡ set (numbers es) i e.0
unfolding numbers
numbers_set es i e = map-set (λ (e : Element). e.0) es i e

set-element : (l : List ℕ) (i : ℕ) (e : Element) → set (elements l) i e ≡ elements (set l i e.0)
unfolding elements
set-element [] i e = refl
set-element (n ∷ l) zero e = refl
set-element (n ∷ l) (suc i) e = ap {B = List Element} (λ r. element n ∷ r) (set-element l i e)

-- the first j elements are those of p, zeros follow
unfoldable pub begun : (p : List ℕ) (j : ℕ) → List Element
begun p j = elements (filled (padded gf64 8 p) (replicate 8 0) j)

pub begun_start : (p : List ℕ) → replicate 8 (element 0) ≡ begun p 0
unfolding begun elements
begun_start p = ap (map element) (filled_start (padded gf64 8 p) (replicate 8 0))

pub begun_next : (p : List ℕ) (held : List Element) (j : ℕ) (e : Element) → held ≡ begun p j
    → j < length p → length p ≤ 8 → e.0 ≡ get_or p j 0 → set held j e ≡ begun p (j + 1)
unfolding begun
begun_next p held j e was h l is =
    ap (λ (es : List Element). set es j e) was ∙ set-element (filled (padded gf64 8 p) (replicate 8 0) j) j e
    ∙ ap elements (padded_next 8 p j e.0 h l is)

pub begun_all : (p : List ℕ) (held : List Element) (j : ℕ) → held ≡ begun p j → length p ≤ j → length p ≤ 8
    → held ≡ elements (padded gf64 8 p)
unfolding begun
begun_all p held j was h l = was ∙ ap elements (filled_padded 8 p j h l)
