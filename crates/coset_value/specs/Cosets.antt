-- The coset value: its arrays of elements as lists of numbers, of which the other definitions speak, and the coset
-- that a part of a word makes. Only inner functions cite this.
use Rattle.std.specs.Prelude.{List, map, ℕ, length}
use Rattle.gf64.specs.Field.{sum}
use Rattle.poly.specs.Carrier.{gf64}
use Rattle.poly.specs.Polynomial.{padded}
use Rattle.field.specs.declared.Element.{Element}
use Rattle.coset_value.specs.declared.Coset.{Coset}

abbrev pub element : (number : ℕ) → Element
element number = record { 0 = number }

-- the elements with these numbers
unfoldable pub elements : (numbers : List ℕ) → List Element
elements numbers = map element numbers

-- the numbers of these elements
unfoldable pub numbers : (elements : List Element) → List ℕ
numbers elements = map (λ (e : Element). e.0) elements

-- the coset with these points and entries, and zeros behind them
abbrev pub coset_of : (points entries : List ℕ) (count : ℕ) → Coset
coset_of points entries count =
    record {
      points = elements (padded gf64 8 points);
      entries = elements (padded gf64 8 entries);
      count = count;
    }

-- the coset whose first point is given: a point for each entry of the span, with the part of the word that lies there
abbrev pub coset_read : (span : List ℕ) (first : ℕ) (part : List ℕ) → Coset
coset_read span first part = coset_of (map (sum first) span) part (length span)
