-- How the value of a coset's interpolant at a challenge is computed: the points are moved by the challenge, and the
-- coset is halved until one entry is left. The maps X · (X - e) are additive, so moved points stay moved points.
-- Only inner functions cite this, and the theorem `Halvings`.
use Rattle.std.specs.Prelude.{◌≡◌, List, [], ◌∷◌, map, ℕ, suc, ◌*◌, ◌^◌, ◌≤◌, length, get_or, take, drop}
use Rattle.gf64.specs.Field.{sum, product}
use Rattle.coset.specs.Coset.{point, tabulated}

-- the value at the challenge of the line with value u at a point and v at its neighbour:
-- m is the point moved by the challenge, their sum, and inverse that of the difference of the two points
unfoldable pub line_at : (inverse m u v : ℕ) → ℕ
line_at inverse m u v = sum u (product m (product (sum u v) inverse))

-- the products of neighbouring points, two by two
unfoldable pub halved_points : (count : ℕ) (points : List ℕ) → List ℕ
halved_points count points = tabulated (λ i. product (get_or points (i * 2) 0) (get_or points (suc (i * 2)) 0)) 0 count

-- the values at the challenge of the lines through neighbours, two by two
unfoldable pub halved_entries : (inverse count : ℕ) (points entries : List ℕ) → List ℕ
halved_entries inverse count points entries =
    tabulated (λ i. line_at inverse (get_or points (i * 2) 0) (get_or entries (i * 2) 0) (get_or entries (suc (i * 2)) 0))
    0 count

-- the moved points and the entries, halved once for each inverse
unfoldable pub value_at : (inverses points entries : List ℕ) → ℕ
value_at [] points entries = get_or entries 0 0
value_at (inverse ∷ inverses) points entries =
    let count = 2 ^ length inverses in
    value_at inverses (halved_points count points) (halved_entries inverse count points entries)

-- the value of coset j: its moved points are point j over the upper basis plus the span, where moved is the offset
-- moved by the challenge; its entries are the next ones of the word
unfoldable pub coset_value : (inverses span : List ℕ) (moved : ℕ) (upper word : List ℕ) (j : ℕ) → ℕ
coset_value inverses span moved upper word j =
    value_at inverses (map (sum (point moved upper j)) span) (take (length span) (drop (j * length span) word))

-- the values of all cosets
unfoldable pub coset_values : (inverses span : List ℕ) (moved : ℕ) (upper word : List ℕ) → List ℕ
coset_values inverses span moved upper word = tabulated (coset_value inverses span moved upper word) 0 (2 ^ length upper)

-- what they are computed from, besides the word: an inverse for each map of the step, its span,
-- and one coset for each point over the upper basis
pub record CosetsFit (inverses span upper : List ℕ) : Type 0 where
  pub some : 1 ≤ length inverses
  pub few : length inverses ≤ 3
  pub span_fits : length span ≡ 2 ^ length inverses
  pub upper_fits : length upper ≤ 20
