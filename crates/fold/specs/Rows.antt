-- The rows of a word: how its fold depends on the challenge.
use Rattle.std.specs.Prelude.{List, map, ℕ, ◌-◌, ◌^◌, length, drop}
use Rattle.poly.specs.Carrier.{gf64}
use Rattle.poly.specs.Polynomial.{evaluate}
use Rattle.poly.specs.Rows.{rows}
use Rattle.coset.specs.Subspace.{lower_coefficients}
use Rattle.reed_solomon.specs.Codes.{interpolated}

-- the rows of the word's interpolant P by the subspace polynomial q: P = Σ row_i · q^i, each row of 2^step
-- coefficients, for a step of at most the dimension
unfoldable pub word_rows : (step offset : ℕ) (basis word : List ℕ) → List (List ℕ)
word_rows step offset basis word =
    rows gf64 (lower_coefficients step basis) (2 ^ (length basis - step)) (interpolated offset basis word)

-- the rows of a layer of 2^m values from 2^(m - rate - step) on, where m is the length of the basis
abbrev pub high_rows : (rate step offset : ℕ) (basis layer : List ℕ) → List (List ℕ)
high_rows rate step offset basis layer =
    drop (2 ^ (length basis - rate - step)) (word_rows step offset basis layer)

-- the polynomial whose coefficients are the rows at x
unfoldable pub rows_at : (step offset : ℕ) (basis word : List ℕ) (x : ℕ) → List ℕ
rows_at step offset basis word x = map (λ row. evaluate gf64 row x) (word_rows step offset basis word)
