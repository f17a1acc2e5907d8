-- What is proved of the additive transform, as statements: proofs/Theorems.antt has a value of each.
use Rattle.std.specs.Prelude.{◌≡◌, List, ◌∷◌, ◌++◌, ℕ, suc, ◌+◌, ◌^◌, ◌≤◌, length}
use Rattle.gf64.specs.Field.{IsElement, sum, product}
use Rattle.poly.specs.Polynomial.{All}
use Rattle.coset.specs.Span.{Independent}
use Rattle.reed_solomon.specs.Codes.{encoded, interpolated}
use Rattle.transform.specs.Transform.{weighted, squares, second_added, first_added, scaled_runs}
use Rattle.transform.specs.Transform.{regrouped, regrouped_back, split_in_halves, joined_from_halves}
use Rattle.transform.specs.Transform.{transformed, transformed_back}

-- n elements
abbrev pub Elements : (n : ℕ) (s : List ℕ) → Type 0
Elements n s = (length s ≡ n) × All IsElement s

-- each step and its way back
pub record Steps : Type 0 where
  -- a sum of one half to the other undoes itself
  pub second_twice : (c m : ℕ) (s : List ℕ) → Elements (m + m) s → second_added c m (second_added c m s) ≡ s
  pub first_twice : (m : ℕ) (s : List ℕ) → Elements (m + m) s → first_added m (first_added m s) ≡ s
  -- regrouping exchanges the weights z^(2^n), .., z^2, z for those of z^2 + z, and z, and is undone
  pub regrouped_weights : (z : ℕ) (weights : List ℕ) (upper : ℕ) (s : List ℕ) → IsElement z
      → Elements (2 ^ (suc upper + length weights)) s
      → weighted (squares (sum (product z z) z) upper ++ (z ∷ weights)) (regrouped (length weights) (suc upper) s)
      ≡ weighted (squares z (suc upper) ++ weights) s
  pub regrouped-back : (lower upper : ℕ) (s : List ℕ) → Elements (2 ^ (upper + lower)) s
      → regrouped lower upper (regrouped_back lower upper s) ≡ s
  -- scaling exchanges the weights of r z for those of z, and is undone by the inverse of r
  pub scaled_weights : (r z : ℕ) (weights : List ℕ) (upper : ℕ) (s : List ℕ)
      → Elements (2 ^ (upper + length weights)) s
      → weighted (squares z upper ++ weights) (scaled_runs (length weights) r s)
      ≡ weighted (squares (product r z) upper ++ weights) s
  pub scaled_back : (lower r r' : ℕ) (s : List ℕ) → product r r' ≡ 1 → All IsElement s
      → scaled_runs lower r (scaled_runs lower r' s) ≡ s
  -- splitting undoes joining, whatever the multipliers
  pub joined_back : (z : ℕ → ℕ → ℕ) (basis : List ℕ) (n offset : ℕ) (s : List ℕ) → Elements (2 ^ n) s
      → split_in_halves z basis n offset (joined_from_halves z basis n offset s) ≡ s

-- it equals encoding and interpolation, for every offset and every independent basis, of whatever dimension
pub record Transforms : Type 0 where
  -- 2^m coefficients or fewer, for every m up to the dimension
  pub values : (offset m : ℕ) (basis coefficients : List ℕ) → IsElement offset → All IsElement basis
      → All IsElement coefficients → Independent basis → m ≤ length basis → length coefficients ≤ 2 ^ m
      → transformed offset m basis coefficients ≡ encoded offset basis coefficients
  pub coefficients : (offset : ℕ) (basis word : List ℕ) → IsElement offset → All IsElement basis → All IsElement word
      → Independent basis → length word ≡ 2 ^ length basis
      → transformed_back offset basis word ≡ interpolated offset basis word
  -- each inverts the other
  pub word_again : (offset : ℕ) (basis word : List ℕ) → IsElement offset → All IsElement basis → All IsElement word
      → Independent basis → length word ≡ 2 ^ length basis
      → transformed offset (length basis) basis (transformed_back offset basis word) ≡ word
  pub coefficients_again : (offset : ℕ) (basis coefficients : List ℕ) → IsElement offset → All IsElement basis
      → All IsElement coefficients → Independent basis → length coefficients ≡ 2 ^ length basis
      → transformed_back offset basis (transformed offset (length basis) basis coefficients) ≡ coefficients
