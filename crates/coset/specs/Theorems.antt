-- What is proved of cosets, as statements: proofs/Theorems.antt has a value of each.
use Rattle.std.specs.Prelude.{◌≡◌, ◌≢◌, ◌↔◌, true, false, List, [], ◌∷◌, ◌++◌, ℕ, suc, ◌+◌, ◌*◌, ◌-◌, ◌/◌, ◌^◌, ◌≤◌, ◌<◌, length, get_or, take}
use Rattle.std.specs.Int.Count.{count_trailing_zeros}
use Rattle.std.specs.Prelude.{Some}
use Rattle.gf64.specs.Field.{IsElement, sum}
use Rattle.poly.specs.Polynomial.{All, Distinct}
use Rattle.coset.specs.Coset.{point, points}
use Rattle.coset.specs.Sequence.{prefix_sums}
use Rattle.coset.specs.Span.{in_span, first_dependent, Independent}
use Rattle.coset.specs.Subspace.{subspace_polynomial, lower_coefficients, image, next_offset, next_basis}
use Rattle.coset.specs.Steps.{composed_maps, step_elements}

-- the points of a coset
pub record Cosets : Type 0 where
  -- the span is the coset with offset 0
  pub span : (elements : List ℕ) (a : ℕ)
      → (in_span elements a ≡ true) ↔ ((j : ℕ) × (j < 2 ^ length elements) × (point 0 elements j ≡ a))
  -- a coset is its offset plus the span
  pub shifted : (offset : ℕ) (basis : List ℕ) (j : ℕ) → point offset basis j ≡ sum offset (point 0 basis j)
  -- there are exactly 2^k points, in point order, and over an independent basis no two are equal
  pub count : (offset : ℕ) (basis : List ℕ) → length (points offset basis) ≡ 2 ^ length basis
  pub in_order : (offset : ℕ) (basis : List ℕ) (j : ℕ) → j < 2 ^ length basis
      → get_or (points offset basis) j 0 ≡ point offset basis j
  pub distinct : (offset : ℕ) (basis : List ℕ) → Independent basis → Distinct (points offset basis)
  -- from point j to point j + 1 by one of the prefix sums of the basis
  pub next : (offset : ℕ) (basis : List ℕ) (j : ℕ) → length basis ≤ 64 → suc j < 2 ^ length basis
      → sum (point offset basis j) (get_or (prefix_sums 0 basis) (count_trailing_zeros 64 (suc j)) 0) ≡ point offset basis (suc j)

-- `first_dependent` finds the first element that lies in the span of the earlier ones
pub record FirstDependent : Type 0 where
  -- it lies there
  pub found : (basis : List ℕ) (i : ℕ) → first_dependent basis ≡ Some i
      → (i < length basis) × (in_span (take i basis) (get_or basis i 0) ≡ true)
  -- and none before it does
  pub first : (basis : List ℕ) (i t : ℕ) → first_dependent basis ≡ Some i → t < i
      → in_span (take t basis) (get_or basis t 0) ≡ false
  -- an independent basis has none
  pub none : (basis : List ℕ) (t : ℕ) → Independent basis → t < length basis
      → in_span (take t basis) (get_or basis t 0) ≡ false
  -- and at most 64 elements
  pub short : (basis : List ℕ) → All IsElement basis → Independent basis → length basis ≤ 64

-- the subspace polynomial q of a step
pub record Subspaces : Type 0 where
  -- it is monic, of degree 2^step
  pub monic : (step : ℕ) (basis : List ℕ) → step ≤ length basis
      → (length (subspace_polynomial step basis) ≡ 2 ^ step + 1)
      × (get_or (subspace_polynomial step basis) (2 ^ step) 0 ≡ 1)
  -- `lower_coefficients` are those below the leading one
  pub lower : (step : ℕ) (basis : List ℕ) → step ≤ length basis
      → subspace_polynomial step basis ≡ lower_coefficients step basis ++ (1 ∷ [])
  -- additive
  pub additive : (step : ℕ) (basis : List ℕ) (a b : ℕ) → IsElement a → IsElement b
      → image step basis (sum a b) ≡ sum (image step basis a) (image step basis b)
  -- zero exactly on the span that it was built from
  pub zero : (step : ℕ) (basis : List ℕ) (x : ℕ) → All IsElement basis → IsElement x
      → (image step basis x ≡ 0) ↔ (in_span (take step basis) x ≡ true)
  -- the composition of the maps X · (X - e)
  pub composition : (step : ℕ) (basis : List ℕ) (x : ℕ) → IsElement x
      → image step basis x ≡ composed_maps (step_elements step basis) x
  -- whose elements are not zero where the basis is independent: these a fold inverts
  pub elements : (step : ℕ) (basis : List ℕ) → All IsElement basis → Independent basis
      → All (λ e. e ≢ 0) (step_elements step basis)

-- the next coset
pub record NextCosets : Type 0 where
  -- its dimension is less by the step
  pub count : (step : ℕ) (basis : List ℕ) → length (next_basis step basis) ≡ length basis - step
  -- its basis is independent where the basis is
  pub independent : (step : ℕ) (basis : List ℕ) → All IsElement basis → Independent basis
      → Independent (next_basis step basis)
  -- its point j is the image of the old points from j · 2^step on, 2^step of them
  pub points : (step offset : ℕ) (basis : List ℕ) (j i : ℕ) → IsElement offset → All IsElement basis → i < 2 ^ step
      → image step basis (point offset basis (j * 2 ^ step + i))
      ≡ point (next_offset step offset basis) (next_basis step basis) j
  -- and of no other
  pub only : (step offset : ℕ) (basis : List ℕ) (i j : ℕ) → IsElement offset → All IsElement basis → Independent basis
      → step ≤ length basis → i < 2 ^ length basis → j < 2 ^ (length basis - step)
      → image step basis (point offset basis i) ≡ point (next_offset step offset basis) (next_basis step basis) j
      → i / 2 ^ step ≡ j
