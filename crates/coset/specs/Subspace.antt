-- The subspace polynomial q of a step, and document 01's next coset, which q sends a coset to.
use Rattle.std.specs.Prelude.{List, map, ℕ, ◌^◌, take, drop}
use Rattle.poly.specs.Carrier.{gf64}
use Rattle.poly.specs.Polynomial.{evaluate, vanishing_polynomial}
use Rattle.coset.specs.Coset.{points}

-- q: the product of X - a over the span of the basis elements before place `step`; by `Cosets.span` and
-- `Cosets.distinct` these points are the span, each once, where the basis is independent
unfoldable pub subspace_polynomial : (step : ℕ) (basis : List ℕ) → List ℕ
subspace_polynomial step basis = vanishing_polynomial gf64 (points 0 (take step basis))

-- its coefficients below the leading one, which is 1, for a step of at most the dimension
unfoldable pub lower_coefficients : (step : ℕ) (basis : List ℕ) → List ℕ
lower_coefficients step basis = take (2 ^ step) (subspace_polynomial step basis)

-- q(x)
unfoldable pub image : (step : ℕ) (basis : List ℕ) (x : ℕ) → ℕ
image step basis x = evaluate gf64 (subspace_polynomial step basis) x

-- the next coset's offset: q(h)
unfoldable pub next_offset : (step offset : ℕ) (basis : List ℕ) → ℕ
next_offset step offset basis = image step basis offset

-- the next coset's basis: q of the basis elements from place `step` on
unfoldable pub next_basis : (step : ℕ) (basis : List ℕ) → List ℕ
next_basis step basis = map (image step basis) (drop step basis)
