-- Encoding and interpolation over a coset.
use Rattle.std.specs.Prelude.{List, map, ℕ}
use Rattle.poly.specs.Carrier.{gf64}
use Rattle.poly.specs.Polynomial.{DegreeBelow, evaluate, interpolant}
use Rattle.coset.specs.Coset.{points}

-- the values of the polynomial with these coefficients at the points, in point order
unfoldable pub encoded : (offset : ℕ) (basis coefficients : List ℕ) → List ℕ
encoded offset basis coefficients = map (evaluate gf64 coefficients) (points offset basis)

-- the 2^k coefficients of the one polynomial of degree below 2^k with the word's values at the points,
-- where the basis is independent
unfoldable pub interpolated : (offset : ℕ) (basis word : List ℕ) → List ℕ
interpolated offset basis word = interpolant gf64 (points offset basis) word

-- a word's degree, which document 01 defines as that of its interpolant, is below n
abbrev pub WordDegreeBelow : (n offset : ℕ) (basis word : List ℕ) → Type 0
WordDegreeBelow n offset basis word = DegreeBelow gf64 n (interpolated offset basis word)
