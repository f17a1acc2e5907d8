-- How point j + 1 is got from point j by one sum: `Theorems.antt` has the law, `Cosets.next`.
use Rattle.std.specs.Prelude.{List, [], ◌∷◌, ℕ}
use Rattle.gf64.specs.Field.{sum}

-- the initial value plus the sums of the first one, two, .. elements of the basis
unfoldable pub prefix_sums : (initial : ℕ) (basis : List ℕ) → List ℕ
prefix_sums initial [] = []
prefix_sums initial (b ∷ basis) = sum initial b ∷ prefix_sums (sum initial b) basis
