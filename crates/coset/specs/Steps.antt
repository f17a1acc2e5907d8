-- q as a composition of maps X · (X - e): `Theorems.antt` has the law, `Subspaces.composition`.
use Rattle.std.specs.Prelude.{List, [], ◌∷◌, map, ℕ, zero, suc}
use Rattle.gf64.specs.Field.{sum, product}

-- x · (x - e), which sends 0 and e to zero
unfoldable pub one_step : (e x : ℕ) → ℕ
one_step e x = product x (sum x e)

-- one map after the other
unfoldable pub composed_maps : (elements : List ℕ) (x : ℕ) → ℕ
composed_maps [] x = x
composed_maps (e ∷ elements) x = composed_maps elements (one_step e x)

-- the element of each map: the first of the basis, then the first of the others' images, and so on
unfoldable pub step_elements : (step : ℕ) (basis : List ℕ) → List ℕ
step_elements zero basis = []
step_elements (suc step) [] = []
step_elements (suc step) (b ∷ basis) = b ∷ step_elements step (map (one_step b) basis)
