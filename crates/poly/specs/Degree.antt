-- The degree of a polynomial over the field, as a number.
use Rattle.std.specs.Prelude.{cond, List, [], ◌∷◌, ℕ, suc, eqb}

-- the least bound that the degree is below: the degree plus 1, or 0 for the zero polynomial
unfoldable pub degree_bound : (p : List ℕ) → ℕ
degree_bound [] = 0
degree_bound (c ∷ p) = cond (eqb (degree_bound p) 0) (cond (eqb c 0) 0 1) (suc (degree_bound p))
