-- The points of a coset with an offset and a basis. Elements are natural numbers below 2^64;
-- the definitions take all naturals.
use Rattle.std.specs.Prelude.{List, [], ◌∷◌, ℕ, zero, suc, ◌*◌, ◌/◌, ◌%◌, ◌^◌, length}
use Rattle.gf64.specs.Field.{sum}

-- point j, in document 01's order: the offset plus the sum of all basis elements whose bit of j is set, bit 0 for the
-- first of them
unfoldable pub point : (offset : ℕ) (basis : List ℕ) (j : ℕ) → ℕ
point offset [] j = offset
point offset (b ∷ basis) j = sum ((j % 2) * b) (point offset basis (j / 2))

-- f at start, start + 1, .. , count of them
unfoldable pub tabulated : (f : ℕ → ℕ) (start count : ℕ) → List ℕ
tabulated f start zero = []
tabulated f start (suc count) = f start ∷ tabulated f (suc start) count

-- all 2^k points in point order
unfoldable pub points : (offset : ℕ) (basis : List ℕ) → List ℕ
points offset basis = tabulated (point offset basis) 0 (2 ^ length basis)
