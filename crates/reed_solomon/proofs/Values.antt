-- The values at the points, one after the other. Assumes nothing.
use mathlib.Core.Path.{◌≡◌, ap, ◌∙◌}
use mathlib.Core.List.{List}
use Prim.Native.Nat.{ℕ, ◌^◌, ◌<◌}
use native.Mathlib.Omega.{arith}
use lib.ListN.{length, get_or, length-map}
use Rattle.poly.specs.Carrier.{gf64}
use Rattle.poly.specs.Polynomial.{evaluate}
use Rattle.poly.proofs.Filling.{get_d_map}
use Rattle.coset.specs.Coset.{point, points}
use Rattle.coset.proofs.Points.{length-points, get_or-points}
use Rattle.reed_solomon.specs.Codes.{encoded}

pub length-encoded : (offset : ℕ) (basis coefficients : List ℕ)
    → length (encoded offset basis coefficients) ≡ 2 ^ length basis
unfolding encoded
length-encoded offset basis coefficients =
    length-map (points offset basis) (evaluate gf64 coefficients) ∙ length-points offset basis

pub encoded-get_or : (offset : ℕ) (basis coefficients : List ℕ) (j : ℕ) → j < 2 ^ length basis
    → get_or (encoded offset basis coefficients) j 0 ≡ evaluate gf64 coefficients (point offset basis j)
unfolding encoded
encoded-get_or offset basis coefficients j h =
    get_d_map (evaluate gf64 coefficients) (points offset basis) j (omega (arith, length-points offset basis))
    ∙ ap (evaluate gf64 coefficients) (get_or-points offset basis j h)
