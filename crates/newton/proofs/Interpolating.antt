-- Newton's form over the points of a coset with an independent basis, expanded, is the interpolant. Assumes nothing.
use mathlib.Core.Path.{◌≡◌, sym, ◌∙◌}
use mathlib.Core.List.{List}
use Prim.Native.Nat.{ℕ, ◌^◌, ◌<◌}
use lib.ListN.{length, get_or}
use Rattle.gf64.specs.Field.{IsElement}
use Rattle.poly.specs.Carrier.{gf64}
use Rattle.poly.specs.Newton.{newton_coefficients, expanded}
use Rattle.poly.proofs.AtField.{gf64_laws}
use Rattle.poly.proofs.Newton.{newton_interpolant}
use Rattle.coset.specs.Coset.{points}
use Rattle.coset.specs.Span.{Independent}
use Rattle.coset.proofs.Points.{length-points, points_distinct, points-elements, all_elements}
use Rattle.reed_solomon.specs.Codes.{interpolated}

pub expanded-interpolated : (offset : ℕ) (basis word : List ℕ) → IsElement offset
    → ((i : ℕ) → get_or basis i 0 < 2 ^ 64) → ((i : ℕ) → get_or word i 0 < 2 ^ 64)
    → Independent basis → length word ≡ 2 ^ length basis
    → expanded gf64 (points offset basis) (newton_coefficients gf64 (points offset basis) word)
    ≡ interpolated offset basis word
unfolding interpolated
expanded-interpolated offset basis word eo eb ew d h =
    newton_interpolant gf64 IsElement gf64_laws (points offset basis) word (length-points offset basis ∙ sym h)
    (points-elements offset basis eo (all_elements basis eb)) (all_elements word ew) (points_distinct offset basis d)
