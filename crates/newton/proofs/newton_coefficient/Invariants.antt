-- `newton::newton_coefficient` meets its contract. The loop's invariant: value and vanishing are those of the first j
-- points, and x is point j. Assumes nothing.
use mathlib.Core.Path.{◌≡◌}
use Prim.Native.Nat.{◌<◌}
use lib.ListN.{length, take}
use Rattle.poly.specs.Carrier.{gf64}
use Rattle.poly.specs.Newton.{newton_value, vanishing}
use Rattle.coset.specs.Coset.{point, points}
use Rattle.newton.proofs.newton_coefficient.Given as goal

abbrev pub invariant-loop-j : goal.invariant-loop-j
invariant-loop-j l =
    (l.value.0 ≡ newton_value gf64 (take l.j (points l.initial.x.0 l.basis)) (take l.j l.known) l.z.0)
    × (l.vanishing.0 ≡ vanishing gf64 (take l.j (points l.initial.x.0 l.basis)) l.z.0)
    × (l.j < length l.known → l.x.0 ≡ point l.initial.x.0 l.basis l.j)
