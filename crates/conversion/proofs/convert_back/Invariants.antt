-- The levels from j on are undone.
use mathlib.Core.Path.{◌≡◌}
use Prim.Native.Nat.{◌-◌}
use Rattle.transform.specs.Transform.{converted_back, ratio_of}
use Rattle.conversion.proofs.convert_back.Given as goal

abbrev pub invariant-loop-j : goal.invariant-loop-j
invariant-loop-j l =
    l.slice ≡ converted_back (ratio_of l.maps.inverses.now l.maps.elements.now) l.j (l.levels - l.j) l.initial.slice
