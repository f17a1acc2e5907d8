-- The levels from j on make of the list what all levels make of the list at entry.
use mathlib.Core.Path.{◌≡◌}
use Prim.Native.Nat.{◌-◌}
use Rattle.transform.specs.Transform.{converted, ratio_of}
use Rattle.conversion.proofs.convert.Given as goal

abbrev pub invariant-loop-j : goal.invariant-loop-j
invariant-loop-j l =
    converted (ratio_of l.maps.elements.now l.maps.inverses.now) l.j (l.levels - l.j) l.slice
    ≡ converted (ratio_of l.maps.elements.now l.maps.inverses.now) 0 l.levels l.initial.slice
