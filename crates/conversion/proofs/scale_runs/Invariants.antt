-- The first i runs are scaled, and the power is that of the next run.
use mathlib.Core.Path.{◌≡◌}
use Prim.Native.Nat.{◌*◌}
use Rattle.gf64.specs.Field.{power}
use Rattle.poly.proofs.Filling.{filled}
use Rattle.transform.specs.Transform.{scaled_runs}
use Rattle.conversion.proofs.scale_runs.Given as goal

abbrev pub invariant-loop-i : goal.invariant-loop-i
invariant-loop-i l =
    (l.power.0 ≡ power l.r.0 l.i)
    × (l.slice ≡ filled (scaled_runs l.lower l.r.0 l.initial.slice) l.initial.slice (l.i * l.run))
