-- i sums stand in the second half, the rest is as it was.
use mathlib.Core.Path.{◌≡◌}
use Rattle.poly.specs.Carrier.{gf64}
use Rattle.poly.specs.Polynomial.{plus}
use Rattle.poly.proofs.Filling.{filled}
use Rattle.transform_steps.proofs.add_first.Given as goal

abbrev pub invariant-loop-i : goal.invariant-loop-i
invariant-loop-i l = l.second ≡ filled (plus gf64 l.initial.second l.first) l.initial.second l.i
