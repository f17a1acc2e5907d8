-- `Parameters::layer_start` meets its contract. The loop's invariant: the start is that of layer `before`. Assumes
-- nothing.
use Rattle.layout.specs.Parameters.{steps_by}
use Rattle.fri.specs.Layout.{layer_start}
use Prim.Native.Nat.{◌≤◌}
use mathlib.Core.Path.{◌≡◌}
use Rattle.layout.proofs.Shape.layer_start.Given as goal

abbrev pub invariant-loop-before : goal.invariant-loop-before
invariant-loop-before l = l.start ≡ layer_start l.self.parameters.k (steps_by l.self.parameters) l.before
