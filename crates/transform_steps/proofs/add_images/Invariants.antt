-- i sums stand in the first half, the rest is as it was.
use mathlib.Core.Path.{◌≡◌}
use Prim.Native.Nat.{ℕ}
use Rattle.poly.specs.Carrier.{gf64}
use Rattle.poly.specs.Polynomial.{plus, scale}
use Rattle.poly.proofs.Filling.{filled}
use Rattle.transform_steps.specs.Factor.{Multiplies}
use Rattle.transform_steps.proofs.add_images.Given as goal

abbrev pub invariant-loop-i : goal.invariant-loop-i
invariant-loop-i g l =
    (c : ℕ) → Multiplies c (goal.F-post g l.image)
    → l.first ≡ filled (plus gf64 l.initial.first (scale gf64 c l.second)) l.initial.first l.i
