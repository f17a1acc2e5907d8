-- i images stand in the list, the rest is as it was.
use mathlib.Core.Path.{◌≡◌}
use Prim.Native.Nat.{ℕ}
use Rattle.poly.specs.Carrier.{gf64}
use Rattle.poly.specs.Polynomial.{scale}
use Rattle.poly.proofs.Filling.{filled}
use Rattle.transform_steps.specs.Factor.{Multiplies}
use Rattle.transform_steps.proofs.map_images.Given as goal

abbrev pub invariant-loop-x : goal.invariant-loop-x
invariant-loop-x g l =
    (c : ℕ) → Multiplies c (goal.F-post g l.image)
    → l.part ≡ filled (scale gf64 c l.initial.part) l.initial.part l.x-index
