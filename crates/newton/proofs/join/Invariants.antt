-- `newton::join` meets its contract. The loop's invariant: the entries before the last looked at are those of the
-- product, the others as they were. Assumes nothing.
use mathlib.Core.Path.{◌≡◌}
use Prim.Native.Nat.{◌-◌, ◌≤◌}
use Rattle.poly.specs.Carrier.{gf64}
use Rattle.poly.specs.Newton.{horner_step}
use Rattle.poly.proofs.Filling.{filled}
use Rattle.newton.proofs.join.Given as goal

abbrev pub invariant-loop-j : goal.invariant-loop-j
invariant-loop-j l =
    (1 ≤ l.j) × (l.coefficients ≡ filled (horner_step gf64 l.x.0 l.initial.coefficients) l.initial.coefficients (l.j - 1))
