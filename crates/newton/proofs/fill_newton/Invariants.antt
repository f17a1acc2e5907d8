-- `newton::fill_newton` meets its contract. The loop's invariant: i coefficients are filled in, the others are values
-- still. Assumes nothing.
use Rattle.coset.specs.Coset.{points}
use Rattle.poly.proofs.Filling.{filled}
use Rattle.poly.specs.Newton.{newton_coefficients}
use Rattle.poly.specs.Carrier.{gf64}
use mathlib.Core.Path.{◌≡◌}
use Rattle.newton.proofs.fill_newton.Given as goal

abbrev pub invariant-loop-i : goal.invariant-loop-i
invariant-loop-i l =
    l.coefficients ≡ filled (newton_coefficients gf64 (points l.coset.offset.0 l.coset.basis.now) l.initial.coefficients) l.initial.coefficients l.i
