-- `newton::expand` meets its contract. The loop's invariant: the first i coefficients are those of the form, from i
-- on the form is expanded. Assumes nothing.
use mathlib.Core.Path.{◌≡◌}
use Prim.Native.Nat.{◌≤◌}
use lib.ListN.{length}
use Rattle.coset.specs.Coset.{points}
use Rattle.newton.proofs.Expansion.{expanded_from}
use Rattle.newton.proofs.expand.Given as goal

abbrev pub invariant-loop-i : goal.invariant-loop-i
invariant-loop-i l =
    (l.i ≤ length l.initial.coefficients) × (l.coefficients ≡ expanded_from (points l.offset.0 l.basis) l.initial.coefficients l.i)
