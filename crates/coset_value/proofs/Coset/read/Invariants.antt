-- `Coset::read` meets its contract. The loop's invariant: i points and i entries stand in the arrays, zeros follow.
-- Assumes nothing.
use mathlib.Core.Path.{◌≡◌}
use mathlib.Core.List.{map}
use Rattle.gf64.specs.Field.{sum}
use Rattle.coset_value.proofs.Arrays.{begun}
use Rattle.coset_value.proofs.Coset.read.Given as goal

abbrev pub invariant-loop-i : goal.invariant-loop-i
invariant-loop-i l =
    (l.points ≡ begun (map (sum l.first.0) l.span) l.i) × (l.entries ≡ begun l.part l.i)
