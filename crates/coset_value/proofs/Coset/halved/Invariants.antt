-- `Coset::halved` meets its contract. The loop's invariant: i points and i entries stand in the arrays, zeros follow.
-- Assumes nothing.
use mathlib.Core.Path.{◌≡◌}
use Prim.Native.Nat.{◌/◌, ◌≤◌}
use Rattle.fold.specs.Halving.{halved_points, halved_entries}
use Rattle.coset_value.specs.Cosets.{numbers}
use Rattle.coset_value.proofs.Arrays.{begun}
use Rattle.coset_value.proofs.Coset.halved.Given as goal

abbrev pub invariant-loop-i : goal.invariant-loop-i
invariant-loop-i l =
    let ps = numbers l.self.points in
    (l.half ≡ l.self.count / 2) × (l.half ≤ 4) × (l.points ≡ begun (halved_points l.half ps) l.i)
    × (l.entries ≡ begun (halved_entries l.inverse.0 l.half ps (numbers l.self.entries)) l.i)
