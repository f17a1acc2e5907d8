-- `Coset::moved` meets its contract. The loop's invariant: the first points are moved, the others as they were.
-- Assumes nothing.
use Rattle.std.proofs.Common.{◌≡◌, map}
use Rattle.gf64.specs.Field.{sum}
use Rattle.poly.proofs.Filling.{filled}
use Rattle.coset_value.specs.Cosets.{numbers}
use Rattle.coset_value.proofs.Coset.moved.Given as goal

abbrev pub invariant-loop-i : goal.invariant-loop-i
invariant-loop-i l =
    let points = numbers l.self.points in
    numbers l.points ≡ filled (map (sum l.challenge.0) points) points l.i
