-- `independence::clear` meets its contract. The loop's invariant: i rows are cleared, the others as they were.
-- Assumes nothing.
use Rattle.std.proofs.Common.{◌≡◌, map}
use Rattle.poly.proofs.Filling.{filled}
use Rattle.coset.specs.Elimination.{cleared}
use Rattle.independence.proofs.clear.Given as goal

abbrev pub invariant-loop-a : goal.invariant-loop-a
invariant-loop-a l = l.rows ≡ filled (map (cleared l.row) l.initial.rows) l.initial.rows l.a-index
