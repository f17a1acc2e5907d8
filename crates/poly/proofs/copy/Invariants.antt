-- `poly::copy` meets its contract. The loop's invariant: i entries are copied, the others as
-- they were. Assumes nothing.
use Rattle.poly.proofs.Filling.{filled}
use lib.ListN.{length, drop}
use mathlib.Core.List.{◌++◌}
use mathlib.Core.Path.{◌≡◌}
use Rattle.poly.proofs.copy.Given as goal

abbrev pub invariant-loop-i : goal.invariant-loop-i
invariant-loop-i l = l.to ≡ filled (l.from ++ drop (length l.from) l.initial.to) l.initial.to l.i
