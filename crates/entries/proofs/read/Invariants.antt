-- `entries::read` meets its contract. The loop's invariant: i entries are read, the others as they were. Assumes
-- nothing.
use mathlib.Core.Path.{◌≡◌}
use lib.ListN.{length}
use Rattle.transcript.specs.Numerals.{entries_at}
use Rattle.poly.proofs.Filling.{filled}
use Rattle.entries.proofs.read.Given as goal

abbrev pub invariant-loop-i : goal.invariant-loop-i
invariant-loop-i l = l.out ≡ filled (entries_at l.bytes l.at (length l.initial.out)) l.initial.out l.i
