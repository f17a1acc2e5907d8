-- `multiplier::Multiplier::of`: b is c at place n, and n blocks are filled.
use mathlib.Core.Path.{◌≡◌}
use Prim.Native.Nat.{◌*◌, ◌^◌}
use lib.ListN.{length}
use Rattle.gf64.specs.Field.{product}
use Rattle.multiplier.proofs.Entries.{Blocks}
use Rattle.multiplier.proofs.Multiplier.of.Given as goal

abbrev pub invariant-loop-n : goal.invariant-loop-n
invariant-loop-n l =
    (length l.entries ≡ 64) × (l.b ≡ product l.initial.b (2 ^ (4 * l.n))) × Blocks l.initial.b l.entries l.n
