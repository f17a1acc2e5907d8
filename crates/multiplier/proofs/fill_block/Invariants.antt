-- `multiplier::fill_block`: the multiples by k bits are there.
use Prim.Native.Nat.{◌^◌}
use Rattle.multiplier.specs.Table.{Filled}
use Rattle.multiplier.proofs.fill_block.Given as goal

abbrev pub invariant-loop-k : goal.invariant-loop-k
invariant-loop-k l = Filled l.b l.block (2 ^ l.k)
