-- `multiplier::fill_block` meets its contract. Assumes nothing.
use native.Mathlib.Omega.{arith}
use lib.ListN.{length-set}
use Rattle.multiplier.proofs.Entries.{row_within, filled_zero}
use Rattle.multiplier.proofs.fill_block.Goals as goal

pub loop-k-init : goal.loop-k-init
loop-k-init c = filled_zero c.args.b c.args.block.now (omega arith)

pub fill_row-requires : goal.fill_row-requires
fill_row-requires c = omega (arith, row_within c.loop-k.k c.loop-k-test.true, length-set c.args.block.now 0 0)
