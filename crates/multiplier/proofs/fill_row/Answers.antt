-- `multiplier::fill_row` meets its contract: the sum of two multiples is one. Assumes nothing.
use native.Mathlib.Omega.{arith}
use Rattle.multiplier.proofs.Entries.{filled_next}
use Rattle.multiplier.proofs.fill_row.Goals as goal

pub loop-j-preserved : goal.loop-j-preserved
loop-j-preserved c b k ec es filled =
    filled_next b k _ c.loop-j.j _ c.loop-j.block ec es (omega arith) (omega arith) (c.loop-j.invariant b k ec es filled)
