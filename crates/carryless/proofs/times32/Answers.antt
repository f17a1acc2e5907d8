-- `carryless::times32` meets its contract. Assumes nothing.
use native.Mathlib.Omega.{arith}
use Rattle.carryless.proofs.Schoolbook.{no_sums, sums_next}
use Rattle.carryless.proofs.times32.Goals as goal

pub loop-n-init : goal.loop-n-init
loop-n-init c = no_sums _ _ c.args.x c.args.y

pub loop-n-preserved : goal.loop-n-preserved
loop-n-preserved c =
    sums_next _ _ c.args.x c.args.y c.loop-n.n _ _ _ c.requires.halves.0 c.requires.halves.1 (omega arith)
    c.times4-upper.ensures c.loop-n.invariant c.joined-sums.ensures
