-- `carryless::wide_product` meets its contract. Assumes nothing.
use Rattle.carryless.proofs.Schoolbook.{schoolbook}
use Rattle.carryless.proofs.wide_product.Goals as goal

pub returns : goal.returns
returns c = schoolbook c.args.a c.args.b _ (rw (← c.of-low.ensures, ← c.of-high.ensures) c.times32-p.ensures)
