-- `carryless::wide_square` meets its contract: the squares of the halves make the square. Assumes nothing.
use Rattle.carryless.proofs.Squares.{halves_square}
use Rattle.carryless.proofs.wide_square.Goals as goal

pub returns : goal.returns
returns c = halves_square c.args.a _ _ c.spread.ensures c.spread-2.ensures
