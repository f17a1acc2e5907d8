-- `list_inverse::divide_back`: the elements below i are there, inverses behind them.
use Rattle.list_inverse.proofs.Blocks.{InvertedFrom}
use Rattle.list_inverse.proofs.divide_back.Given as goal

abbrev pub invariant-loop-i : goal.invariant-loop-i
invariant-loop-i l = InvertedFrom l.initial.block l.i l.block l.rest
