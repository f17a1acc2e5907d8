-- The measure is the dimension.
use Rattle.coset_halves.proofs.+join.Given as goal

abbrev pub decreases-join : goal.decreases-join
decreases-join l = l.n
