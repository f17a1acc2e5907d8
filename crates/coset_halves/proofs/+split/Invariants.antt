-- The measure is the dimension.
use Rattle.coset_halves.proofs.+split.Given as goal

abbrev pub decreases-split : goal.decreases-split
decreases-split l = l.n
