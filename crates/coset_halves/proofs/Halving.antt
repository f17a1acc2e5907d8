-- The lemmas by which the recursion on halves goes. Assumes nothing.
use Rattle.transform.proofs.Recursion.{split_none, join_none, two_of_power, half_power}

pub ruleset halving = (split_none, join_none, two_of_power, half_power)
