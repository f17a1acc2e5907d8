-- The lemmas by which the recursion on halves goes. Assumes nothing.
use Rattle.transform.proofs.Recursion.{regrouped_few, regrouped_back_few, four_divides, half_length, even_length}

pub ruleset halving = (regrouped_few, regrouped_back_few, four_divides, half_length, even_length)
