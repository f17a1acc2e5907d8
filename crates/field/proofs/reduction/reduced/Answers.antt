-- `field::reduction::reduced` meets its contract. Assumes nothing.
use borrow.Author.Rules.{rules}
use Rattle.field.proofs.Remainders.{reduced_together}
use Rattle.field.proofs.reduction.reduced.Goals as goal

pub returns : goal.returns
returns c =
    reduced_together _ _ _ _ _ _ (search rules) (search rules) (search rules) (search rules)
    c.times_reduction-over.ensures
    c.times_reduction.ensures
