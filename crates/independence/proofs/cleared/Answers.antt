-- `independence::cleared` meets its contract: it makes the definition's test. Assumes nothing.
use borrow.Author.Tests.{lt-ltb, le-ltb}
use Rattle.coset.specs.Elimination.{cleared}
use Rattle.independence.proofs.cleared.Goals as goal

pub returns-then-a-row : goal.returns-then-a-row
unfolding cleared
returns-then-a-row c = simp (lt-ltb _ _ c.if-a-row.true)

pub returns-else-a-row : goal.returns-else-a-row
unfolding cleared
returns-else-a-row c = simp (le-ltb _ _ c.if-a-row.false)
