-- `field::Element::squared` meets its contract: each turn squares once more. Assumes nothing.
use mathlib.Core.Path.{◌∙◌}
use borrow.Author.Rules.{rules}
use Rattle.field.proofs.Ones.{ones_first, squared_once_more}
use Rattle.field.proofs.Element.squared.Goals as goal

pub loop-init : goal.loop-init
loop-init c = ones_first c.args.self.0 (search rules)

pub loop-preserved : goal.loop-preserved
loop-preserved c = c.square-x.ensures ∙ squared_once_more _ c.loop.counter _ c.loop.invariant
