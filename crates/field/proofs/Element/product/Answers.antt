-- `field::Element::product` meets its contract: t^64 reduced is the reduction constant. Assumes nothing.
use mathlib.Core.Path.{sym}
use Rattle.gf64.proofs.Remainder.{remainder_t64}
use Rattle.field.proofs.Element.product.Goals as goal

pub returns-clause-constant : goal.returns-clause-constant
returns-clause-constant c = sym remainder_t64
