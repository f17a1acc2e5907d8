-- `multiplier::shifted` meets its contract. Assumes nothing.
use mathlib.Core.Path.{sym, ap, ◌∙◌}
use Rattle.gf64.specs.Polynomial.{remainder}
use Rattle.multiplier.proofs.Places.{product-power}
use Rattle.multiplier.proofs.shifted.Goals as goal

pub returns : goal.returns
returns c =
    c.reduced.ensures ∙ ap remainder c.plus_shifted.ensures
    ∙ sym (product-power c.args.v c.args.k)
