-- `coset_value::inverses_of` meets its contract. Assumes nothing.
use mathlib.Core.Path.{◌∙◌}
use Rattle.gf64.specs.Field.{inverse}
use Rattle.poly.proofs.Filling.{padded_mapped}
use Rattle.coset_value.proofs.inverses_of.Goals as goal

pub returns : goal.returns
returns c =
    c.inverses_of_nonzero.ensures
    ∙ padded_mapped 3 inverse c.args.elements.now
