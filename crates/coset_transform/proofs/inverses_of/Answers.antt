-- No element is zero. Assumes nothing.
use mathlib.Core.Path.{◌∙◌}
use lib.ListN.{length}
use Rattle.gf64.specs.Field.{inverse}
use Rattle.poly.proofs.Filling.{padded_mapped}
use Rattle.coset.proofs.Points.{all_elements}
use Rattle.coset.proofs.Steps.{listed_not_zero}
use Rattle.transform.proofs.InPlace.{inverses_held}
use Rattle.coset_transform.proofs.inverses_of.Goals as goal

pub inverses_of_nonzero-requires : goal.inverses_of_nonzero-requires
inverses_of_nonzero-requires c =
    let coset = c.args.coset in
    let basis = coset.basis.now in (
      c.as_slice-elements.ensures.few,
      listed_not_zero (length basis) basis c.as_slice-elements.result.now (all_elements basis coset.elements)
          coset.independent (c.as_slice-elements.ensures.list ∙ c.requires),
    )

pub returns : goal.returns
returns c =
    let elements = c.as_slice-elements.result.now in
    let room = c.inverses_of_nonzero.new.inverses in
    let held = inverses_held 20 c.args.coset.basis.now elements room (c.as_slice-elements.ensures.list ∙ c.requires)
    (c.inverses_of_nonzero.ensures ∙ padded_mapped 20 inverse elements) in
    cc
