-- `newton::interpolate_in_place` meets its contract: Newton's form is found and expanded. Assumes nothing.
use Rattle.newton.proofs.Interpolating.{expanded-interpolated}
use Rattle.coset.specs.Coset.{points}
use Rattle.poly.specs.Newton.{expanded}
use Rattle.poly.specs.Carrier.{gf64}
use mathlib.Core.Path.{ap, ◌∙◌}
use borrow.Author.Rules.{rules}
use Rattle.newton.proofs.interpolate_in_place.Goals as goal

pub returns : goal.returns
returns c =
    let coset = c.args.coset in
    let values = c.args.values.now in
    c.expand.ensures ∙ ap (expanded gf64 (points coset.offset.0 coset.basis.now)) c.fill_newton.ensures
    ∙ expanded-interpolated coset.offset.0 coset.basis.now values (search rules) coset.elements
    (λ i. search rules) coset.independent c.requires
