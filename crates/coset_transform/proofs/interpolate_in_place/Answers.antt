-- The halves joined, then the conversion back. Assumes nothing.
use mathlib.Core.Path.{◌∙◌}
use native.Mathlib.Omega.{arith}
use borrow.Author.Rules.{rules}
use Rattle.transform.proofs.InPlace.{elements_counted, inverses_counted, interpolated_with}
use Rattle.coset_transform.proofs.interpolate_in_place.Goals as goal

pub join-requires : goal.join-requires
join-requires c =
    let basis = c.args.coset.basis.now in
    let counted = elements_counted basis c.as_slice.result.now (cc) in
    let inverted = inverses_counted basis c.as_slice.result.now c.as_slice-2.result.now (cc) (cc) in
    (omega arith, omega arith, omega arith, c.requires)

pub convert_back-requires : goal.convert_back-requires
convert_back-requires c =
    let basis = c.args.coset.basis.now in
    let counted = elements_counted basis c.as_slice.result.now (cc) in
    let inverted = inverses_counted basis c.as_slice.result.now c.as_slice-2.result.now (cc) (cc) in
    (omega arith, omega arith, c.args.coset.few, c.join.auto.slice ∙ c.requires)

pub returns : goal.returns
returns c =
    let coset = c.args.coset in
    let done = interpolated_with coset.offset.0 coset.basis.now c.args.slice.now c.as_slice.result.now
    c.as_slice-2.result.now (search rules) coset.elements (λ i. search rules) coset.independent c.requires (cc) (cc) in
    cc
