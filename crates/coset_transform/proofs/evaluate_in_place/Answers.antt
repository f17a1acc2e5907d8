-- The conversion in the front of the list, with zeros behind it, then the halves. Assumes nothing.
use mathlib.Core.Path.{◌≡◌, sym, ◌∙◌}
use Prim.Native.Nat.{◌^◌, ◌≤◌}
use native.Mathlib.Omega.{arith}
use borrow.Author.Rules.{rules}
use lib.ListN.{length, drop, length-append, length-drop}
use lib.Seq.{length-take-le}
use Rattle.transform.proofs.InPlace.{elements_counted, inverses_counted, evaluated_with, size_fits, zeros_behind}
use Rattle.coset_transform.proofs.evaluate_in_place.Goals as goal

pub slice_bounds-convert-end : goal.slice_bounds-convert-end
slice_bounds-convert-end c =
    size_fits c.args.used c.pow-size.result c.args.coset.basis.now c.args.slice.now (search rules) c.requires.0
    c.requires.1

pub slice_bounds-convert-end-2 : goal.slice_bounds-convert-end-2
slice_bounds-convert-end-2 c =
    sym (length-take-le c.pow-size.result c.args.slice.now
    (size_fits c.args.used c.pow-size.result c.args.coset.basis.now c.args.slice.now (search rules) c.requires.0
    c.requires.1))

pub convert-requires : goal.convert-requires
convert-requires c =
    let basis = c.args.coset.basis.now in
    let counted = elements_counted basis c.as_slice.result.now (cc) in
    let inverted = inverses_counted basis c.as_slice.result.now c.as_slice-2.result.now (cc) (cc) in
    let few : length basis ≤ 20 = c.args.coset.few in
    let sized : c.pow-size.result ≡ 2 ^ c.args.used = search rules in
    let fits = size_fits c.args.used c.pow-size.result basis c.args.slice.now sized c.requires.0 c.requires.1 in
    (omega arith, omega arith, omega arith, length-take-le c.pow-size.result c.args.slice.now fits ∙ sized)

pub split-requires : goal.split-requires
split-requires c =
    let basis = c.args.coset.basis.now in
    let s = c.args.slice.now in
    let front = c.convert.new.slice in
    let size = c.pow-size.result in
    let counted = elements_counted basis c.as_slice.result.now (cc) in
    let inverted = inverses_counted basis c.as_slice.result.now c.as_slice-2.result.now (cc) (cc) in
    let sized : size ≡ 2 ^ c.args.used = search rules in
    let fits = size_fits c.args.used size basis s sized c.requires.0 c.requires.1 in
    let whole : length front ≡ size = c.convert.auto.slice ∙ length-take-le size s fits in (
      omega arith,
      omega arith,
      omega arith,
      length-append front (drop size s) ∙ omega (arith, length-drop size s, c.requires.1),
      zeros_behind c.args.used size s front sized whole c.requires.2,
    )

pub returns : goal.returns
returns c =
    let coset = c.args.coset in
    let sized : c.pow-size.result ≡ 2 ^ c.args.used = search rules in
    let done = evaluated_with coset.offset.0 coset.basis.now c.args.slice.now c.as_slice.result.now
    c.as_slice-2.result.now c.args.used c.pow-size.result (search rules) coset.elements (λ i. search rules)
    coset.independent c.requires.1 c.requires.0 c.requires.2 (cc) (cc) sized in
    cc
