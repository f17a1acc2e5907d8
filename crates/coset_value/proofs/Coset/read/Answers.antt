-- `Coset::read` meets its contract. The loop's invariant: i points and i entries stand in the arrays, zeros follow.
-- Assumes nothing.
use mathlib.Core.Path.{refl, sym, ◌∙◌}
use mathlib.Core.List.{map}
use lib.ListN.{length, get_or, length-map}
use Rattle.gf64.specs.Field.{sum}
use Rattle.poly.specs.Carrier.{gf64}
use Rattle.poly.specs.Polynomial.{padded}
use Rattle.poly.proofs.Filling.{get_d_map}
use Rattle.coset_value.specs.Cosets.{element, elements}
use Rattle.coset_value.proofs.Arrays.{begun_start, begun_next, begun_all}
use Rattle.coset_value.proofs.Cosets.{coset_equal}
use native.Mathlib.Omega.{arith}
use Rattle.coset_value.proofs.Coset.read.Goals as goal

pub loop-i-init : goal.loop-i-init
loop-i-init c =
    let a = c.args in
    (begun_start (map (sum a.first.0) a.span.now), begun_start a.part.now)

pub loop-i-preserved : goal.loop-i-preserved
loop-i-preserved c =
    let start = c in
    let a = start.args in
    let l = c.loop-i in
    let point = c.sum in
    let points = map (sum a.first.0) a.span.now in
    let count = length-map a.span.now (sum a.first.0) in (
      begun_next points l.points l.i point.result l.invariant.0 (omega (arith, count))
          (omega (arith, count, start.requires.0))
          (point.ensures ∙ sym (get_d_map (sum a.first.0) a.span.now l.i (omega arith))),
      begun_next a.part.now l.entries l.i (element (get_or a.part.now l.i 0)) l.invariant.1
          (omega (arith, start.requires.1)) (omega (arith, start.requires.0, start.requires.1)) refl,
    )

pub returns : goal.returns
returns c =
    let start = c in
    let a = start.args in
    let l = c.loop-i in
    let points = map (sum a.first.0) a.span.now in
    let count = length-map a.span.now (sum a.first.0) in
    coset_equal l.points (elements (padded gf64 8 points)) l.entries (elements (padded gf64 8 a.part.now))
    (length a.span.now) (length a.span.now)
    (begun_all points l.points l.i l.invariant.0 (omega (arith, count)) (omega (arith, count, start.requires.0)))
    (begun_all a.part.now l.entries l.i l.invariant.1 (omega (arith, start.requires.1))
    (omega (arith, start.requires.0, start.requires.1)))
    refl
