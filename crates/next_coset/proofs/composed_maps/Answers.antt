-- `next_coset::composed_maps` meets its contract. The loop's invariant: y through the maps that are left is x through
-- all. Assumes nothing.
use mathlib.Core.Path.{refl, sym, ap, ◌∙◌}
use Prim.Native.Nat.{◌+◌, ◌<◌}
use lib.ListN.{drop, length}
use Rattle.gf64.specs.Field.{product}
use Rattle.coset.specs.Steps.{composed_maps}
use Rattle.coset.proofs.Steps.{through_next, through_end}
use native.Mathlib.Omega.{arith}
use Rattle.next_coset.proofs.composed_maps.Goals as goal

pub loop-e-init : goal.loop-e-init
loop-e-init c = refl

pub loop-e-preserved : goal.loop-e-preserved
loop-e-preserved c =
    let elements = c.args.elements.now in
    let l = c.loop-e in
    let inside : l.e-index < length elements = omega arith in
    ap (composed_maps (drop (l.e-index + 1) elements)) (c.product-y.ensures.value ∙ ap (product l.y.0) c.sum.ensures)
    ∙ through_next elements l.e-index l.y.0 inside ∙ l.invariant

pub returns : goal.returns
returns c =
    let elements = c.args.elements.now in
    let l = c.loop-e in
    sym (through_end elements l.e-index l.y.0 (omega arith)) ∙ l.invariant
