-- `list_inverse::invert` meets its contract: each block becomes its inverses. Assumes nothing.
use mathlib.Core.Path.{◌∙◌}
use mathlib.Core.List.{map}
use Prim.Native.Nat.{◌+◌}
use native.Mathlib.Omega.{arith}
use lib.ListN.{length-map}
use Rattle.gf64.specs.Field.{inverse}
use Rattle.poly.proofs.Filling.{filled_start, filled_all, filled_within, mapped_next}
use Rattle.list_inverse.proofs.invert.Goals as goal

pub loop-at-init : goal.loop-at-init
loop-at-init c = filled_start (map inverse c.args.list.now) c.args.list.now

pub loop-at-preserved : goal.loop-at-preserved
loop-at-preserved c =
    let list = c.args.list.now in
    let at = c.loop-at.at in
    mapped_next inverse list c.loop-at.list _ at c.min-end.result (omega arith) (omega arith) c.loop-at.invariant
    c.invert_block.ensures
    ∙ filled_within (map inverse list) list _ (at + 64) (length-map list inverse) (omega arith)

pub returns : goal.returns
returns c =
    let list = c.args.list.now in
    c.loop-at.invariant ∙ filled_all (map inverse list) list c.loop-at.at (omega arith) (length-map list inverse)

pub returns-2 : goal.returns-2
returns-2 c =
    let list = c.args.list.now in
    mapped_next inverse list c.loop-at.list _ c.loop-at.at c.min-end.result (omega arith) (omega arith)
    c.loop-at.invariant c.invert_block.ensures
    ∙ filled_all (map inverse list) list _ (omega arith) (length-map list inverse)
