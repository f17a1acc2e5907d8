-- The list is filled with images. Assumes nothing.
use lib.ListN.{get_or}
use borrow.Author.Rules.{rules}
use native.Mathlib.Omega.{arith}
use Rattle.poly.specs.Carrier.{gf64}
use Rattle.poly.specs.Polynomial.{scale}
use Rattle.poly.proofs.Filling.{filled_start}
use Rattle.transform_steps.proofs.Entries.{scaled_next, scaled_end}
use Rattle.transform_steps.proofs.map_images.Goals as goal

pub loop-x-init : goal.loop-x-init
loop-x-init g c m e = filled_start (scale gf64 m c.args.part.now) c.args.part.now

pub loop-x-preserved : goal.loop-x-preserved
loop-x-preserved g c m e =
    let l = c.loop-x in
    scaled_next m c.args.part.now l.part l.x-index _ (omega arith) (l.invariant m e)
    (e (get_or l.part l.x-index 0) c.image.result (search rules) c.image.ensures)

pub returns : goal.returns
returns g c m e =
    let l = c.loop-x in
    scaled_end m c.args.part.now l.part l.x-index (omega arith) (l.invariant m e)
