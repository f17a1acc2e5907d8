-- The first half is filled with sums. Assumes nothing.
use mathlib.Core.Path.{◌≡◌, sym, ap, ◌∙◌}
use lib.ListN.{length, get_or}
use borrow.Author.Rules.{rules}
use native.Mathlib.Omega.{arith}
use Rattle.gf64.specs.Field.{sum, product}
use Rattle.poly.specs.Carrier.{gf64}
use Rattle.poly.specs.Polynomial.{plus, scale}
use Rattle.poly.proofs.Evaluation.{length-scale}
use Rattle.poly.proofs.Filling.{filled_start, get_d_map}
use Rattle.transform_steps.proofs.Entries.{added_next, second_end}
use Rattle.transform_steps.proofs.add_images.Goals as goal

pub loop-i-init : goal.loop-i-init
loop-i-init g c m e =
    let halves = c.split_at_mut-first.result in
    filled_start (plus gf64 halves.0.now (scale gf64 m halves.1.now)) halves.0.now

pub loop-i-preserved : goal.loop-i-preserved
unfolding scale
loop-i-preserved g c m e =
    let l = c.loop-i in
    let first = c.split_at_mut-first.result.0.now in
    let second = c.split_at_mut-first.result.1.now in
    let even : length second ≡ length first = omega (arith, c.requires, c.split_at_mut-first.ensures) in
    added_next first (scale gf64 m second) l.first l.i _ (length-scale gf64 m second ∙ even) (omega arith)
    (l.invariant m e)
    (ap (sum (get_or l.first l.i 0))
    (e (get_or second l.i 0) c.image.result (search rules) c.image.ensures
    ∙ sym (get_d_map (product m) second l.i (omega arith))))

pub returns : goal.returns
returns g c m e =
    let l = c.loop-i in
    let split = c.split_at_mut-first in
    second_end c.args.slice.now split.result.0.now split.result.1.now l.first l.i c.requires.halves split.ensures.front
    split.ensures.back m (omega arith) (l.invariant m e)
