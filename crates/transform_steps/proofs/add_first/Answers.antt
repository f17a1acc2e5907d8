-- The second half is filled with sums. Assumes nothing.
use mathlib.Core.Path.{refl}
use native.Mathlib.Omega.{arith}
use Rattle.poly.specs.Carrier.{gf64}
use Rattle.poly.specs.Polynomial.{plus}
use Rattle.poly.proofs.Filling.{filled_start}
use Rattle.transform_steps.proofs.Entries.{added_next, first_end}
use Rattle.transform_steps.proofs.add_first.Goals as goal

pub loop-i-init : goal.loop-i-init
loop-i-init c =
    let halves = c.split_at_mut-first.result in
    filled_start (plus gf64 halves.1.now halves.0.now) halves.1.now

pub loop-i-preserved : goal.loop-i-preserved
loop-i-preserved c =
    let l = c.loop-i in
    let halves = c.split_at_mut-first.result in
    added_next halves.1.now halves.0.now l.second l.i _ (omega (arith, c.requires, c.split_at_mut-first.ensures))
    (omega arith) l.invariant refl

pub returns : goal.returns
returns c =
    let l = c.loop-i in
    let split = c.split_at_mut-first in
    first_end c.args.slice.now split.result.0.now split.result.1.now l.second l.i c.requires split.ensures.front
    split.ensures.back (omega arith) l.invariant
