-- `poly::copy` meets its contract. Assumes nothing.
use mathlib.Core.List.{◌++◌}
use mathlib.Core.Path.{refl, ◌∙◌}
use lib.ListN.{length, get_or, drop}
use native.Mathlib.Omega.{arith}
use Rattle.poly.proofs.Filling.{filled_start, front_next, front_done}
use Rattle.poly.proofs.copy.Goals as goal

pub loop-i-init : goal.loop-i-init
loop-i-init c =
    let a = c.args in
    filled_start (a.from.now ++ drop (length a.from.now) a.to.now) a.to.now

pub loop-i-preserved : goal.loop-i-preserved
loop-i-preserved c =
    let a = c.args in
    let l = c.loop-i in
    let next = front_next a.from.now a.to.now l.i (get_or a.from.now l.i 0) (omega arith) c.requires refl in
    cc

pub returns : goal.returns
returns c =
    let a = c.args in
    let l = c.loop-i in
    l.invariant ∙ front_done a.from.now a.to.now l.i (omega arith) c.requires
