-- One level after the other, from the last. Assumes nothing.
use native.Mathlib.Omega.{arith}
use Rattle.transform.specs.Transform.{ratio_of}
use Rattle.transform.proofs.InPlace.{converted_back_start, converted_back_next}
use Rattle.conversion.proofs.convert_back.Goals as goal

pub loop-j-init : goal.loop-j-init
loop-j-init c =
    let a = c.args in
    converted_back_start (ratio_of a.maps.inverses.now a.maps.elements.now) a.levels a.slice.now

pub loop-j-preserved : goal.loop-j-preserved
loop-j-preserved c =
    let a = c.args in
    let l = c.loop-j in
    let next = converted_back_next (ratio_of a.maps.inverses.now a.maps.elements.now) l.j a.levels a.slice.now
    (omega arith) (omega arith) in
    cc
