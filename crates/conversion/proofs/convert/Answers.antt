-- One level after the other. Assumes nothing.
use native.Mathlib.Omega.{arith}
use Rattle.transform.specs.Transform.{ratio_of}
use Rattle.transform.proofs.InPlace.{converted_next, converted_end}
use Rattle.conversion.proofs.convert.Goals as goal

pub loop-j-preserved : goal.loop-j-preserved
loop-j-preserved c =
    let a = c.args in
    let l = c.loop-j in
    let next = converted_next (ratio_of a.maps.elements.now a.maps.inverses.now) l.j a.levels l.slice (omega arith) in
    cc

pub returns : goal.returns
returns c =
    let a = c.args in
    let l = c.loop-j in
    let end = converted_end (ratio_of a.maps.elements.now a.maps.inverses.now) l.j a.levels l.slice (omega arith) in
    cc
