-- Each half by itself, then the step back on the whole. Assumes nothing.
use Prim.Native.Nat.{◌/◌}
use lib.ListN.{length}
use Rattle.transform.specs.Transform.{normalised_at}
use Rattle.transform.proofs.Recursion.{half_power, join_next}
use native.Mathlib.Omega.{arith}
use Rattle.coset_halves.proofs.+join.Goals as goal

pub returns : goal.returns
returns t c =
    let a = c.args in
    let next = join_next (normalised_at a.maps.now.elements.now a.maps.now.inverses.now) a.basis.now a.n a.offset.0
    (length a.slice.now / 2) a.slice.now (omega arith)
    (half_power a.n (length a.slice.now) (omega arith) c.requires.3) in
    cc
