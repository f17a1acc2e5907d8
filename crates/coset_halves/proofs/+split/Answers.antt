-- The step on the whole, then each half by itself. Assumes nothing.
use mathlib.Core.Path.{sym, ◌∙◌, subst}
use Prim.Native.Nat.{◌-◌, ◌/◌, ◌^◌}
use lib.ListN.{length}
use Rattle.poly.specs.Carrier.{gf64}
use Rattle.poly.specs.Polynomial.{DegreeBelow}
use Rattle.transform.specs.Transform.{normalised_at}
use Rattle.transform.proofs.Recursion.{half_power, two_of_power, split_next, first_below, second_below}
use native.Mathlib.Omega.{arith}
use Rattle.coset_halves.proofs.+split.Goals as goal

pub split-requires : goal.split-requires
split-requires t c =
    let a = c.args in
    let s = a.slice.now in
    let halved = c.split_at_mut-first.ensures in
    let half = length c.step.new.slice / 2 in
    let at = half_power a.n (length c.step.new.slice) (omega arith) (c.step.auto.slice ∙ c.requires.3) in
    let z = normalised_at a.maps.now.elements.now a.maps.now.inverses.now in (
      omega arith,
      (
        omega arith,
        omega arith,
        omega arith,
        halved.front_len ∙ at,
        subst (DegreeBelow gf64 (2 ^ a.used)) (sym halved.front)
            (first_below a.used (a.n - 1) (z (a.n - 1) a.offset.0) half s c.step.new.slice at
            (two_of_power a.n (length s) (omega arith) c.requires.3) c.requires.4 c.step.ensures c.step.auto.slice),
      ),
    )

pub split-requires-2 : goal.split-requires-2
split-requires-2 t c =
    let a = c.args in
    let s = a.slice.now in
    let halved = c.split_at_mut-first.ensures in
    let half = length c.step.new.slice / 2 in
    let at = half_power a.n (length c.step.new.slice) (omega arith) (c.step.auto.slice ∙ c.requires.3) in
    let two = two_of_power a.n (length s) (omega arith) c.requires.3 in
    let z = normalised_at a.maps.now.elements.now a.maps.now.inverses.now in (
      omega arith,
      (
        omega arith,
        omega arith,
        omega arith,
        omega (arith, halved.back_len, at, two, c.step.auto.slice),
        subst (DegreeBelow gf64 (2 ^ a.used)) (sym halved.back)
            (second_below a.used (a.n - 1) (z (a.n - 1) a.offset.0) half s c.step.new.slice at two c.requires.4
            c.step.ensures c.step.auto.slice),
      ),
    )

pub returns : goal.returns
returns t c =
    let a = c.args in
    let half = length c.step.new.slice / 2 in
    let at = half_power a.n (length c.step.new.slice) (omega arith) (c.step.auto.slice ∙ c.requires.3) in
    let next = split_next (normalised_at a.maps.now.elements.now a.maps.now.inverses.now) a.basis.now a.n a.offset.0 half
    a.slice.now (omega arith) at in
    cc
