-- `newton::fill_newton` meets its contract. The loop's invariant: i coefficients are filled in, the others are values
-- still. Assumes nothing.
use Rattle.newton.proofs.NewtonSteps.{coefficient_next, none_passed}
use Rattle.coset.proofs.Points.{length-points, get_or-points, points_distinct}
use Rattle.coset.specs.Coset.{points}
use Rattle.poly.proofs.Newton.{length-newton_coefficients}
use Rattle.poly.proofs.Filling.{filled_start, filled_next, filled_rest, filled_all}
use Rattle.poly.specs.Newton.{newton_coefficients}
use Rattle.poly.specs.Carrier.{gf64}
use lib.Seq.{length-take-le}
use lib.ListN.{length, get_or, set}
use native.Mathlib.Nat.{le_of_eq}
use Prim.Native.Nat.{ℕ, ◌<◌}
use mathlib.Core.List.{List}
use mathlib.Core.Path.{◌≡◌, refl, sym, ap, ◌∙◌}
use native.Mathlib.Omega.{arith}
use Rattle.newton.proofs.fill_newton.Goals as goal

pub loop-i-init : goal.loop-i-init
loop-i-init c =
    let a = c.args in
    filled_start (newton_coefficients gf64 (points a.coset.offset.0 a.coset.basis.now) a.coefficients.now) a.coefficients.now

pub newton_coefficient-requires : goal.newton_coefficient-requires
newton_coefficient-requires c =
    let l = c.loop-i in
    let coset = c.args.coset in
    let all = points coset.offset.0 coset.basis.now in
    let passed = length-take-le l.i l.coefficients (omega arith) in
    let inside : l.i < length all = omega (arith, c.requires, length-points coset.offset.0 coset.basis.now) in (
      coset.few,
      omega (arith, passed, c.requires),
      none_passed all l.i _ _ (points_distinct coset.offset.0 coset.basis.now coset.independent) inside passed
          (c.point-z.ensures ∙ sym (get_or-points coset.offset.0 coset.basis.now l.i (omega (arith, c.requires)))),
    )

pub loop-i-preserved : goal.loop-i-preserved
loop-i-preserved c =
    let a = c.args in
    let l = c.loop-i in
    let values = a.coefficients.now in
    let all = points a.coset.offset.0 a.coset.basis.now in
    let inside : l.i < length values = omega arith in
    let as_many : length all ≡ length values = length-points a.coset.offset.0 a.coset.basis.now ∙ sym c.requires in
    let counted = length-newton_coefficients gf64 all values as_many ∙ as_many in
    ap (λ (now : List ℕ). set now l.i c.newton_coefficient.result.0) l.invariant
    ∙ filled_next (newton_coefficients gf64 all values) values l.i c.newton_coefficient.result.0 inside counted
    (c.newton_coefficient.ensures
    ∙ coefficient_next all values values l.coefficients l.i c.point-z.result.0 (get_or l.coefficients l.i 0) as_many
    (sym as_many) inside
    (c.point-z.ensures
    ∙ sym (get_or-points a.coset.offset.0 a.coset.basis.now l.i (omega (arith, c.requires))))
    (ap (λ (now : List ℕ). get_or now l.i 0) l.invariant
    ∙ filled_rest (newton_coefficients gf64 all values) values l.i l.i (le_of_eq refl) counted)
    l.invariant)

pub returns : goal.returns
returns c =
    let a = c.args in
    let l = c.loop-i in
    let all = points a.coset.offset.0 a.coset.basis.now in
    let as_many : length all ≡ length a.coefficients.now =
    length-points a.coset.offset.0 a.coset.basis.now ∙ sym c.requires in
    l.invariant
    ∙ filled_all (newton_coefficients gf64 all a.coefficients.now) a.coefficients.now l.i (omega arith)
    (length-newton_coefficients gf64 all a.coefficients.now as_many ∙ as_many)
