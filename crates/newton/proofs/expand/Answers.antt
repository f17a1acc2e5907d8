-- `newton::expand` meets its contract. The loop's invariant: the first i coefficients are those of the form, from i
-- on the form is expanded. Assumes nothing.
use mathlib.Core.Path.{◌≡◌, sym, ◌∙◌}
use Prim.Native.Nat.{◌-◌}
use lib.ListN.{length}
use Rattle.coset.specs.Coset.{points}
use Rattle.coset.proofs.Points.{length-points, get_or-points}
use Rattle.newton.proofs.Expansion.{expanded_start, expanded_next, expanded_end}
use native.Mathlib.Omega.{arith}
use Rattle.newton.proofs.expand.Goals as goal

pub loop-i-init : goal.loop-i-init
loop-i-init c =
    let a = c.args in (
      omega arith,
      expanded_start (points a.offset.0 a.basis.now) a.coefficients.now
          (length-points a.offset.0 a.basis.now ∙ sym c.requires),
    )

pub loop-i-preserved : goal.loop-i-preserved
loop-i-preserved c =
    let a = c.args in
    let l = c.loop-i in
    let all = points a.offset.0 a.basis.now in
    let as_many : length all ≡ length a.coefficients.now =
    length-points a.offset.0 a.basis.now ∙ sym c.requires in
    let listed = get_or-points a.offset.0 a.basis.now (l.i - 1) (omega (arith, c.requires)) in (
      omega arith,
      expanded_next all a.coefficients.now l.coefficients l.i c.point.result.0 c.join.new.coefficients as_many
          (omega arith) l.invariant.0 l.invariant.1 (c.point.ensures ∙ sym listed) c.join.ensures,
    )

pub returns : goal.returns
returns c =
    let a = c.args in
    let l = c.loop-i in
    expanded_end (points a.offset.0 a.basis.now) a.coefficients.now l.coefficients l.i (omega arith) l.invariant.1
