-- `newton::join` meets its contract. The loop's invariant: the entries before the last looked at are those of the
-- product, the others as they were. Assumes nothing.
use mathlib.Core.Path.{ap, ◌∙◌}
use Prim.Native.Nat.{◌-◌}
use lib.ListN.{get_or, set}
use native.Mathlib.Omega.{arith}
use Rattle.gf64.specs.Field.{sum}
use Rattle.poly.specs.Carrier.{gf64}
use Rattle.poly.specs.Newton.{horner_step}
use Rattle.poly.proofs.Filling.{filled_start}
use Rattle.newton.proofs.Joining.{join_next, join_end}
use Rattle.newton.proofs.join.Goals as goal

pub loop-j-init : goal.loop-j-init
loop-j-init c = (omega arith, filled_start (horner_step gf64 c.args.x.0 c.args.coefficients.now) c.args.coefficients.now)

pub loop-j-preserved : goal.loop-j-preserved
loop-j-preserved c =
    let a = c.args in
    let l = c.loop-j in (
      omega arith,
      ap (set l.coefficients (l.j - 1))
          (c.sum.ensures ∙ ap (sum (get_or l.coefficients (l.j - 1) 0)) c.product.ensures.value)
          ∙ join_next a.x.0 a.coefficients.now l.coefficients l.j l.invariant.0 (omega arith) l.invariant.1,
    )

pub returns : goal.returns
returns c =
    let a = c.args in
    let l = c.loop-j in
    join_end a.x.0 a.coefficients.now l.coefficients l.j l.invariant.0 (omega arith) l.invariant.1
