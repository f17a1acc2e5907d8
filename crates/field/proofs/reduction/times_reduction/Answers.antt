-- `field::reduction::times_reduction` meets its contract. Assumes nothing.
use mathlib.Core.Path.{sym, ap, ◌∙◌}
use native.Mathlib.Omega.{arith}
use Rattle.gf64.specs.Polynomial.{reduction}
use Rattle.gf64.proofs.Carryless.{carryless-zero_l}
use Rattle.carryless.specs.Window.{wide_of}
use Rattle.field.proofs.Remainders.{bit_set, bit_clear}
use Rattle.field.proofs.reduction.times_reduction.Goals as goal
use Rattle.field.proofs.reduction.times_reduction.Goals.{then-i-eq1, else-i-eq1}

pub loop-i-init : goal.loop-i-init
loop-i-init c = sym (carryless-zero_l c.args.a)

pub loop-i-preserved : goal.loop-i-preserved
loop-i-preserved c =
    let a = c.args.a in
    let i = c.loop-i.i in
    let w = c.loop-i.w in
    let inv = c.loop-i.invariant in
    elim c.if-i-eq1.branch [
      | then-i-eq1 k ↦ ap wide_of k.w-is ∙ k.plus_shifted-w.ensures ∙ bit_set reduction i a (wide_of w) k.if-i-eq1.true inv
      | else-i-eq1 k ↦ ap wide_of k.w-is ∙ bit_clear reduction i a (wide_of w) (omega (arith, k.if-i-eq1.false)) inv
    ]
