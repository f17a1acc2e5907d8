-- One run after the other. Assumes nothing.
use mathlib.Core.Path.{◌≡◌, sym, ap, ◌∙◌}
use Prim.Native.Nat.{◌^◌}
use native.Mathlib.Nat.{zero-mul}
use native.Mathlib.Omega.{arith}
use borrow.Author.Rules.{rules}
use Rattle.gf64.proofs.Power.{power_zero}
use Rattle.poly.proofs.Filling.{filled, filled_start}
use Rattle.transform.specs.Transform.{scaled_runs}
use Rattle.conversion.proofs.Runs.{power_next, next, end}
use Rattle.conversion.proofs.scale_runs.Goals as goal

pub loop-i-init : goal.loop-i-init
loop-i-init c =
    let s = c.args.slice.now in
    let target = scaled_runs c.args.lower c.args.r.0 s in
    (sym (power_zero c.args.r.0), filled_start target s ∙ ap (filled target s) (sym (zero-mul c.pow-run.result)))

pub loop-i-preserved : goal.loop-i-preserved
loop-i-preserved c =
    let l = c.loop-i in
    let a = c.args in
    let long : c.pow-run.result ≡ 2 ^ a.lower = search rules in (
      c.product-power.ensures.value ∙ power_next l.power.0 a.r.0 l.i l.invariant.0,
      next a.lower a.upper a.r.0 l.i c.pow-run.result a.slice.now l.slice c.requires.1 long l.invariant.1
          c.scale.new.part _ (omega arith) (omega arith) (cc),
    )

pub returns : goal.returns
returns c =
    let l = c.loop-i in
    let a = c.args in
    let long : c.pow-run.result ≡ 2 ^ a.lower = search rules in
    end a.lower a.upper a.r.0 l.i c.pow-run.result a.slice.now l.slice c.requires.1 long l.invariant.1 (omega arith)
