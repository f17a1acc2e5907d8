-- `points::point` meets its contract: a bit that is set adds its element. Assumes nothing.
use Rattle.std.proofs.Common.{◌∙◌, ap, arith, ℕ, ◌+◌, ◌/◌, drop, length, ◌<◌}
use Rattle.coset.specs.Coset.{point}
use Rattle.points.proofs.IndexBits.{bit_set, bit_clear, bits_end}
use Rattle.points.proofs.point.Goals as goal
use Rattle.points.proofs.point.Goals.{then-bits-eq1, else-bits-eq1}

pub loop-b-preserved : goal.loop-b-preserved
loop-b-preserved c =
    let basis = c.args.basis.now in
    let l = c.loop-b in
    let inside : l.b-index < length basis = omega arith in
    elim c.if-bits-eq1.branch [
      | then-bits-eq1 w ↦
          ap (λ (p : ℕ). point p (drop (l.b-index + 1) basis) (l.bits / 2)) (ap (λ e. e.0) w.point-is ∙ w.sum-point.ensures)
          ∙ bit_set l.point.0 basis l.b-index l.bits inside w.if-bits-eq1.true
      | else-bits-eq1 w ↦
          ap (λ (p : ℕ). point p (drop (l.b-index + 1) basis) (l.bits / 2)) (ap (λ e. e.0) w.point-is)
          ∙ bit_clear l.point.0 basis l.b-index l.bits inside w.if-bits-eq1.false
    ]
    ∙ l.invariant

pub returns : goal.returns
returns c =
    let l = c.loop-b in bits_end l.point.0 c.args.basis.now l.b-index l.bits (omega arith) ∙ l.invariant
