-- `multiplier::Multiplier::times` meets its contract. Assumes nothing.
use mathlib.Core.Path.{ap, ◌∙◌}
use Rattle.gf64.specs.Polynomial.{remainder}
use Rattle.gf64.proofs.Remainder.{remainder-zero}
use Rattle.carryless.specs.Window.{wide_of}
use Rattle.multiplier.proofs.Places.{no_bits, more_bits_unreduced}
use Rattle.multiplier.proofs.Multiplier.times.Goals as goal

pub loop-n-init : goal.loop-n-init
loop-n-init c = remainder-zero ∙ no_bits c.args.self.now c.args.x

pub loop-n-preserved : goal.loop-n-preserved
loop-n-preserved c =
    ap remainder c.plus_shifted-w.ensures
    ∙ more_bits_unreduced c.args.self.now c.args.x 16 c.loop-n.n (wide_of c.loop-n.w) _ c.loop-n.invariant
    c.times16-part.ensures
