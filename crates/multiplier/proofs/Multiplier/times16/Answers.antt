-- `multiplier::Multiplier::times16` meets its contract. Assumes nothing.
use mathlib.Core.Path.{ap, ap₂, ◌∙◌}
use Prim.Native.Nat.{ℕ, ◌*◌, ◌/◌, ◌%◌, ◌^◌}
use native.Mathlib.Nat.{mod-lt}
use native.Mathlib.Omega.{arith}
use lib.Pow.{pow_pos}
use lib.Bits.{bit_xor}
use Rattle.gf64.specs.Field.{product}
use Rattle.multiplier.proofs.Places.{no_bits, more_bits}
use Rattle.multiplier.proofs.Multiplier.times16.Goals as goal

pub loop-n-init : goal.loop-n-init
loop-n-init c = no_bits c.args.self.now c.args.x

pub loop-n-preserved : goal.loop-n-preserved
loop-n-preserved c =
    let x = c.args.x in
    let n = c.loop-n.n in
    let digit = x / 2 ^ (4 * n) % 2 ^ 4 in
    ap₂ bit_xor c.loop-n.invariant
    (c.self.invariant.at n digit (omega arith) (mod-lt (x / 2 ^ (4 * n)) (pow_pos 4))
    ∙ ap (λ (e : ℕ). product e (digit * 2 ^ (4 * n))) c.self.view_is)
    ∙ more_bits c.args.self.now x 4 n
