-- `carryless::plus_shifted` meets its contract: what the shift moves out of 64 bits goes to the high half.
-- Assumes nothing.
use mathlib.Core.Path.{ap, ◌∙◌}
use Prim.Native.Nat.{ℕ, ◌+◌, ◌*◌, ◌%◌, ◌^◌}
use lib.Bits.{bit_xor}
use borrow.Author.Rules.{rules}
use Rattle.carryless.proofs.WideSums.{wide_sum, shifted_out}
use Rattle.carryless.proofs.plus_shifted.Goals as goal

pub returns : goal.returns
returns c =
    let w = c.args.w in
    let a = c.args.a in
    let i = c.args.i in
    ap (λ (x : ℕ). bit_xor w.high x * 2 ^ 64 + bit_xor w.low (a * 2 ^ i % 2 ^ 64))
    (shifted_out a i c.requires)
    ∙ wide_sum w.high w.low (a * 2 ^ i) (search rules)
