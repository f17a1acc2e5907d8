-- The list is copied, and what is behind it is cleared. Assumes nothing.
use mathlib.Core.Path.{◌≡◌, ◌∙◌}
use Prim.Native.Nat.{◌-◌}
use native.Mathlib.Omega.{arith}
use borrow.Author.Rules.{rules}
use lib.ListN.{length}
use Rattle.poly.specs.Polynomial.{padded}
use Rattle.poly.proofs.Filling.{front_whole}
use Rattle.coding.proofs.fill.Goals as goal

pub returns : goal.returns
unfolding padded
returns c =
    let from = c.args.from.now in
    let front = c.split_at_mut-front.result.0.now in
    let copied : c.copy.new.to ≡ from =
    c.copy.ensures ∙ front_whole from front (omega (arith, c.split_at_mut-front.ensures.front_len)) in
    let behind : length c.split_at_mut-front.result.1.now ≡ length c.args.to.now - length c.args.from.now =
    omega (arith, c.split_at_mut-front.ensures.back_len) in
    let zeros = c.fill.ensures.after (λ y e. search rules) in
    cc
