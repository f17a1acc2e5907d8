-- `list_inverse::divide_back` meets its contract. Assumes nothing.
use mathlib.Core.Path.{subst}
use mathlib.Core.List.{List}
use Prim.Native.Nat.{ℕ, suc, ◌-◌, ◌<◌}
use borrow.Author.Rules.{rules}
use native.Mathlib.Omega.{arith}
use Rattle.list_inverse.proofs.Blocks.{InvertedFrom, past_a_zero, past_an_element}
use Rattle.list_inverse.proofs.divide_back.Goals as goal

-- the element that is turned to
one_back : (elements : List ℕ) (n : ℕ) (block : List ℕ) (rest : ℕ) → 0 < n → InvertedFrom elements n block rest
    → InvertedFrom elements (suc (n - 1)) block rest
one_back elements n block rest h = subst (λ (m : ℕ). InvertedFrom elements m block rest) (omega arith)

pub loop-i-preserved-then-x-ne0 : goal.loop-i-preserved-then-x-ne0
loop-i-preserved-then-x-ne0 c =
    let l = c.loop-i in
    let block = c.args.block.now in
    past_an_element block (λ i. search rules) (l.i - 1) l.block l.rest
    (one_back block l.i l.block l.rest (omega arith) l.invariant)
    _ c.product.result c.product-rest.result (c.requires.1 (l.i - 1) (omega (arith, l.invariant.within)))
    c.product.ensures c.if-x-ne0.true c.product-rest.ensures

pub loop-i-preserved : goal.loop-i-preserved
loop-i-preserved c =
    let l = c.loop-i in
    let block = c.args.block.now in
    past_a_zero block (λ i. search rules) (l.i - 1) l.block l.rest
    (one_back block l.i l.block l.rest (omega arith) l.invariant) c.if-x-ne0.false
