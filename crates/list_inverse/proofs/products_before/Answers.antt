-- `list_inverse::products_before` meets its contract. Assumes nothing.
use native.Mathlib.Omega.{arith}
use Rattle.poly.proofs.Entries.{entries_next}
use Rattle.list_inverse.specs.Products.{nonzero_product}
use Rattle.list_inverse.proofs.Products.{past_zero_next, past_nonzero_next}
use Rattle.list_inverse.proofs.Blocks.{product_start}
use Rattle.list_inverse.proofs.products_before.Goals as goal

pub loop-i-init : goal.loop-i-init
loop-i-init c = (product_start c.args.block.now, λ j h. absurd (omega arith))

pub loop-i-preserved : goal.loop-i-preserved
loop-i-preserved c =
    let l = c.loop-i in (
      grind (arith, past_zero_next, past_nonzero_next),
      entries_next 0 l.before (nonzero_product c.args.block.now) l.i l.product (omega arith) l.invariant.1 l.invariant.0,
    )
