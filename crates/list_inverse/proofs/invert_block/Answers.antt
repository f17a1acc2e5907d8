-- `list_inverse::invert_block` meets its contract: the product of the nonzero elements is not zero. Assumes nothing.
use mathlib.Core.Path.{sym, ◌∙◌}
use lib.ListN.{length}
use borrow.Author.Rules.{rules}
use Rattle.list_inverse.proofs.Products.{product_not_zero}
use Rattle.list_inverse.proofs.invert_block.Goals as goal

pub inverse_of_nonzero-rest-requires : goal.inverse_of_nonzero-rest-requires
inverse_of_nonzero-rest-requires c z =
    let block = c.args.block.now in
    product_not_zero block (λ i. search rules) (length block) (sym c.products_before-all.ensures.all ∙ z)
