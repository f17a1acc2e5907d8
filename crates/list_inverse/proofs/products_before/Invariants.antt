-- `list_inverse::products_before`: the products before the places below i are written, and the next one is known.
use mathlib.Core.Path.{◌≡◌}
use Prim.Native.Nat.{ℕ, ◌<◌}
use lib.ListN.{get_or}
use Rattle.list_inverse.specs.Products.{nonzero_product}
use Rattle.list_inverse.proofs.products_before.Given as goal

abbrev pub invariant-loop-i : goal.invariant-loop-i
invariant-loop-i l =
    (l.product ≡ nonzero_product l.block l.i)
    × ((j : ℕ) → j < l.i → get_or l.before j 0 ≡ nonzero_product l.block j)
