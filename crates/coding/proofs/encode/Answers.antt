-- There are at most 2^20 coefficients. Assumes nothing.
use lib.ListN.{length}
use native.Mathlib.Omega.{arith}
use Rattle.std.proofs.lemmas.Grind.{common_steps}
use Rattle.coding.proofs.Used.{within_20}
use Rattle.coding.proofs.encode.Goals as goal

pub dimension_of-used-requires : goal.dimension_of-used-requires
dimension_of-used-requires c =
    within_20 (length c.args.basis.now) (length c.args.coefficients.now) (grind (arith, common_steps))
    (grind (arith, common_steps))
