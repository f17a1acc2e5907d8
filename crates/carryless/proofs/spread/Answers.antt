-- `carryless::spread` meets its contract: its moves square each power of t, which is computed, with the masks of the
-- code. Assumes nothing.
use mathlib.Core.List.{[], ◌∷◌}
use Rattle.gf64.specs.Polynomial.{carryless, carryless_in}
use Rattle.gf64.proofs.Additive.{agree_on}
use Rattle.carryless.proofs.Squares.{moved_square}
use Rattle.carryless.proofs.spread.Goals as goal

pub returns : goal.returns
unfolding agree_on carryless carryless_in
returns c = moved_square ((16, _) ∷ (8, _) ∷ (4, _) ∷ (2, _) ∷ (1, _) ∷ []) c.args.a c.requires tt
