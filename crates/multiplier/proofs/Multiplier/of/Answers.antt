-- `multiplier::Multiplier::of` meets its contract. Assumes nothing.
use mathlib.Core.Path.{refl, sym}
use native.Mathlib.Omega.{arith}
use borrow.Author.Rules.{rules}
use Rattle.std.proofs.lemmas.Grind.{common_steps}
use Rattle.gf64.proofs.Ring.{product_one_r}
use Rattle.multiplier.proofs.Entries.{blocks_next, next_place, entry_one, all_blocks}
use Rattle.multiplier.proofs.Multiplier.of.Goals as goal

pub loop-n-init : goal.loop-n-init
loop-n-init c = (refl, sym (product_one_r c.args.c.0 (search rules)), λ i v h l. absurd (omega arith))

pub loop-n-preserved : goal.loop-n-preserved
loop-n-preserved c =
    let l = c.loop-n in (
      grind (arith, common_steps),
      next_place c.args.c.0 l.n l.b _ l.invariant.1 c.shifted-b.ensures,
      blocks_next c.args.c.0 l.n l.b l.entries c.fill_block.new.block l.invariant.1 (omega arith) (search rules)
          l.invariant.2 c.fill_block.ensures,
    )

pub invariant_of-result : goal.invariant_of-result
invariant_of-result c =
    all_blocks c.args.c.0 c.loop-n.entries c.loop-n.n (search rules) c.loop-n-test.false c.loop-n.invariant.2

pub returns : goal.returns
returns c = entry_one c.args.c.0 c.loop-n.entries c.loop-n.n (search rules) c.loop-n-test.false c.loop-n.invariant.2
