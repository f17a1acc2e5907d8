-- `carryless::Window::of` meets its contract: entry n comes from entry n / 2 by the step of the product. Assumes nothing.
use mathlib.Core.Path.{refl}
use Prim.Native.Nat.{◌/◌}
use native.Mathlib.Omega.{arith}
use lib.ListN.{replicate}
use borrow.Author.Rules.{rules}
use Rattle.carryless.proofs.Multiples.{first_multiple, next_multiple, half_multiple_lt, entry_one, all_multiples}
use Rattle.carryless.proofs.Window.of.Goals as goal

pub loop-n-init : goal.loop-n-init
loop-n-init c = (refl, first_multiple c.args.a (replicate 16 0) refl)

pub multiple-requires : goal.multiple-requires
multiple-requires c =
    half_multiple_lt _ _ _ c.requires (omega arith) (c.loop-n.invariant.1 (c.loop-n.n / 2) (omega arith))

pub loop-n-preserved : goal.loop-n-preserved
loop-n-preserved c = (
  search rules,
  next_multiple c.args.a c.loop-n.entries c.loop-n.n _ (omega arith) (omega arith) c.loop-n.invariant.1 c.multiple.ensures,
)

pub invariant_of-result : goal.invariant_of-result
invariant_of-result c =
    all_multiples c.args.a c.loop-n.entries c.loop-n.n c.requires c.loop-n-test.false c.loop-n.invariant.1

pub returns : goal.returns
returns c = entry_one c.args.a c.loop-n.entries c.loop-n.n (omega arith) c.loop-n.invariant.1
