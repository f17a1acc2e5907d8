-- `Parameters::layer_start` meets its contract. The loop's invariant: the start is that of layer `before`. Assumes
-- nothing.
use Rattle.layout.proofs.Sizes.{dimension_most, layer_small, start_few, start_of_first}
use Rattle.layout.specs.declared.Parameters.{Parameters}
use Rattle.layout.specs.Parameters.{steps_by, Valid}
use Rattle.fri.proofs.Layouts.{start_next}
use Rattle.fri.specs.Layout.{dimension, layer_start}
use Rattle.coset.proofs.Sizes.{size_shifted}
use native.Mathlib.Numerals.{add-one}
use Prim.Native.Nat.{ℕ, ◌+◌, ◌*◌, ◌%◌, ◌^◌, ◌≤◌}
use mathlib.Core.Path.{◌≡◌, sym, ap, ap₂, ◌∙◌}
use borrow.Author.Rules.{rules}
use native.Mathlib.Omega.{arith}
use Rattle.layout.proofs.Shape.layer_start.Goals as goal

-- the dimension of layer `before` is small
small : (p : Parameters) (v : Valid p) (before m : ℕ) → m ≡ dimension p.k (steps_by p) before → m ≤ 20
small p v before m e = omega (arith, e, dimension_most p v before)

-- and so is its size
size_is : (p : Parameters) (v : Valid p) (before m : ℕ) → m ≡ dimension p.k (steps_by p) before
    → 1 * 2 ^ m % 2 ^ 64 ≡ 2 ^ dimension p.k (steps_by p) before
size_is p v before m e = size_shifted m (omega (arith, small p v before m e)) ∙ ap (λ (n : ℕ). 2 ^ n) e

pub loop-before-init : goal.loop-before-init
loop-before-init c = start_of_first c.args.self.parameters.k (steps_by c.args.self.parameters)

pub overflow_shl-start : goal.overflow_shl-start
overflow_shl-start c =
    omega (
      arith,
      small c.args.self.parameters c.args.self.valid c.loop-before.before c.dimension.result c.dimension.ensures,
    )

pub overflow_add-start : goal.overflow_add-start
overflow_add-start c =
    let p = c.args.self.parameters in
    let l = c.loop-before in
    let size = size_is p c.args.self.valid l.before c.dimension.result c.dimension.ensures in
    let few = start_few p c.args.self.valid l.before (omega (arith, c.requires.1)) in
    omega (arith, size, layer_small p.k (steps_by p) l.before c.args.self.valid.k_most, l.invariant, few)

pub loop-before-preserved : goal.loop-before-preserved
loop-before-preserved c =
    let p = c.args.self.parameters in
    let l = c.loop-before in
    let size = size_is p c.args.self.valid l.before c.dimension.result c.dimension.ensures in
    ap₂ (λ (m n : ℕ). m + n) l.invariant size ∙ sym (start_next p.k (steps_by p) l.before (omega arith))
    ∙ ap (layer_start p.k (steps_by p)) (sym (add-one l.before))
