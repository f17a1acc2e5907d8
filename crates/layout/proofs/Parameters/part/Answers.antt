-- `Parameters::part` meets its contract. Assumes nothing.
use mathlib.Core.Path.{◌≡◌, sym, ap, ap₂, ◌∙◌, subst}
use Prim.Native.Nat.{ℕ, ◌^◌, ◌≤◌, ◌<◌}
use native.Mathlib.Omega.{arith}
use lib.ListN.{length}
use Rattle.coset.proofs.Sizes.{size_shifted}
use Rattle.fri.specs.Layout.{dimension, layer_start}
use Rattle.layout.specs.declared.Parameters.{Parameters}
use Rattle.layout.specs.declared.Part.{Part}
use Rattle.layout.specs.Parameters.{steps_by}
use Rattle.layout.specs.Lengths.{lengths_due}
use Rattle.layout.proofs.Parts.{found, part_found}
use Rattle.layout.proofs.Sizes.{dimension_most}
use Rattle.layout.proofs.Parameters.part.Goals as goal

pub overflow_shl-result : goal.overflow_shl-result
overflow_shl-result c =
    let shape = c.in-Ok.shape in
    omega (arith, c.dimension.ensures, dimension_most shape.parameters shape.valid c.args.i)

pub returns-in-Ok : goal.returns-in-Ok
returns-in-Ok c =
    let a = c.args in
    let shape = c.in-Ok.shape in
    let same = c.in-Ok.ensures.shape in
    let small : c.dimension.result < 64 =
    omega (arith, c.dimension.ensures, dimension_most shape.parameters shape.valid a.i)
    in
    ap₂ (λ (m n : ℕ). record { start = m; length = n }) c.layer_start.ensures
    (size_shifted c.dimension.result small ∙ ap (λ (n : ℕ). 2 ^ n) c.dimension.ensures)
    ∙ ap (λ (p : Parameters). found p a.store_length a.i) same
    ∙ part_found a.self a.store_length a.i (sym c.in-Ok.ensures.outcome) c.if-i-ge1.true
    (subst (λ (p : Parameters). a.i < length (steps_by p)) same (omega (arith, c.if-i-rounds.true, c.rounds.ensures)))
    (c.if-store_length-lengths.true ∙ ap (λ (l : Rattle.layout.specs.declared.Lengths.Lengths). l.store) c.lengths.ensures
    ∙ ap (λ (p : Parameters). (lengths_due p).store) same)
