-- `LayerCoset::step_elements` meets its contract. Assumes nothing.
use mathlib.Core.Path.{ap, ◌∙◌}
use mathlib.Core.List.{List}
use Prim.Native.Nat.{ℕ}
use Rattle.poly.specs.Carrier.{gf64}
use Rattle.poly.specs.Polynomial.{padded}
use Rattle.coset.specs.Steps.{step_elements}
use Rattle.coset.proofs.Subspace.{elements_taken}
use Rattle.layer_cosets.specs.declared.LayerCoset.{LayerCoset}
use Rattle.layer_cosets.proofs.LayerCoset.step_elements.Goals as goal

pub returns : goal.returns
returns c =
    let step = c.args.step in
    c.front.ensures
    ∙ elements_taken step c.args.self.now.basis c.step_elements.result c.requires.1
    (c.step_elements.ensures
    ∙ ap (λ (b : List ℕ). padded gf64 3 (step_elements step b))
    (c.as_slice.ensures.list ∙ ap (λ (coset : LayerCoset). coset.basis) c.self.view_is))
