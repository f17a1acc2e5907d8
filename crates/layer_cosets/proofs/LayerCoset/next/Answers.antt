-- `LayerCoset::next` meets its contract. Assumes nothing.
use mathlib.Core.Path.{sym, ap, ap₂, ◌∙◌}
use Prim.Native.Nat.{◌<◌, ◌^◌}
use Rattle.coset.specs.Steps.{composed_maps}
use Rattle.coset.specs.Subspace.{next_basis}
use Rattle.coset.proofs.Subspace.{next_offset_through}
use Rattle.layer_cosets.specs.declared.LayerCoset.{LayerCoset}
use Rattle.layer_cosets.specs.Cosets.{layer_coset_of}
use borrow.Author.Rules.{rules}
use Rattle.layer_cosets.proofs.LayerCoset.next.Goals as goal

pub returns : goal.returns
returns c =
    let step = c.args.step in
    let same = c.as_slice-basis.ensures.list ∙ ap (λ (coset : LayerCoset). coset.basis) c.self.view_is in
    let offset = c.args.self.offset.0 in
    let offset_element : offset < 2 ^ 64 = search rules in
    ap₂ layer_coset_of
    (c.composed_maps.ensures
    ∙ ap₂ composed_maps (c.as_slice.ensures.list ∙ c.step_elements-elements.ensures)
    (ap (λ (coset : LayerCoset). coset.offset.0) c.self.view_is)
    ∙ sym (next_offset_through step offset c.args.self.basis offset_element))
    (c.next_basis.ensures ∙ ap (next_basis step) same)
