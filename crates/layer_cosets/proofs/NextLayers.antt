-- From one layer's coset to the next. Assumes nothing.
use mathlib.Core.Path.{◌≡◌, refl, sym, ap, ◌∙◌}
use mathlib.Core.List.{List}
use Prim.Native.Nat.{ℕ, suc, ◌<◌}
use lib.ListN.{length}
use Rattle.coset.specs.Subspace.{next_offset, next_basis}
use Rattle.fri.specs.Layers.{layer_basis, layer_offset}
use Rattle.fri.proofs.Layouts.{step_of_round}
use Rattle.layout.specs.declared.Parameters.{Parameters}
use Rattle.layout.specs.Parameters.{steps_by}
use Rattle.layer_cosets.specs.declared.LayerCoset.{LayerCoset}
use Rattle.layer_cosets.specs.Cosets.{layer_coset_of}

pub basis_first : (steps basis : List ℕ) → basis ≡ layer_basis steps basis 0
unfolding layer_basis
basis_first steps basis = refl

pub offset_first : (steps : List ℕ) (offset : ℕ) (basis : List ℕ) → offset ≡ layer_offset steps offset basis 0
unfolding layer_offset
offset_first steps offset basis = refl

-- from one layer's coset to the next, where all steps are alike
module _ (p : Parameters) (offset : ℕ) (basis : List ℕ) (i : ℕ) (h : i < length (steps_by p)) where
  pub basis_next : next_basis p.step (layer_basis (steps_by p) basis i) ≡ layer_basis (steps_by p) basis (suc i)
  unfolding layer_basis
  basis_next =
      ap (λ (s : ℕ). next_basis s (layer_basis (steps_by p) basis i)) (sym (step_of_round p.k p.rate p.step i h))

  pub offset_next : next_offset p.step (layer_offset (steps_by p) offset basis i) (layer_basis (steps_by p) basis i)
      ≡ layer_offset (steps_by p) offset basis (suc i)
  unfolding layer_offset
  offset_next =
      ap (λ (s : ℕ). next_offset s (layer_offset (steps_by p) offset basis i) (layer_basis (steps_by p) basis i))
      (sym (step_of_round p.k p.rate p.step i h))

-- a coset by value that has layer i's basis is followed by one that has the next layer's
pub coset_next : (p : Parameters) (basis : List ℕ) (i : ℕ) (coset next : LayerCoset) → i < length (steps_by p)
    → coset.basis ≡ layer_basis (steps_by p) basis i
    → next ≡ layer_coset_of (next_offset p.step coset.offset.0 coset.basis) (next_basis p.step coset.basis)
    → next.basis ≡ layer_basis (steps_by p) basis (suc i)
coset_next p basis i coset next h e n =
    ap (λ (c : LayerCoset). c.basis) n ∙ ap (next_basis p.step) e ∙ basis_next p 0 basis i h
