-- The coset of a layer as the code has it.
use Rattle.std.specs.Prelude.{List, ℕ}
use Rattle.layer_cosets.specs.declared.LayerCoset.{LayerCoset}

-- that of an offset and a basis
abbrev pub layer_coset_of : (offset : ℕ) (basis : List ℕ) → LayerCoset
layer_coset_of offset basis = record { offset = record { 0 = offset }; basis = basis }
