-- An entry of a layer in the list that holds it: within it, and the entry there. Assumes nothing.
use mathlib.Core.Path.{◌≡◌, sym, ap, ◌∙◌}
use mathlib.Core.List.{List}
use Prim.Native.Nat.{ℕ, zero, suc, ◌+◌, ◌^◌, ◌≤◌, ◌<◌}
use native.Mathlib.Omega.{arith}
use lib.ListN.{length, get_or, drop}
use lib.Seq.{get_or-take, get_or-drop}
use Rattle.fri.specs.Layout.{dimension, layer_start, stored_layer, store_length}
use Rattle.fri.proofs.Layouts.{layer_before}
use Rattle.layout.specs.declared.Parameters.{Parameters}
use Rattle.layout.specs.Parameters.{steps_by}
use Rattle.layout.proofs.Sizes.{store_length_is}
use Rattle.round_checks.specs.Judging.{layer_of, EntryWithin}

module _ {p : Parameters} {i start index : ℕ} (w : EntryWithin p i start index) (word store : List ℕ) where
  pub in_word : i ≡ 0 → length word ≡ 2 ^ p.k → index < length word
  unfolding dimension
  in_word e fits =
      omega (arith, fits, w.inside, ap (λ (n : ℕ). 2 ^ dimension p.k (steps_by p) n) e)

  pub in_store : 1 ≤ i → length store ≡ store_length p.k (steps_by p) → start + index < length store
  in_store h fits =
      omega (
        arith,
        fits,
        w.inside,
        w.starts,
        store_length_is p.k (steps_by p),
        layer_before p.k (steps_by p) i (length (steps_by p)) h w.round,
      )

  pub of_word : i ≡ 0 → get_or word index 0 ≡ get_or (layer_of p word store i) index 0
  unfolding layer_of
  of_word e = ap (λ (n : ℕ). get_or (layer_of p word store n) index 0) (sym e)

stored_entry : (p : Parameters) (i : ℕ) (word store : List ℕ) (index : ℕ) → 1 ≤ i
    → index < 2 ^ dimension p.k (steps_by p) i
    → get_or store (layer_start p.k (steps_by p) i + index) 0 ≡ get_or (layer_of p word store i) index 0
unfolding layer_of stored_layer
stored_entry p zero word store index h inside = absurd (omega arith)
stored_entry p (suc i) word store index h inside =
    sym
    (get_or-take (2 ^ dimension p.k (steps_by p) (suc i)) (drop (layer_start p.k (steps_by p) (suc i)) store) index 0
    inside
    ∙ get_or-drop (layer_start p.k (steps_by p) (suc i)) store index 0)

pub of_store : {p : Parameters} {i start index : ℕ} → EntryWithin p i start index → (word store : List ℕ) → 1 ≤ i
    → get_or store (start + index) 0 ≡ get_or (layer_of p word store i) index 0
of_store {p} {i} {start} {index} w word store h =
    ap (λ (n : ℕ). get_or store (n + index) 0) w.starts ∙ stored_entry p i word store index h w.inside
