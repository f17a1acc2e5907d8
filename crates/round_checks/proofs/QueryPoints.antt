-- A coset that is met at one of its indices: its first point, its fold, and the point of the next layer. Assumes
-- nothing.
use mathlib.Core.Path.{◌≡◌, refl, sym, ap, ap₂, ◌∙◌, subst}
use mathlib.Core.List.{List, map}
use Prim.Native.Nat.{ℕ, ◌-◌, ◌/◌, ◌%◌, ◌^◌, ◌≤◌, ◌<◌}
use native.Mathlib.Nat.{mod-lt, div-add-mod', div-lt_iff_lt-mul}
use lib.Pow.{pow_pos}
use lib.ListN.{length, get_or, take, drop, length-map}
use lib.Seq.{length-take-le}
use lib.Bits.{bit_xor, xor_self, xor_zero_r}
use Rattle.gf64.specs.Field.{IsElement, sum, inverse}
use Rattle.gf64.proofs.Xor.{xor_assoc}
use Rattle.poly.specs.Carrier.{gf64}
use Rattle.poly.specs.Polynomial.{padded}
use Rattle.poly.proofs.Filling.{get_or-padded, padded_taken}
use Rattle.coset.specs.Coset.{point, points}
use Rattle.coset.specs.Subspace.{image, next_offset, next_basis}
use Rattle.coset.specs.Steps.{composed_maps, step_elements}
use Rattle.coset.proofs.Points.{point_parted, point-element, get_or-points}
use Rattle.coset.proofs.Dependence.{point_shifted}
use Rattle.coset.proofs.Steps.{image_through, length-elements}
use Rattle.coset.proofs.Subspace.{elements_taken, image_of_coset, cosets_of}
use Rattle.fold.specs.Fold.{coset_entries, fold_entry}
use Rattle.fold.specs.Halving.{value_at}
use Rattle.fold.specs.Theorems.{IsWord}
use Rattle.fold.proofs.AllCosets.{length_span, entry_of_moved}
use Rattle.round_checks.specs.declared.QueryPoint.{QueryPoint}
use Rattle.round_checks.specs.Rounds.{round_over, query_point_at, next_query_point, value_folded}

-- a + b + b is a
sum_back : (a b : ℕ) → sum (sum a b) b ≡ a
sum_back a b = xor_assoc a b b ∙ ap (bit_xor a) (xor_self b) ∙ xor_zero_r a

module _ (step offset : ℕ) (basis word : List ℕ) (w : IsWord offset basis word) (fits : step ≤ length basis)
    (index : ℕ) (inside : index < 2 ^ length basis) where
  abbrev coset : ℕ
  coset = index / 2 ^ step

  abbrev between : ℕ
  between = index % 2 ^ step

  abbrev span : List ℕ
  span = points 0 (take step basis)

  between_small : between < 2 ^ step
  between_small = mod-lt index (pow_pos step)

  pub coset_inside : coset < 2 ^ (length basis - step)
  coset_inside =
      (div-lt_iff_lt-mul {k = 2 ^ step} {x = index} {y = 2 ^ (length basis - step)} (pow_pos step)).1
      (subst (λ (n : ℕ). index < n) (sym (cosets_of step (length basis) fits)) inside)

  span_at : get_or (padded gf64 8 span) between 0 ≡ point 0 (take step basis) between
  span_at =
      get_or-padded 8 span between
      ∙ get_or-points 0 (take step basis) between
      (subst (λ (n : ℕ). between < 2 ^ n) (sym (length-take-le step basis fits)) between_small)

  -- the coset's first point is the point at the index plus the span's element between the two
  first_point : sum (point offset basis index) (get_or (padded gf64 8 span) between 0)
      ≡ point offset (drop step basis) coset
  first_point =
      ap₂ sum
      (ap (point offset basis) (sym (div-add-mod' index (2 ^ step)))
      ∙ point_parted step offset basis coset between between_small fits
      ∙ point_shifted (point offset (drop step basis) coset) (take step basis) between)
      span_at
      ∙ sum_back (point offset (drop step basis) coset) (point 0 (take step basis) between)

  -- what is computed is the entry of the fold
  pub folded-entry : (x start : ℕ) → IsElement x
      → value_folded step (round_over step basis x start) (query_point_at offset basis index)
      (coset_entries step word coset) ≡ fold_entry step offset basis word x coset
  folded-entry x start hx =
      ap₂ (λ (is ps : List ℕ).
      value_at is (map (sum (sum x (sum (point offset basis index) (get_or (padded gf64 8 span) between 0)))) ps)
      (coset_entries step word coset))
      (padded_taken 3 step (map inverse (step_elements step basis))
      (padded gf64 3 (map inverse (step_elements step basis))) refl
      (length-map (step_elements step basis) inverse ∙ length-elements step basis fits))
      (padded_taken 8 (2 ^ step) span (padded gf64 8 span) refl (length_span step basis fits))
      ∙ ap (λ (p : ℕ). value_at (map inverse (step_elements step basis)) (map (sum (sum x p)) span)
      (coset_entries step word coset)) first_point
      ∙ entry_of_moved step offset basis word x w hx fits coset coset_inside

  pub query_point_next : next_query_point step (padded gf64 3 (step_elements step basis)) (query_point_at offset basis index)
      ≡ query_point_at (next_offset step offset basis) (next_basis step basis) coset
  query_point_next =
      ap {B = QueryPoint} (λ (p : ℕ). record { index = coset; point = record { 0 = p } })
      (ap (λ (es : List ℕ). composed_maps es (point offset basis index))
      (elements_taken step basis (padded gf64 3 (step_elements step basis)) fits refl)
      ∙ sym
      (image_through step basis (point offset basis index)
      (point-element offset basis index w.offset_element w.basis_elements))
      ∙ ap (λ (n : ℕ). image step basis (point offset basis n)) (sym (div-add-mod' index (2 ^ step)))
      ∙ image_of_coset step offset basis coset between w.offset_element w.basis_elements between_small)
