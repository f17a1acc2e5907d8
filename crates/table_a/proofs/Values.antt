-- The values that the round checks of the table's runs compute, each an entry of a fold: by the line through two points
-- and by what an inverse is, so that no inverse is computed. Assumes nothing.
use mathlib.Core.Path.{◌≡◌, refl, sym, ap, ap₂, ◌∙◌}
use mathlib.Core.List.{List, [], ◌∷◌}
use Prim.Native.Nat.{ℕ, ◌/◌, ◌<◌}
use native.Mathlib.Omega.{arith}
use lib.Bits.{bit_xor}
use lib.ListN.{get_or}
use Rattle.gf64.specs.Field.{product, inverse}
use Rattle.gf64.specs.Polynomial.{carryless, carryless_in, remainder, remainder_in, times_t}
use Rattle.gf64.proofs.Inverse.{inverse_unique, inverse_right}
use Rattle.gf64.proofs.Ring.{product_one_r}
use Rattle.coset.specs.Coset.{point, points, tabulated}
use Rattle.coset.specs.Span.{in_span, first_dependent_after, first_dependent}
use Rattle.fold.specs.Fold.{folded}
use Rattle.fold.specs.Halving.{line_at, halved_entries}
use Rattle.fold.proofs.Lines.{halved-entries}
use Rattle.fold.proofs.Cases.{fold_cases}
use Rattle.fri.specs.Layout.{dimension, layer_start, stored_layer, index_in}
use Rattle.fri.specs.Run.{layer_in}
use Rattle.fri.specs.Layers.{layer_basis, layer_offset, fold_of}
use Rattle.fri.specs.Rounds.{value_computed}
use Rattle.fri.specs.Demand.{ValidCoset}
use Rattle.fri.proofs.Values.{computed_entry}
use Rattle.table_a.specs.TableA.{small, two_rounds}

-- ---- folds that `fold_cases` does not have

-- over a basis whose first element is 1 nothing is divided
inverse_of_one : 1 ≡ inverse 1
unfolding product carryless carryless_in remainder remainder_in times_t
inverse_of_one = inverse_unique 1 1 (omega arith) (omega arith) refl

-- case H: the word of case F with entry 3 made 3
h_fold : folded 1 0 (1 ∷ 2 ∷ []) (7 ∷ 4 ∷ 1 ∷ 3 ∷ []) 4 ≡ 0xb ∷ 0xd ∷ []
unfolding halved_entries line_at points tabulated point product carryless carryless_in remainder remainder_in times_t
h_fold =
    sym (halved-entries 0 1 (2 ∷ []) (7 ∷ 4 ∷ 1 ∷ 3 ∷ []) refl 4)
    ∙ ap (λ (i : ℕ). halved_entries i 2 (points 4 (1 ∷ 2 ∷ [])) (7 ∷ 4 ∷ 1 ∷ 3 ∷ [])) (sym inverse_of_one)

-- case L: entry 1 of layer 1's fold; the difference of its two entries is 6, which the inverse of 6 takes to 1
l_line : (i : ℕ) → product 6 i ≡ 1
    → get_or (halved_entries i 2 (points 3 (6 ∷ 0x14 ∷ [])) (3 ∷ 4 ∷ 0x16 ∷ 0x10 ∷ [])) 1 0 ≡ 1
unfolding halved_entries line_at points tabulated point
l_line i e = ap (λ (s : ℕ). bit_xor 0x16 (product 0x17 s)) e ∙ ap (bit_xor 0x16) (product_one_r 0x17 (omega arith))

l_fold : get_or (folded 1 0 (6 ∷ 0x14 ∷ []) (3 ∷ 4 ∷ 0x16 ∷ 0x10 ∷ []) 3) 1 0 ≡ 1
l_fold =
    ap (λ (l : List ℕ). get_or l 1 0) (sym (halved-entries 0 6 (0x14 ∷ []) (3 ∷ 4 ∷ 0x16 ∷ 0x10 ∷ []) refl 3))
    ∙ l_line (inverse 6) (inverse_right 6 (omega arith) (λ (e : ◌≡◌ {A = ℕ} 6 0). omega arith))

-- ---- one round: query j has index m of the fold

small_coset : (challenge : ℕ) (word last : List ℕ) → ValidCoset (small challenge word last)
unfolding in_span first_dependent_after first_dependent
small_coset challenge word last =
    record {
      parameters =
          record {
            k_least = omega arith;
            k_most = omega arith;
            rate_least = omega arith;
            rate_most = omega arith;
            step_least = omega arith;
            step_most = omega arith;
            k_enough = omega arith;
          };
      offset_element = omega arith;
      basis_elements = (omega arith, (omega arith, record {}));
      basis_count = refl;
      independent = refl;
    }

module _ (challenge : ℕ) (word last values : List ℕ) (fold : folded 1 0 (1 ∷ 2 ∷ []) word challenge ≡ values) where
  pub value : (j m : ℕ) → m < 2 → j / 2 ≡ m → value_computed (small challenge word last) j 0 ≡ get_or values m 0
  unfolding fold_of layer_in layer_basis layer_offset index_in dimension
  value j m l e =
      computed_entry (small challenge word last) (small_coset challenge word last) j 0 m l e
      ∙ ap (λ (v : List ℕ). get_or v m 0) fold

-- ---- two rounds

two_rounds_coset : (store last : List ℕ) → ValidCoset (two_rounds store last)
unfolding in_span first_dependent_after first_dependent
two_rounds_coset store last =
    record {
      parameters =
          record {
            k_least = omega arith;
            k_most = omega arith;
            rate_least = omega arith;
            rate_most = omega arith;
            step_least = omega arith;
            step_most = omega arith;
            k_enough = omega arith;
          };
      offset_element = omega arith;
      basis_elements = (omega arith, (omega arith, (omega arith, record {})));
      basis_count = refl;
      independent = refl;
    }

module _ (store last : List ℕ) where
  pub first_value : (j m : ℕ) → m < 4 → j / 2 ≡ m
      → value_computed (two_rounds store last) j 0 ≡ get_or (2 ∷ 4 ∷ 0x16 ∷ 0x10 ∷ []) m 0
  unfolding fold_of layer_in layer_basis layer_offset index_in dimension
  first_value j m l e =
      computed_entry (two_rounds store last) (two_rounds_coset store last) j 0 m l e
      ∙ ap (λ (v : List ℕ). get_or v m 0) fold_cases.k_layer

  -- the second round, by the fold over layer 1's coset
  pub second_value : (j m : ℕ) → m < 2 → j / 2 / 2 ≡ m
      → value_computed (two_rounds store last) j 1
      ≡ get_or (folded 1 0 (6 ∷ 0x14 ∷ []) (layer_in (two_rounds store last) 1) 3) m 0
  unfolding fold_of layer_basis layer_offset index_in dimension
  second_value j m l e =
      computed_entry (two_rounds store last) (two_rounds_coset store last) j 1 m l e
      ∙ ap₂ (λ (o : ℕ) (b : List ℕ). get_or (folded 1 o b (layer_in (two_rounds store last) 1) 3) m 0)
      fold_cases.k_offset fold_cases.k_basis

pub k_first : value_computed (two_rounds (2 ∷ 4 ∷ 0x16 ∷ 0x10 ∷ []) (1 ∷ [])) 5 0 ≡ 0x16
k_first = first_value (2 ∷ 4 ∷ 0x16 ∷ 0x10 ∷ []) (1 ∷ []) 5 2 (omega arith) refl

pub k_second : value_computed (two_rounds (2 ∷ 4 ∷ 0x16 ∷ 0x10 ∷ []) (1 ∷ [])) 5 1 ≡ 1
unfolding layer_in stored_layer layer_start dimension
k_second =
    second_value (2 ∷ 4 ∷ 0x16 ∷ 0x10 ∷ []) (1 ∷ []) 5 1 (omega arith) refl
    ∙ ap (λ (v : List ℕ). get_or v 1 0) fold_cases.k_last

pub l_second : value_computed (two_rounds (3 ∷ 4 ∷ 0x16 ∷ 0x10 ∷ []) (1 ∷ [])) 7 1 ≡ 1
unfolding layer_in stored_layer layer_start dimension
l_second = second_value (3 ∷ 4 ∷ 0x16 ∷ 0x10 ∷ []) (1 ∷ []) 7 1 (omega arith) refl ∙ l_fold

pub f_value : (last : List ℕ) (j m : ℕ) → m < 2 → j / 2 ≡ m
    → value_computed (small 4 (7 ∷ 4 ∷ 1 ∷ 2 ∷ []) last) j 0 ≡ get_or (0xb ∷ 0xb ∷ []) m 0
f_value last = value 4 (7 ∷ 4 ∷ 1 ∷ 2 ∷ []) last (0xb ∷ 0xb ∷ []) fold_cases.f

pub h_value : (last : List ℕ) (j m : ℕ) → m < 2 → j / 2 ≡ m
    → value_computed (small 4 (7 ∷ 4 ∷ 1 ∷ 3 ∷ []) last) j 0 ≡ get_or (0xb ∷ 0xd ∷ []) m 0
h_value last = value 4 (7 ∷ 4 ∷ 1 ∷ 3 ∷ []) last (0xb ∷ 0xd ∷ []) h_fold

pub j_value : (last : List ℕ) (j m : ℕ) → m < 2 → j / 2 ≡ m
    → value_computed (small 2 (0 ∷ 0 ∷ 0 ∷ 1 ∷ []) last) j 0 ≡ get_or (0 ∷ 0 ∷ []) m 0
j_value last = value 2 (0 ∷ 0 ∷ 0 ∷ 1 ∷ []) last (0 ∷ 0 ∷ []) fold_cases.j_at_2
