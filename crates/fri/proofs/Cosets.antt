-- The cosets of the layers of a valid run, and its honest layers: words over these cosets,
-- joined in the store. Assumes nothing.
use mathlib.Core.Path.{◌≡◌, refl, sym, ap, ◌∙◌, subst}
use mathlib.Core.List.{List}
use Prim.Native.Nat.{ℕ, zero, suc, ◌+◌, ◌*◌, ◌-◌, ◌^◌, ◌≤◌, ◌<◌}
use native.Mathlib.Nat.{sub_right_comm}
use native.Mathlib.Omega.{arith}
use lib.ListN.{length, drop}
use Rattle.gf64.specs.Field.{IsElement}
use Rattle.poly.specs.Polynomial.{All}
use Rattle.poly.proofs.Entries.{all_get_d, all_take, all_drop}
use Rattle.coset.specs.Coset.{point}
use Rattle.coset.specs.Span.{Independent}
use Rattle.coset.specs.Subspace.{image}
use Rattle.coset.proofs.Subspace.{length-next_basis, next_basis-elements, next_offset-element}
use Rattle.coset.proofs.Subspace.{next_independent, image_of_coset, cosets_of}
use Rattle.reed_solomon.specs.Codes.{WordDegreeBelow}
use Rattle.fold.specs.Theorems.{IsWord}
use Rattle.fold.proofs.Folding.{length-folded, fold_is_word, fold_keeps_degree}
use Rattle.fri.specs.Layout.{step_at, dimension, layer_start, store_length, stored_layer}
use Rattle.fri.specs.Run.{Run, steps_in, rounds_in, challenge_in, layer_in, step_in}
use Rattle.fri.specs.Layers.{layer_basis, layer_offset, basis_in, offset_in, fold_of, honest_layer, honest_store, honest}
use Rattle.fri.specs.Layout.{joined_layers}
use Rattle.fri.specs.Demand.{ValidCoset, ProverInput, LowDegree}
use Rattle.fri.proofs.Layouts.{StepsFit, step_fits, length-stored_layer, joined_length, joined_found, some_round}

pub challenge_element : (run : Run) → All IsElement run.challenges → (i : ℕ) → IsElement (challenge_in run i)
challenge_element run h i = all_get_d IsElement run.challenges i 0 (omega arith) h

-- ---- the cosets

-- layer 0 has the coset that was sent
pub first_coset : (run : Run) → (offset_in run 0 ≡ run.offset) × (basis_in run 0 ≡ run.basis)
unfolding layer_offset layer_basis
first_coset run = (refl, refl)

-- point j of layer i + 1 is the image of the points of layer i from j · 2^step on, 2^step of them
pub layer_images : (run : Run) (i j t : ℕ) → IsElement (offset_in run i) → All IsElement (basis_in run i)
    → t < 2 ^ step_in run i
    → image (step_in run i) (basis_in run i) (point (offset_in run i) (basis_in run i) (j * 2 ^ step_in run i + t))
    ≡ point (offset_in run (suc i)) (basis_in run (suc i)) j
unfolding layer_basis layer_offset
layer_images run i j t ho hb h = image_of_coset (step_in run i) (offset_in run i) (basis_in run i) j t ho hb h

-- the bases of all layers have elements, and are independent where the first one is
pub layer_basis_all : (steps basis : List ℕ) → All IsElement basis → (i : ℕ) → All IsElement (layer_basis steps basis i)
unfolding layer_basis
layer_basis_all steps basis h zero = h
layer_basis_all steps basis h (suc i) =
    next_basis-elements (step_at steps i) (layer_basis steps basis i) (layer_basis_all steps basis h i)

pub next_layer_independent : (steps basis : List ℕ) (i : ℕ) → All IsElement basis
    → Independent (layer_basis steps basis i) → Independent (layer_basis steps basis (suc i))
unfolding layer_basis
next_layer_independent steps basis i h d =
    next_independent (step_at steps i) (layer_basis steps basis i) (layer_basis_all steps basis h i) d

pub later_independent : (steps basis : List ℕ) → All IsElement basis → Independent basis → (i : ℕ)
    → Independent (layer_basis steps basis i)
unfolding layer_basis
later_independent steps basis h d zero = d
later_independent steps basis h d (suc i) =
    next_layer_independent steps basis i h (later_independent steps basis h d i)

pub length_basis : (k : ℕ) (steps basis : List ℕ) → length basis ≡ k → (i : ℕ)
    → length (layer_basis steps basis i) ≡ dimension k steps i
unfolding layer_basis dimension
length_basis k steps basis e zero = e
length_basis k steps basis e (suc i) =
    length-next_basis (step_at steps i) (layer_basis steps basis i)
    ∙ ap (λ (n : ℕ). n - step_at steps i) (length_basis k steps basis e i)

module _ (run : Run) (v : ValidCoset run) where
  pub layer_step_fits : (i : ℕ) → i < rounds_in run → run.rate + step_in run i ≤ dimension run.k (steps_in run) i
  layer_step_fits i h =
      step_fits run.k run.rate run.step v.parameters.step_least
      (omega (arith, v.parameters.k_enough)) i h

  pub layer_steps_fit : StepsFit run.k (steps_in run)
  layer_steps_fit i h = omega (arith, layer_step_fits i h)

  pub some_rounds : 0 < rounds_in run
  some_rounds = some_round run.k run.rate run.step v.parameters.step_least v.parameters.k_enough

  pub first_fits : step_in run 0 ≤ run.k
  unfolding dimension
  first_fits = layer_steps_fit 0 some_rounds

  pub length-layer_basis : (i : ℕ) → length (basis_in run i) ≡ dimension run.k (steps_in run) i
  length-layer_basis = length_basis run.k (steps_in run) run.basis v.basis_count

  pub layer_basis-elements : (i : ℕ) → All IsElement (basis_in run i)
  layer_basis-elements = layer_basis_all (steps_in run) run.basis v.basis_elements

  pub layer_offset-element : (i : ℕ) → IsElement (offset_in run i)
  unfolding layer_offset
  layer_offset-element zero = v.offset_element
  layer_offset-element (suc i) =
      next_offset-element (step_in run i) (offset_in run i) (basis_in run i) (layer_offset-element i)

  pub layer_basis_independent : (i : ℕ) → Independent (basis_in run i)
  layer_basis_independent = later_independent (steps_in run) run.basis v.basis_elements v.independent

  -- whatever has as many elements as the layer is a word over its coset
  pub word_over : (i : ℕ) (entries : List ℕ) → All IsElement entries
      → length entries ≡ 2 ^ dimension run.k (steps_in run) i
      → IsWord (offset_in run i) (basis_in run i) entries
  word_over i entries e l =
      record {
        offset_element = layer_offset-element i;
        basis_elements = layer_basis-elements i;
        word_elements = e;
        independent = layer_basis_independent i;
        count = l ∙ ap (λ (n : ℕ). 2 ^ n) (sym (length-layer_basis i));
      }

  -- the step of round i is at most the dimension of its layer's basis
  pub fits_basis : (i : ℕ) → i < rounds_in run → run.rate + step_in run i ≤ length (basis_in run i)
  fits_basis i h = subst (λ (n : ℕ). run.rate + step_in run i ≤ n) (sym (length-layer_basis i)) (layer_step_fits i h)

  step_fits_basis : (i : ℕ) → i < rounds_in run → step_in run i ≤ length (basis_in run i)
  step_fits_basis i h = omega (arith, fits_basis i h)

  pub length-fold_of : (i : ℕ) (entries : List ℕ)
      → length (fold_of run i entries) ≡ 2 ^ dimension run.k (steps_in run) (suc i)
  unfolding fold_of dimension
  length-fold_of i entries =
      length-folded (step_in run i) (offset_in run i) (basis_in run i) entries (challenge_in run i)
      ∙ ap (λ (n : ℕ). 2 ^ (n - step_in run i)) (length-layer_basis i)

  -- ---- the layers as they were sent

  pub length_layer : length run.word ≡ 2 ^ run.k → length run.store ≡ store_length run.k (steps_in run)
      → (i : ℕ) → i < rounds_in run
      → length (layer_in run i) ≡ 2 ^ dimension run.k (steps_in run) i
  unfolding layer_in dimension
  length_layer lw ls zero h = lw
  length_layer lw ls (suc i) h = length-stored_layer run.k (steps_in run) run.store (suc i) (omega arith) h ls

  pub layer_elements : All IsElement run.word → All IsElement run.store → (i : ℕ) → All IsElement (layer_in run i)
  unfolding layer_in stored_layer
  layer_elements ew es zero = ew
  layer_elements ew es (suc i) =
      all_take IsElement (2 ^ dimension run.k (steps_in run) (suc i))
      (drop (layer_start run.k (steps_in run) (suc i)) run.store)
      (all_drop IsElement (layer_start run.k (steps_in run) (suc i)) run.store es)

  pub layer_is_word : All IsElement run.word → All IsElement run.store → length run.word ≡ 2 ^ run.k
      → length run.store ≡ store_length run.k (steps_in run) → (i : ℕ) → i < rounds_in run
      → IsWord (offset_in run i) (basis_in run i) (layer_in run i)
  layer_is_word ew es lw ls i h = word_over i (layer_in run i) (layer_elements ew es i) (length_layer lw ls i h)

  -- ---- the honest layers

  pub honest_is_word : ProverInput run → (i : ℕ) → i ≤ rounds_in run
      → IsWord (offset_in run i) (basis_in run i) (honest_layer run i)
  unfolding honest_layer layer_offset layer_basis fold_of dimension
  honest_is_word p zero h = word_over zero run.word p.word_elements p.word_count
  honest_is_word p (suc i) h =
      fold_is_word (step_in run i) (offset_in run i) (basis_in run i) (honest_layer run i)
      (honest_is_word p i (omega arith)) (step_fits_basis i h)
      (challenge_in run i) (challenge_element run p.challenges_elements i)

  pub length-honest : length run.word ≡ 2 ^ run.k → (i : ℕ)
      → length (honest_layer run i) ≡ 2 ^ dimension run.k (steps_in run) i
  unfolding honest_layer dimension
  length-honest l zero = l
  length-honest l (suc i) = length-fold_of i (honest_layer run i)

  -- folding keeps the rate
  rate_kept : (i : ℕ) → i < rounds_in run
      → 2 ^ (dimension run.k (steps_in run) (suc i) - run.rate) * 2 ^ step_in run i
      ≡ 2 ^ (dimension run.k (steps_in run) i - run.rate)
  unfolding dimension
  rate_kept i h =
      ap (λ (n : ℕ). 2 ^ n * 2 ^ step_in run i)
      (sub_right_comm (dimension run.k (steps_in run) i) (step_in run i) run.rate)
      ∙ cosets_of (step_in run i) (dimension run.k (steps_in run) i - run.rate) (omega (arith, layer_step_fits i h))

  pub honest_degree : ProverInput run → LowDegree run → (i : ℕ) → i ≤ rounds_in run
      → WordDegreeBelow (2 ^ (dimension run.k (steps_in run) i - run.rate)) (offset_in run i)
      (basis_in run i) (honest_layer run i)
  unfolding honest_layer layer_offset layer_basis fold_of dimension
  honest_degree p low zero h = low
  honest_degree p low (suc i) h =
      fold_keeps_degree (step_in run i) (offset_in run i) (basis_in run i) (honest_layer run i)
      (honest_is_word p i (omega arith)) (step_fits_basis i h)
      (2 ^ (dimension run.k (steps_in run) (suc i) - run.rate)) (challenge_in run i)
      (challenge_element run p.challenges_elements i)
      (subst (λ (n : ℕ). WordDegreeBelow n (offset_in run i) (basis_in run i) (honest_layer run i)) (sym (rate_kept i h))
      (honest_degree p low i (omega arith)))

  -- ---- the honest store

  pub length_joined : length run.word ≡ 2 ^ run.k → (n : ℕ)
      → length (joined_layers (honest_layer run) n) ≡ layer_start run.k (steps_in run) (suc n)
  length_joined l n = joined_length run.k (steps_in run) (honest_layer run) n (λ i least most. length-honest l i)

  pub length-honest_store : length run.word ≡ 2 ^ run.k
      → length (honest_store run) ≡ store_length run.k (steps_in run)
  unfolding honest_store store_length
  length-honest_store l =
      let whole : suc (rounds_in run - 1) ≡ rounds_in run = omega (arith, some_rounds) in
      length_joined l (rounds_in run - 1) ∙ ap (layer_start run.k (steps_in run)) whole

  -- the layers of the honest run are the honest layers
  pub honest_layers : length run.word ≡ 2 ^ run.k → (i : ℕ) → i < rounds_in run
      → layer_in (honest run) i ≡ honest_layer run i
  unfolding layer_in honest_layer honest_store
  honest_layers l zero h = refl
  honest_layers l (suc i) h =
      joined_found run.k (steps_in run) (honest_layer run) (rounds_in run - 1) (λ j least most. length-honest l j)
      (suc i) (omega arith) (omega arith)
