-- The layout of document 01's parameters, the cosets of the layers and the honest layers. Assumes nothing.
use mathlib.Core.Path.{◌≡◌, refl, sym, ap, ◌∙◌, subst}
use mathlib.Core.Logic.{◌⊎◌, inl, inr}
use mathlib.Core.List.{List}
use Prim.Native.Nat.{ℕ, zero, suc, ◌+◌, ◌*◌, ◌-◌, ◌^◌, ◌≤◌, ◌<◌}
use native.Mathlib.Nat.{lt-div-mul-add}
use native.Mathlib.Omega.{arith}
use lib.Pow.{pow_mono}
use lib.ListN.{length, get_or, take}
use Rattle.reed_solomon.specs.Codes.{interpolated}
use Rattle.fold.specs.Fold.{folded}
use Rattle.coset.specs.Coset.{point}
use Rattle.coset.specs.Subspace.{image}
use Rattle.fri.specs.Layout.{rounds_of, steps_of, dimension, last_count, layer_start, store_length}
use Rattle.fri.specs.Run.{Run, steps_in, rounds_in, step_in, challenge_in}
use Rattle.fri.specs.Layers.{basis_in, offset_in, fold_of, honest_layer, last_interpolant, honest_last}
use Rattle.fri.specs.Demand.{ValidParameters, ValidCoset}
use Rattle.fri.specs.Theorems.{Layouts, LayerCosets, HonestLayers}
use Rattle.fri.proofs.Layouts as laws
use Rattle.fri.proofs.Cosets.{first_coset, layer_images, length-layer_basis, layer_basis-elements}
use Rattle.fri.proofs.Cosets.{layer_offset-element, layer_basis_independent, length-honest_store}
use Rattle.fri.proofs.Cosets.{next_layer_independent, later_independent}
use Rattle.fri.proofs.Completeness.{length-honest_last, honest_store-elements, honest_last-elements}

-- ---- layout

pub counted : (k rate step i : ℕ) → i ≤ rounds_of k rate step → i ≤ length (steps_of k rate step)
counted k rate step i h = subst (λ (n : ℕ). i ≤ n) (sym (laws.length_steps k rate step)) h

-- the rounds leave less than R + η
rounds_leave : (k rate step : ℕ) → 1 ≤ step → k - rate < rounds_of k rate step * step + step
rounds_leave k rate step h = lt-div-mul-add {a = k - rate} {b = step} h

few_points : (k rate step : ℕ) → ValidParameters k rate step
    → 2 ^ dimension k (steps_of k rate step) (rounds_of k rate step) ≤ 256
few_points k rate step v =
    let few : dimension k (steps_of k rate step) (rounds_of k rate step) ≤ 8 =
    omega (
      arith,
      laws.dimension_of_layer k rate step (rounds_of k rate step)
          (counted k rate step (rounds_of k rate step) (omega arith)),
      rounds_leave k rate step v.step_least,
      v.rate_most,
      v.step_most,
    )
    in
    pow_mono {i = dimension k (steps_of k rate step) (rounds_of k rate step)} {j = 8} few

few_powers : (e d : ℕ) → e ≤ 2 → d ≡ 2 ^ e → (d ≡ 1) ⊎ (d ≡ 2) ⊎ (d ≡ 4)
few_powers zero d h s = inl s
few_powers (suc zero) d h s = inr (inl s)
few_powers (suc (suc zero)) d h s = inr (inr s)
few_powers (suc (suc (suc e))) d h s = absurd (omega arith)

few_coefficients : (k rate step : ℕ) → ValidParameters k rate step
    → (last_count k rate (steps_of k rate step) ≡ 1) ⊎ (last_count k rate (steps_of k rate step) ≡ 2)
    ⊎ (last_count k rate (steps_of k rate step) ≡ 4)
few_coefficients k rate step v =
    few_powers (k - rate - rounds_of k rate step * step) (last_count k rate (steps_of k rate step))
    (omega (arith, rounds_leave k rate step v.step_least, v.step_most)) (laws.last-count k rate step)

first_start : (k rate step : ℕ) → layer_start k (steps_of k rate step) 1 ≡ 0
unfolding layer_start
first_start k rate step = refl

store_end : (k rate step : ℕ)
    → store_length k (steps_of k rate step) ≡ layer_start k (steps_of k rate step) (rounds_of k rate step)
unfolding store_length
store_end k rate step = ap (layer_start k (steps_of k rate step)) (laws.length_steps k rate step)

empty_store : (k rate step : ℕ) → rounds_of k rate step ≡ 1 → store_length k (steps_of k rate step) ≡ 0
empty_store k rate step e = store_end k rate step ∙ ap (layer_start k (steps_of k rate step)) e ∙ first_start k rate step

pub layouts : Layouts
layouts =
    record {
      rounds = laws.length_steps;
      steps = λ k rate step i h. laws.step_of_round k rate step i (counted k rate step (suc i) h);
      dimensions = λ k rate step i h. laws.dimension_of_layer k rate step i (counted k rate step i h);
      last-count = laws.last-count;
      some_round = λ k rate step v.
          subst (λ (n : ℕ). 1 ≤ n) (laws.length_steps k rate step)
          (laws.some_round k rate step v.step_least v.k_enough);
      few_points = few_points;
      few_coefficients = few_coefficients;
      first_start = first_start;
      next_start = λ k rate step i l h.
          laws.start_next k (steps_of k rate step) i l
          ∙ ap (λ (n : ℕ). layer_start k (steps_of k rate step) i + 2 ^ n)
          (laws.dimension_of_layer k rate step i (counted k rate step i (omega arith)));
      store_end = store_end;
      empty_store = empty_store;
      indices = λ k rate step j i h. laws.index_of_layer k rate step j i (counted k rate step i h);
    }

-- ---- the cosets of the layers

layer_points : (run : Run) (i j t : ℕ) → ValidCoset run → i < rounds_in run → t < 2 ^ run.step
    → image run.step (basis_in run i) (point (offset_in run i) (basis_in run i) (j * 2 ^ run.step + t))
    ≡ point (offset_in run (suc i)) (basis_in run (suc i)) j
layer_points run i j t v h l =
    let same : step_in run i ≡ run.step = laws.step_of_round run.k run.rate run.step i h in
    subst
    (λ (s : ℕ). image s (basis_in run i) (point (offset_in run i) (basis_in run i) (j * 2 ^ s + t))
    ≡ point (offset_in run (suc i)) (basis_in run (suc i)) j) same
    (layer_images run i j t (layer_offset-element run v i) (layer_basis-elements run v i)
    (subst (λ (s : ℕ). t < 2 ^ s) (sym same) l))

pub layer_cosets : LayerCosets
layer_cosets =
    record {
      first = first_coset;
      dimensions = λ run i v h.
          length-layer_basis run v i ∙ laws.dimension_of_layer run.k run.rate run.step i h;
      independent = λ run i v. layer_basis_independent run v i;
      next_independent = next_layer_independent;
      all_independent = λ steps basis i h d. later_independent steps basis h d i;
      points = layer_points;
    }

-- ---- the honest layers

folds : (run : Run) (i : ℕ) (entries : List ℕ) → i < rounds_in run
    → fold_of run i entries ≡ folded run.step (offset_in run i) (basis_in run i) entries (get_or run.challenges i 0)
unfolding fold_of
folds run i entries h =
    ap (λ (s : ℕ). folded s (offset_in run i) (basis_in run i) entries (challenge_in run i))
    (laws.step_of_round run.k run.rate run.step i h)

honest_first : (run : Run) → honest_layer run 0 ≡ run.word
unfolding honest_layer
honest_first run = refl

honest_next : (run : Run) (i : ℕ) → honest_layer run (suc i) ≡ fold_of run i (honest_layer run i)
unfolding honest_layer
honest_next run i = refl

honest-interpolant : (run : Run)
    → last_interpolant run
    ≡ interpolated (offset_in run (rounds_in run)) (basis_in run (rounds_in run)) (honest_layer run (rounds_in run))
unfolding last_interpolant
honest-interpolant run = refl

honest-last : (run : Run) → honest_last run ≡ take (last_count run.k run.rate (steps_in run)) (last_interpolant run)
unfolding honest_last
honest-last run = refl

pub honest_run : HonestLayers
honest_run =
    record {
      folds = folds;
      word = honest_first;
      next = honest_next;
      interpolant = honest-interpolant;
      last = honest-last;
      counts = λ run v p. (length-honest_store run v p.word_count, length-honest_last run v p);
      elements = λ run v p. (honest_store-elements run v p, honest_last-elements run v p);
    }
