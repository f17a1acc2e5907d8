-- A query in a round of a run: what is computed and found there are the two values of the round check, and all that
-- is read lies within the lists. Assumes nothing.
use mathlib.Core.Path.{◌≡◌, refl, sym, ap, ap₂, ◌∙◌, subst}
use mathlib.Core.Bool.{Bool, true, false, cond}
use mathlib.Core.List.{List}
use Prim.Native.Nat.{ℕ, suc, ◌+◌, ◌*◌, ◌-◌, ◌/◌, ◌^◌, ◌≤◌, ◌<◌}
use native.Mathlib.Nat.{le_trans, le_of_eq}
use native.Mathlib.Omega.{arith}
use lib.Dec.{ltb}
use lib.ListN.{length, get_or}
use borrow.Author.Tests.{ltb-true}
use Rattle.poly.specs.Carrier.{gf64}
use Rattle.poly.specs.Polynomial.{evaluate}
use Rattle.coset.proofs.Subspace.{cosets_of}
use Rattle.fold.specs.Fold.{coset_entries, fold_entry}
use Rattle.fold.specs.Theorems.{IsWord}
use Rattle.fold.proofs.Folding.{coset_within}
use Rattle.fri.specs.Layout.{dimension, layer_start, index_in}
use Rattle.fri.specs.Run.{Run, steps_in, rounds_in, step_in, challenge_in, layer_in}
use Rattle.fri.specs.Layers.{layer_basis, layer_offset, basis_in, offset_in}
use Rattle.fri.specs.Rounds.{value_computed, value_found}
use Rattle.fri.proofs.Layouts.{step_of_round, index_within}
use Rattle.fri.proofs.Cosets.{challenge_element, layer_steps_fit, fits_basis, length-layer_basis, layer_is_word}
use Rattle.layout.specs.declared.Parameters.{Parameters}
use Rattle.layer_cosets.proofs.NextLayers.{basis_next, offset_next}
use Rattle.round_checks.specs.Rounds.{query_point_at, next_query_point, value_folded}
use Rattle.round_checks.specs.Judging.{query_point_of, Checked, round_in}
use Rattle.round_checks.proofs.QueryPoints.{folded-entry, query_point_next, coset_inside}

-- the parameters of a run, as the code has them
abbrev pub parameters_of : (run : Run) → Parameters
parameters_of run = record { k = run.k; rate = run.rate; step = run.step }

-- where layer i begins in the store, and how many entries it has
abbrev pub start_in : (run : Run) (i : ℕ) → ℕ
start_in run i = layer_start run.k (steps_in run) i

abbrev pub size_in : (run : Run) (i : ℕ) → ℕ
size_in run i = 2 ^ dimension run.k (steps_in run) i

-- a query at index j: its index in layer i, which coset of the layer that is, and where that coset begins
abbrev pub index_of : (run : Run) (j i : ℕ) → ℕ
index_of run j i = index_in (steps_in run) j i

abbrev pub coset_index : (run : Run) (j i : ℕ) → ℕ
coset_index run j i = index_of run j i / 2 ^ run.step

abbrev pub coset_begin : (run : Run) (j i : ℕ) → ℕ
coset_begin run j i = coset_index run j i * 2 ^ run.step

pub query_point_first : (run : Run) (j : ℕ) → query_point_at run.offset run.basis j ≡ query_point_of run j 0
unfolding index_in layer_offset layer_basis
query_point_first run j = refl

-- a choice between two values, of which the first matters where the test holds
cond_same : (t : Bool) (a b other : ℕ) → (t ≡ true → a ≡ b) → cond t a other ≡ cond t b other
cond_same true a b other e = e refl
cond_same false a b other e = refl

module _ {run : Run} (ready : Checked run) where
  module _ (j i : ℕ) (hj : j < 2 ^ run.k) where
    pub index_inside : i ≤ rounds_in run → index_of run j i < size_in run i
    index_inside l = index_within run.k (steps_in run) (layer_steps_fit run ready.coset) j i l hj

    module _ (h : i < rounds_in run) where
      step_here : step_in run i ≡ run.step
      step_here = step_of_round run.k run.rate run.step i h

      fits : run.step ≤ length (basis_in run i)
      fits = omega (arith, step_here, fits_basis run ready.coset i h)

      size_of_layer : 2 ^ length (basis_in run i) ≡ size_in run i
      size_of_layer = ap (λ (n : ℕ). 2 ^ n) (length-layer_basis run ready.coset i)

      inside : index_of run j i < 2 ^ length (basis_in run i)
      inside = subst (λ (n : ℕ). index_of run j i < n) (sym size_of_layer) (index_inside (omega arith))

      is_word : IsWord (offset_in run i) (basis_in run i) (layer_in run i)
      is_word =
          layer_is_word run ready.coset ready.word_elements ready.store_elements ready.fit.word
          ready.fit.store i h

      pub length_layer : length (layer_in run i) ≡ size_in run i
      length_layer = is_word.count ∙ size_of_layer

      index_next : coset_index run j i ≡ index_of run j (suc i)
      unfolding index_in
      index_next = ap (λ (s : ℕ). index_of run j i / 2 ^ s) (sym step_here)

      -- the coset lies within the layer
      pub coset_ends : coset_begin run j i + 2 ^ run.step ≤ size_in run i
      coset_ends =
          le_trans
          (coset_within (coset_index run j i) (2 ^ (length (basis_in run i) - run.step)) (2 ^ run.step)
          (coset_inside run.step (offset_in run i) (basis_in run i) (layer_in run i) is_word fits (index_of run j i)
          inside))
          (le_of_eq (cosets_of run.step (length (basis_in run i)) fits ∙ size_of_layer))

      -- from layer to layer
      pub next-query-point : next_query_point run.step (round_in run i).elements (query_point_of run j i)
          ≡ query_point_of run j (suc i)
      next-query-point =
          query_point_next run.step (offset_in run i) (basis_in run i) (layer_in run i) is_word fits (index_of run j i)
          inside
          ∙ ap₂ (λ (o : ℕ) (b : List ℕ). query_point_at o b (coset_index run j i))
          (offset_next (parameters_of run) run.offset run.basis i h)
          (basis_next (parameters_of run) run.offset run.basis i h)
          ∙ ap (query_point_at (offset_in run (suc i)) (basis_in run (suc i))) index_next

      -- the value computed: whatever the list that has them, the entries of the coset give it
      pub computed_by : (part : List ℕ) → part ≡ coset_entries run.step (layer_in run i) (coset_index run j i)
          → value_folded run.step (round_in run i) (query_point_of run j i) part ≡ value_computed run j i
      unfolding value_computed
      computed_by part e =
          ap (value_folded run.step (round_in run i) (query_point_of run j i)) e
          ∙ folded-entry run.step (offset_in run i) (basis_in run i) (layer_in run i) is_word fits (index_of run j i)
          inside
          (challenge_in run i) (start_in run i)
          (challenge_element run ready.challenges_elements i)
          ∙ ap₂ (λ (s m : ℕ). fold_entry s (offset_in run i) (basis_in run i) (layer_in run i) (challenge_in run i) m)
          (sym step_here) index_next

      -- the value found: whatever gives the entry of the next layer where that is stored
      pub found_by : (entry : ℕ)
          → (suc i < rounds_in run → entry ≡ get_or (layer_in run (suc i)) (index_of run j (suc i)) 0)
          → cond (ltb (suc i) (rounds_in run)) entry (evaluate gf64 run.last (query_point_of run j (suc i)).point.0)
          ≡ value_found run j i
      unfolding value_found
      found_by entry e =
          cond_same (ltb (suc i) (rounds_in run)) entry (get_or (layer_in run (suc i)) (index_of run j (suc i)) 0)
          (evaluate gf64 run.last (query_point_of run j (suc i)).point.0)
          (λ t. e (ltb-true (suc i) (rounds_in run) t))
