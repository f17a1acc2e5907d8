-- How many bytes a transcript has. Assumes nothing.
use mathlib.Core.Path.{◌≡◌, refl, sym, ap, ◌∙◌}
use mathlib.Core.List.{List, [], ◌∷◌}
use Prim.Native.Nat.{ℕ, zero, suc, ◌+◌, ◌*◌, ◌^◌, ◌≤◌, ◌<◌}
use native.Mathlib.Nat.{add-zero}
use native.Mathlib.Omega.{arith}
use lib.ListN.{length, length-append}
use Rattle.fri.specs.Layout.{dimension, last_count, layer_start, store_length}
use Rattle.fri.specs.Run.{Run, steps_in, rounds_in, layer_in}
use Rattle.fri.specs.Demand.{ValidParameters}
use Rattle.fri.specs.Theorems.{Fit}
use Rattle.fri.proofs.Layouts.{some_round, start_next, length-stored_layer}
use Rattle.written.specs.Bytes.{section_bytes, sections_bytes}
use Rattle.written.specs.Transcript.{layers_then_last, transcript_of, transcript_length}
use Rattle.written.proofs.Bytes.{length-section_bytes}

-- one section more
pub length_sections : (entries : List ℕ) (lists : List (List ℕ))
    → length (sections_bytes (entries ∷ lists)) ≡ 4 + 8 * length entries + length (sections_bytes lists)
unfolding sections_bytes
length_sections entries lists =
    omega (arith, length-append (section_bytes entries) (sections_bytes lists), length-section_bytes entries)

length_none : length (sections_bytes []) ≡ 0
unfolding sections_bytes
length_none = refl

module _ (run : Run) (valid : ValidParameters run.k run.rate run.step) (fits : Fit run) where
  abbrev steps : List ℕ
  steps = steps_in run

  abbrev last : ℕ
  last = last_count run.k run.rate steps

  pub layer_length : (i : ℕ) → i < rounds_in run → length (layer_in run i) ≡ 2 ^ dimension run.k steps i
  unfolding layer_in dimension
  layer_length zero h = fits.word
  layer_length (suc i) h = length-stored_layer run.k steps run.store (suc i) (omega arith) h fits.store

  -- layers of the store from layer i on, and the last coefficients
  stored_size : (i left : ℕ) → 1 ≤ i → i + left ≡ rounds_in run
      → length (sections_bytes (layers_then_last run i left)) + 8 * layer_start run.k steps i
      ≡ 4 * (1 + left) + 8 * (store_length run.k steps + last)
  unfolding layers_then_last store_length
  stored_size i zero l e =
      let ends : layer_start run.k steps i ≡ layer_start run.k steps (rounds_in run) =
      ap (layer_start run.k steps) (sym (add-zero i) ∙ e) in
      omega (arith, ends, length_sections run.last [], length_none, fits.last)
  stored_size i (suc left) l e =
      omega (
        arith,
        length_sections (layer_in run i) (layers_then_last run (suc i) left),
        layer_length i (omega arith),
        start_next run.k steps i l,
        stored_size (suc i) left (omega arith) (omega arith),
      )

  first_start : layer_start run.k steps 1 ≡ 0
  unfolding layer_start
  first_start = refl

  layers_size : (n : ℕ) → n ≡ rounds_in run → 1 ≤ n
      → length (sections_bytes (layers_then_last run 0 n))
      ≡ 4 * (1 + n) + 8 * (2 ^ run.k + store_length run.k steps + last)
  unfolding layers_then_last layer_in
  layers_size zero e l = absurd (omega arith)
  layers_size (suc m) e l =
      omega (
        arith,
        length_sections (layer_in run 0) (layers_then_last run 1 m),
        fits.word,
        first_start,
        stored_size 1 m (omega arith) (omega arith),
      )

  pub transcript_size : (queries : List ℕ)
      → length (transcript_of run queries) ≡ transcript_length run.k run.rate steps (length queries)
  unfolding transcript_of
  transcript_size queries =
      let r : ℕ = rounds_in run in
      let some : 1 ≤ r = some_round run.k run.rate run.step valid.step_least valid.k_enough in
      let layers : List (List ℕ) = layers_then_last run 0 r in
      omega (
        arith,
        length_sections (run.k ∷ run.rate ∷ run.step ∷ [])
            ((run.offset ∷ run.basis) ∷ run.challenges ∷ queries ∷ layers),
        length_sections (run.offset ∷ run.basis) (run.challenges ∷ queries ∷ layers),
        length_sections run.challenges (queries ∷ layers),
        length_sections queries layers,
        layers_size r refl some,
        fits.basis,
        fits.challenges,
      )
