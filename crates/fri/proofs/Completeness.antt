-- Demand 3, first half: folding keeps the degree bound, so that the last coefficients carry layer r whole,
-- and every round check compares an honest entry with itself. Assumes nothing.
use mathlib.Core.Path.{◌≡◌, refl, sym, ap, ◌∙◌, subst}
use mathlib.Core.Logic.{◌≢◌, inl, inr, ⊎_elim}
use mathlib.Core.List.{List, [], ◌∷◌, map}
use Prim.Native.Nat.{ℕ, zero, suc, ◌+◌, ◌*◌, ◌-◌, ◌^◌, ◌≤◌, ◌<◌}
use native.Mathlib.Nat.{eq-or-lt_of_le, le_of_eq, le_trans, ne_of_lt, sub-add_cancel}
use native.Mathlib.Omega.{arith}
use lib.Pow.{pow_pos, pow_mono, shl_lt, shl-shr}
use lib.ListN.{length, get_or}
use lib.Seq.{length-take-le}
use Rattle.gf64.specs.Field.{IsElement}
use Rattle.poly.specs.Carrier.{gf64}
use Rattle.poly.specs.Polynomial.{All, evaluate}
use Rattle.poly.specs.Degree.{degree_bound}
use Rattle.poly.proofs.AtField.{gf64_laws}
use Rattle.poly.proofs.Evaluation.{evaluate_taken}
use Rattle.poly.proofs.Degree.{below_bound}
use Rattle.poly.proofs.Entries.{all_append, all_take}
use Rattle.poly.proofs.Interpolation.{interpolant-elements}
use Rattle.std.specs.Prelude.{Ok}
use Rattle.refusal.specs.Outcome.{Outcome}
use Rattle.refusal.specs.Numbers.{number_of_outcome}
use Rattle.refusal.proofs.Checks.{number_then}
use Rattle.coset.specs.Coset.{point, points, tabulated}
use Rattle.coset.proofs.Points.{points-elements}
use Rattle.reed_solomon.specs.Codes.{interpolated}
use Rattle.reed_solomon.proofs.Theorems.{round_trips, encoding}
use Rattle.fold.specs.Theorems.{IsWord}
use Rattle.fri.specs.declared.Verdict.{Verdict}
use Rattle.fri.specs.Layout.{dimension, last_count, store_length, index_in}
use Rattle.fri.specs.Run.{Run, steps_in, rounds_in, step_in}
use Rattle.fri.specs.Layers.{basis_in, offset_in, fold_of, honest_layer}
use Rattle.fri.specs.Layers.{honest_store, last_interpolant, honest_last, honest}
use Rattle.fri.specs.Layout.{joined_layers}
use Rattle.fri.specs.Checks.{run_outcome}
use Rattle.fri.specs.Judge.{verdict_of}
use Rattle.fri.specs.Rounds.{value_computed, value_found}
use Rattle.fri.specs.Prover.{degree_outcome, prove_outcome, store_after, last_after}
use Rattle.fri.specs.Demand.{ValidCoset, ProverInput, LowDegree, ValidQueries, Apart, Any, Accepted}
use Rattle.fri.specs.Demand.{Visits, Covered, Elements, Completeness, HonestProofs}
use Rattle.fri.specs.Theorems.{PassesEveryRound, Fit}
use Rattle.fri.proofs.Layouts.{index_within}
use Rattle.fri.proofs.Cosets.{first_fits, layer_steps_fit, length-layer_basis, honest_is_word}
use Rattle.fri.proofs.Cosets.{honest_degree, length-honest_store, honest_layers}
use Rattle.fri.proofs.Values.{computed_entry, found_entry, found_last}
use Rattle.fri.proofs.Checks.{run_passes, run_not}
use Rattle.fri.proofs.Verdicts.{accepted_verdict, checks_pass}
use Rattle.fri.proofs.Provers.{degree_passes, degree_done, done_holds_both}

honest_valid : (run : Run) → ValidCoset run → ValidCoset (honest run)
honest_valid run v =
    record {
      parameters = v.parameters;
      offset_element = v.offset_element;
      basis_elements = v.basis_elements;
      basis_count = v.basis_count;
      independent = v.independent;
    }

module _ (run : Run) (v : ValidCoset run) (p : ProverInput run) where
  abbrev r : ℕ
  r = rounds_in run

  abbrev d : ℕ
  d = last_count run.k run.rate (steps_in run)

  last_word : IsWord (offset_in run r) (basis_in run r) (honest_layer run r)
  last_word = honest_is_word run v p r (omega arith)

  length-last_interpolant : length (last_interpolant run) ≡ 2 ^ dimension run.k (steps_in run) r
  unfolding last_interpolant
  length-last_interpolant =
      round_trips.count (offset_in run r) (basis_in run r) (honest_layer run r) last_word.count
      ∙ ap (λ (n : ℕ). 2 ^ n) (length-layer_basis run v r)

  -- ---- the round checks

  -- the interpolant of layer r has its entries for values
  interpolant_value : (m : ℕ) → m < 2 ^ dimension run.k (steps_in run) r
      → evaluate gf64 (last_interpolant run) (point (offset_in run r) (basis_in run r) m) ≡ get_or (honest_layer run r) m 0
  unfolding last_interpolant
  interpolant_value m h =
      let basis : List ℕ = basis_in run r in
      sym (encoding.values (offset_in run r) basis (interpolated (offset_in run r) basis (honest_layer run r)) m
      (subst (λ (n : ℕ). m < 2 ^ n) (sym (length-layer_basis run v r)) h))
      ∙ ap (λ (l : List ℕ). get_or l m 0)
      (round_trips.word (offset_in run r) basis (honest_layer run r) last_word.offset_element
      last_word.basis_elements last_word.word_elements last_word.independent last_word.count)

  computed : (j i : ℕ) → i < r → j < 2 ^ run.k
      → value_computed (honest run) j i ≡ get_or (honest_layer run (suc i)) (index_in (steps_in run) j (suc i)) 0
  unfolding fold_of honest_layer
  computed j i h l =
      computed_entry (honest run) (honest_valid run v) j i (index_in (steps_in run) j (suc i))
      (index_within run.k (steps_in run) (layer_steps_fit run v) j (suc i) h l) refl
      ∙ ap (λ (entries : List ℕ). get_or (fold_of run i entries) (index_in (steps_in run) j (suc i)) 0)
      (honest_layers run v p.word_count i h)

  module _ (low : LowDegree run) where
    pub low_last : degree_bound (last_interpolant run) ≤ d
    unfolding last_interpolant last_count
    low_last = (below_bound d (last_interpolant run)).0 (honest_degree run v p low r (omega arith))

    last_value : (m : ℕ) → m < 2 ^ dimension run.k (steps_in run) r
        → evaluate gf64 (honest_last run) (point (offset_in run r) (basis_in run r) m) ≡ get_or (honest_layer run r) m 0
    unfolding honest_last
    last_value m h =
        evaluate_taken gf64 IsElement gf64_laws d (last_interpolant run) (point (offset_in run r) (basis_in run r) m)
        ((below_bound d (last_interpolant run)).1 low_last)
        ∙ interpolant_value m h

    found_at_last : (j i : ℕ) → suc i ≡ r → j < 2 ^ run.k
        → value_found (honest run) j i ≡ get_or (honest_layer run (suc i)) (index_in (steps_in run) j (suc i)) 0
    found_at_last j i e l =
        found_last (honest run) j i (index_in (steps_in run) j (suc i)) e refl
        ∙ ap (λ (n : ℕ).
        evaluate gf64 (honest_last run) (point (offset_in run n) (basis_in run n) (index_in (steps_in run) j n))) e
        ∙ last_value (index_in (steps_in run) j r)
        (index_within run.k (steps_in run) (layer_steps_fit run v) j r (omega arith) l)
        ∙ ap (λ (n : ℕ). get_or (honest_layer run n) (index_in (steps_in run) j n) 0) (sym e)

    found : (j i : ℕ) → i < r → j < 2 ^ run.k
        → value_found (honest run) j i ≡ get_or (honest_layer run (suc i)) (index_in (steps_in run) j (suc i)) 0
    found j i h l =
        ⊎_elim (λ (e : suc i ≡ r). found_at_last j i e l)
        (λ (u : suc i < r).
        found_entry (honest run) j i (index_in (steps_in run) j (suc i)) u refl
        ∙ ap (λ (entries : List ℕ). get_or entries (index_in (steps_in run) j (suc i)) 0)
        (honest_layers run v p.word_count (suc i) u)) (eq-or-lt_of_le h)

    honest_passes : (queries : List ℕ) → All (λ j. j < 2 ^ run.k) queries → (t : ℕ) → t < length queries
        → PassesEveryRound (honest run) (get_or queries t 0)
    honest_passes [] h t l i b = absurd (omega arith)
    honest_passes (j ∷ queries) h zero l i b = computed j i b h.0 ∙ sym (found j i b h.0)
    honest_passes (j ∷ queries) h (suc t) l i b = honest_passes queries h.1 t (omega arith) i b

  -- ---- the verdict

  pub length-honest_last : length (honest_last run) ≡ d
  unfolding honest_last last_count
  length-honest_last =
      length-take-le (2 ^ (dimension run.k (steps_in run) r - run.rate)) (last_interpolant run)
      (le_trans (pow_mono (omega arith)) (le_of_eq (sym length-last_interpolant)))

  pub honest_fit : Fit (honest run)
  honest_fit =
      record {
        basis = v.basis_count;
        challenges = p.challenges_count;
        word = p.word_count;
        store = length-honest_store run v p.word_count;
        last = length-honest_last;
      }

  pub honest_accepted : LowDegree run → (queries : List ℕ) → ValidQueries run.k queries
      → Apart (step_in run 0) queries
      → verdict_of (honest run) queries
      ≡ record { answer = Ok tt; reads = length queries * rounds_in run * 2 ^ run.step }
  honest_accepted low queries q apart =
      accepted_verdict (honest run) queries
      (checks_pass (honest run) queries
      (run_passes (honest run) v.parameters honest_fit v.independent) q apart)
      (honest_passes low queries q.within)

-- ---- a number that is never given

never12 : (run : Run) → ValidCoset run → ProverInput run → LowDegree run → number_of_outcome (prove_outcome run) ≢ 12
never12 run v p low =
    number_then (λ n. n ≢ 12) (run_outcome run) (degree_outcome run)
    (run_not run 12 (omega arith) (ne_of_lt (omega arith)))
    (subst (λ (o : Outcome). number_of_outcome o ≢ 12) (sym (degree_passes run (low_last run v p low)))
    (λ (e : ◌≡◌ {A = ℕ} 0 12). omega arith))

-- ---- the prover makes the honest run

proves : (run : Run) → ValidCoset run → ProverInput run → LowDegree run
    → length run.store ≡ store_length run.k (steps_in run)
    → length run.last ≡ last_count run.k run.rate (steps_in run)
    → (prove_outcome run ≡ Ok tt) × (store_after run ≡ honest_store run) × (last_after run ≡ honest_last run)
proves run v p low ls ll =
    let done : prove_outcome run ≡ (Ok tt) =
    degree_done run (run_passes run v.parameters fit v.independent) (low_last run v p low) in
    let both = done_holds_both run done in
    (done, both.0, both.1)
  where
    fit : Fit run
    fit =
        record { basis = v.basis_count; challenges = p.challenges_count; word = p.word_count; store = ls; last = ll }

-- ---- the numbers of an honest run

joined_elements : (run : Run) → ValidCoset run → ProverInput run → (n : ℕ) → n ≤ rounds_in run
    → All IsElement (joined_layers (honest_layer run) n)
unfolding joined_layers
joined_elements run v p zero h = record {}
joined_elements run v p (suc n) h =
    all_append IsElement (joined_layers (honest_layer run) n) (honest_layer run (suc n))
    (joined_elements run v p n (omega arith)) (honest_is_word run v p (suc n) h).word_elements

pub honest_store-elements : (run : Run) → ValidCoset run → ProverInput run → All IsElement (honest_store run)
unfolding honest_store
honest_store-elements run v p = joined_elements run v p (rounds_in run - 1) (omega arith)

pub honest_last-elements : (run : Run) → ValidCoset run → ProverInput run → All IsElement (honest_last run)
unfolding honest_last last_interpolant interpolated
honest_last-elements run v p =
    let r : ℕ = rounds_in run in
    let w : IsWord (offset_in run r) (basis_in run r) (honest_layer run r) = honest_is_word run v p r (omega arith) in
    all_take IsElement (last_count run.k run.rate (steps_in run))
    (interpolated (offset_in run r) (basis_in run r) (honest_layer run r))
    (interpolant-elements gf64 IsElement gf64_laws (points (offset_in run r) (basis_in run r)) (honest_layer run r)
    (points-elements (offset_in run r) (basis_in run r) w.offset_element w.basis_elements) w.word_elements)

honest-elements : (run : Run) → ValidCoset run → ProverInput run → Elements (honest run)
honest-elements run v p =
    record {
      offset = v.offset_element;
      basis = v.basis_elements;
      challenges = p.challenges_elements;
      word = p.word_elements;
      store = honest_store-elements run v p;
      last = honest_last-elements run v p;
    }

-- ---- one judging for each first-layer coset covers it

any_one : (P : List ℕ → Type 0) (f : ℕ → ℕ) (start count m : ℕ) → start ≤ m → m < start + count → P (f m ∷ [])
    → Any P (map (λ j. j ∷ []) (tabulated f start count))
unfolding tabulated
any_one P f start zero m l u h = absurd (omega arith)
any_one P f start (suc count) m l u h =
    ⊎_elim (λ (e : start ≡ m). inl (subst (λ (n : ℕ). P (f n ∷ [])) (sym e) h))
    (λ (b : start < m). inr (any_one P f (suc start) count m b (omega arith) h)) (eq-or-lt_of_le l)

covered : (run : Run) → ValidCoset run → ProverInput run → LowDegree run
    → (lists : List (List ℕ)) × Covered (honest run) lists
covered run v p low = (
  map (λ j. j ∷ []) (tabulated (λ m. m * 2 ^ step) 0 (2 ^ (run.k - step))),
  λ m h.
      let inside : m < 2 ^ (run.k - step) = omega (arith, h, pow_pos (run.k - step)) in
      any_one (λ queries. Accepted (honest run) queries × Visits (honest run) queries m) (λ n. n * 2 ^ step) 0
      (2 ^ (run.k - step)) m (omega arith) (omega arith) (
        ap (λ (verdict : Verdict). verdict.answer)
            (honest_accepted run v p low (m * 2 ^ step ∷ []) (valid m inside) (record {}, record {})),
        inl (shl-shr m step),
      ),
)
  where
    step : ℕ
    step = step_in run 0

    valid : (m : ℕ) → m < 2 ^ (run.k - step) → ValidQueries run.k (m * 2 ^ step ∷ [])
    valid m h =
        record {
          least = omega arith;
          most = omega arith;
          within = (
            subst (λ (n : ℕ). m * 2 ^ step < 2 ^ n) (sub-add_cancel (first_fits run v)) (shl_lt (run.k - step) step h),
            record {},
          );
        }

pub completeness : Completeness
completeness run queries v p low q apart = honest_accepted run v p low queries q apart

pub honest_proofs : HonestProofs
honest_proofs =
    record {
      proves = proves;
      never12 = never12;
      covered = λ run v p low. (honest-elements run v p, covered run v p low);
    }
