-- A written transcript carries the run and the queries that it was written from. Assumes nothing.
use mathlib.Core.Path.{◌≡◌, refl, sym, ap, ap₂, ◌∙◌, subst}
use mathlib.Core.List.{List, [], ◌∷◌, ◌++◌}
use Prim.Native.Nat.{ℕ, zero, suc, ◌+◌, ◌-◌, ◌^◌, ◌≤◌, ◌<◌}
use native.Mathlib.Nat.{add-zero, add-suc, suc-add, le_of_eq, le_trans}
use native.Mathlib.Omega.{arith}
use lib.ListN.{length, get_or, take, drop}
use lib.Pow.{pow_mono}
use lib.Seq.{take-add, take_all}
use Rattle.gf64.specs.Field.{IsElement}
use Rattle.poly.specs.Polynomial.{All}
use Rattle.poly.proofs.Entries.{all_take, all_drop}
use Rattle.fri.specs.Layout.{steps_of, dimension, last_count, layer_start, store_length, joined_layers, stored_layer}
use Rattle.fri.specs.Run.{Run, steps_in, rounds_in, layer_in}
use Rattle.refusal.specs.declared.Cause.TheVariants.{InputTooLong}
use Rattle.std.specs.Prelude.{Ok, Err}
use Rattle.fri.specs.Judge.{checks_outcome, verdict_of}
use Rattle.fri.specs.Demand.{ValidParameters}
use Rattle.fri.proofs.Layouts.{some_round, rounds_few}
use Rattle.transcript.specs.Numerals.{AreBytes}
use Rattle.transcript.specs.Sections.{section_start, section_count, section_entries, layer_section, transcript_k}
use Rattle.transcript.specs.Sections.{transcript_step, transcript_steps, transcript_rounds, run_in, queries_in}
use Rattle.transcript.specs.Judge.{transcript_verdict, input_limit, input_verdict}
use Rattle.transcript.specs.Theorems.{Carries}
use Rattle.transcript.proofs.Numerals.{length_entries}
use Rattle.transcript.proofs.Sections.{first_start}
use Rattle.transcript.proofs.Theorems.{judging_bytes}
use Rattle.transcript.proofs.LongInputs.{long_inputs}
use Rattle.written.specs.Transcript.{layers_then_last, lists_of, transcript_of}
use Rattle.written.specs.Theorems.{FitsSections, WrittenTranscripts}
use Rattle.written.proofs.Only.{only, unique}
use Rattle.written.proofs.Others.{others_refused}
use Rattle.written.proofs.Lengths.{layer_length, transcript_size}
use Rattle.written.proofs.Sections.{Holds, AllRead, sections-bytes, sections_read}

-- the layers of a store, joined, are the store's first entries
joined_stored : (k : ℕ) (steps store : List ℕ) (n : ℕ)
    → joined_layers (stored_layer k steps store) n ≡ take (layer_start k steps (suc n)) store
unfolding joined_layers layer_start stored_layer
joined_stored k steps store zero = refl
joined_stored k steps store (suc n) =
    ap (λ (l : List ℕ). l ++ stored_layer k steps store (suc n)) (joined_stored k steps store n)
    ∙ sym (take-add (layer_start k steps (suc n)) (2 ^ dimension k steps (suc n)) store)

joined_same : (f g : ℕ → List ℕ) (n : ℕ) → ((i : ℕ) → 1 ≤ i → i ≤ n → f i ≡ g i) → joined_layers f n ≡ joined_layers g n
unfolding joined_layers
joined_same f g zero h = refl
joined_same f g (suc n) h =
    ap₂ ◌++◌ (joined_same f g n (λ i l m. h i l (omega arith))) (h (suc n) (omega arith) (omega arith))

-- no layer has more points than the first
dimension_most : (k : ℕ) (steps : List ℕ) (i : ℕ) → dimension k steps i ≤ k
unfolding dimension
dimension_most k steps zero = omega arith
dimension_most k steps (suc i) = omega (arith, dimension_most k steps i)

same_run : {k k' rate rate' step step' offset offset' : ℕ}
    {basis basis' challenges challenges' word word' store store' last last' : List ℕ}
    → k ≡ k' → rate ≡ rate' → step ≡ step' → offset ≡ offset' → basis ≡ basis' → challenges ≡ challenges'
    → word ≡ word' → store ≡ store' → last ≡ last'
    → ◌≡◌ {A = Run}
    (record {
      k = k;
      rate = rate;
      step = step;
      offset = offset;
      basis = basis;
      challenges = challenges;
      word = word;
      store = store;
      last = last;
    })
    (record {
      k = k';
      rate = rate';
      step = step';
      offset = offset';
      basis = basis';
      challenges = challenges';
      word = word';
      store = store';
      last = last';
    })
same_run a b c d e f g h i = cc

module _ (run : Run) where
  length_layers : (i left : ℕ) → length (layers_then_last run i left) ≡ suc left
  unfolding layers_then_last
  length_layers i zero = refl
  length_layers i (suc left) = ap suc (length_layers (suc i) left)

  layer_of : (i left t : ℕ) → t < left → get_or (layers_then_last run i left) t [] ≡ layer_in run (i + t)
  unfolding layers_then_last
  layer_of i zero t h = absurd (omega arith)
  layer_of i (suc left) zero h = ap (layer_in run) (sym (add-zero i))
  layer_of i (suc left) (suc t) h =
      layer_of (suc i) left t (omega arith) ∙ ap (layer_in run) (suc-add i t ∙ sym (add-suc i t))

  last_of : (i left : ℕ) → get_or (layers_then_last run i left) left [] ≡ run.last
  unfolding layers_then_last
  last_of i zero = refl
  last_of i (suc left) = last_of (suc i) left

module _ (run : Run) (queries : List ℕ) (w : FitsSections run queries) where
  abbrev bytes : List ℕ
  bytes = transcript_of run queries

  abbrev n : ℕ
  n = rounds_in run

  abbrev steps : List ℕ
  steps = steps_in run

  some : 0 < n
  some = some_round run.k run.rate run.step w.parameters.step_least w.parameters.k_enough

  few : n ≤ 19
  few =
      let p = w.parameters in
      rounds_few run.k run.rate run.step p.rate_least p.step_least p.k_most

  -- every list can be held

  fits_count : (count m : ℕ) → count ≡ 2 ^ m → m ≤ run.k → count < 2 ^ 32
  fits_count count m e h =
      let most : 2 ^ m ≤ 2 ^ 20 = pow_mono {i = m} {j = 20} (le_trans h w.parameters.k_most) in omega arith

  layer_holds : (i : ℕ) → i < n → Holds (layer_in run i)
  unfolding layer_in stored_layer
  layer_holds zero h =
      (fits_count (length run.word) run.k w.lengths.word (omega arith), w.elements.word)
  layer_holds (suc i) h =
      let m : ℕ = dimension run.k steps (suc i) in
      let from : ℕ = layer_start run.k steps (suc i) in (
        fits_count (length (layer_in run (suc i))) m (layer_length run w.parameters w.lengths (suc i) h)
            (dimension_most run.k steps (suc i)),
        all_take IsElement (2 ^ m) (drop from run.store)
            (all_drop IsElement from run.store w.elements.store),
      )

  last_holds : Holds run.last
  unfolding last_count
  last_holds =
      let m : ℕ = dimension run.k steps n in (
        fits_count (length run.last) (m - run.rate) w.lengths.last
            (omega (arith, dimension_most run.k steps n)),
        w.elements.last,
      )

  layers_hold : (i left : ℕ) → i + left ≡ n → All Holds (layers_then_last run i left)
  unfolding layers_then_last
  layers_hold i zero e = (last_holds, record {})
  layers_hold i (suc left) e = (layer_holds i (omega arith), layers_hold (suc i) left (omega arith))

  parameters_hold : Holds (run.k ∷ run.rate ∷ run.step ∷ [])
  parameters_hold =
      let p = w.parameters in
      let k_small : IsElement run.k = omega (arith, p.k_most) in
      let rate_small : IsElement run.rate = omega (arith, p.rate_most) in
      let step_small : IsElement run.step = omega (arith, p.step_most) in
      (omega arith, (k_small, (rate_small, (step_small, record {}))))

  coset_holds : Holds (run.offset ∷ run.basis)
  coset_holds = (omega (arith, w.lengths.basis, w.parameters.k_most), (w.elements.offset, w.elements.basis))

  challenges_hold : Holds run.challenges
  challenges_hold = (omega (arith, w.lengths.challenges, few), w.elements.challenges)

  queries_hold : Holds queries
  queries_hold = (w.queries_count, w.queries_elements)

  hold : All Holds (lists_of run queries)
  hold = (parameters_hold, (coset_holds, (challenges_hold, (queries_hold, layers_hold 0 n (omega arith)))))

  all_read : AllRead bytes (lists_of run queries) 1
  unfolding transcript_of
  all_read = sections_read bytes [] (lists_of run queries) 1 (omega arith) (first_start bytes) refl hold

  how_many : length (lists_of run queries) ≡ 5 + n
  how_many = omega (arith, length_layers run 0 n)

  -- section by section

  parameters_again : section_entries bytes 1 ≡ run.k ∷ run.rate ∷ run.step ∷ []
  parameters_again = all_read.0 0 (omega (arith, how_many))

  coset_again : section_entries bytes 2 ≡ run.offset ∷ run.basis
  coset_again = all_read.0 1 (omega (arith, how_many))

  challenges_again : section_entries bytes 3 ≡ run.challenges
  challenges_again = all_read.0 2 (omega (arith, how_many))

  queries_again : queries_in bytes ≡ queries
  queries_again = all_read.0 3 (omega (arith, how_many))

  layer_again : (i : ℕ) → i < n → section_entries bytes (layer_section i) ≡ layer_in run i
  layer_again i h =
      let place : layer_section i ≡ 1 + suc (suc (suc (suc i))) = omega arith in
      ap (section_entries bytes) place ∙ all_read.0 (suc (suc (suc (suc i)))) (omega (arith, how_many))
      ∙ layer_of run 0 n i h ∙ ap (layer_in run) (omega arith)

  last_again : section_entries bytes (layer_section n) ≡ run.last
  last_again =
      let place : layer_section n ≡ 1 + suc (suc (suc (suc n))) = omega arith in
      ap (section_entries bytes) place ∙ all_read.0 (suc (suc (suc (suc n)))) (omega (arith, how_many))
      ∙ last_of run 0 n

  parameter : (i : ℕ) → get_or (section_entries bytes 1) i 0 ≡ get_or (run.k ∷ run.rate ∷ run.step ∷ []) i 0
  parameter i = ap (λ (l : List ℕ). get_or l i 0) parameters_again

  steps_again : transcript_steps bytes ≡ steps
  steps_again =
      ap₂ (λ (a b : ℕ). steps_of a b (transcript_step bytes)) (parameter 0) (parameter 1)
      ∙ ap (steps_of run.k run.rate) (parameter 2)

  rounds_again : transcript_rounds bytes ≡ n
  rounds_again = ap length steps_again

  store_again : joined_layers (λ i. section_entries bytes (layer_section i)) (n - 1) ≡ run.store
  unfolding store_length layer_in
  store_again =
      joined_same (λ i. section_entries bytes (layer_section i)) (stored_layer run.k steps run.store) (n - 1) each
      ∙ joined_stored run.k steps run.store (n - 1)
      ∙ ap (λ (m : ℕ). take (layer_start run.k steps m) run.store) whole
      ∙ take_all (layer_start run.k steps n) run.store (le_of_eq w.lengths.store)
    where
      whole : suc (n - 1) ≡ n
      whole = omega (arith, some)

      each : (i : ℕ) → 1 ≤ i → i ≤ n - 1
          → section_entries bytes (layer_section i) ≡ stored_layer run.k steps run.store i
      each zero l m = absurd (omega arith)
      each (suc i) l m = layer_again (suc i) (omega (arith, some))

  run_again : run_in bytes ≡ run
  unfolding layer_in
  run_again =
      same_run (parameter 0) (parameter 1) (parameter 2) (ap (λ (l : List ℕ). get_or l 0 0) coset_again)
      (ap (λ (l : List ℕ). drop 1 l) coset_again) challenges_again (layer_again 0 some)
      (ap (λ (m : ℕ). joined_layers (λ i. section_entries bytes (layer_section i)) (m - 1)) rounds_again ∙ store_again)
      (ap (λ (m : ℕ). section_entries bytes (layer_section m)) rounds_again ∙ last_again)

  count_again : {entries : List ℕ} (s : ℕ) → section_entries bytes s ≡ entries → section_count bytes s ≡ length entries
  count_again s e = sym (length_entries bytes (section_start bytes s + 4) (section_count bytes s)) ∙ ap length e

  carries : Carries bytes
  carries =
      record {
        parameters_count = count_again 1 parameters_again;
        parameters = subst (λ (x : Run). ValidParameters x.k x.rate x.step) (sym run_again) w.parameters;
        coset_count = count_again 2 coset_again ∙ omega (arith, w.lengths.basis, parameter 0);
        challenges_count = count_again 3 challenges_again ∙ w.lengths.challenges ∙ sym rounds_again;
        layer_counts = layer_counts;
        last-count =
            ap (λ (m : ℕ). section_count bytes (layer_section m)) rounds_again ∙ count_again (layer_section n) last_again
            ∙ w.lengths.last ∙ sym (ap (λ (x : Run). last_count x.k x.rate (steps_in x)) run_again);
        ends = ends;
      }
    where
      layer_counts : (i : ℕ) → i < transcript_rounds bytes
          → section_count bytes (layer_section i) ≡ 2 ^ dimension (transcript_k bytes) (transcript_steps bytes) i
      layer_counts i h =
          let inside : i < n = subst (λ (m : ℕ). i < m) rounds_again h in
          count_again (layer_section i) (layer_again i inside) ∙ layer_length run w.parameters w.lengths i inside
          ∙ sym (ap (λ (x : Run). 2 ^ dimension x.k (steps_in x) i) run_again)

      ends : section_start bytes (suc (layer_section (transcript_rounds bytes))) ≡ length bytes
      ends =
          let place : suc (layer_section (transcript_rounds bytes)) ≡ 1 + length (lists_of run queries) =
          omega (arith, how_many, rounds_again) in
          ap (section_start bytes) place ∙ all_read.1

  judged : transcript_verdict bytes ≡ verdict_of run queries
  judged = judging_bytes.carried bytes carries ∙ ap₂ verdict_of run_again queries_again

  judged_by_program : length bytes ≤ input_limit → input_verdict bytes ≡ verdict_of run queries
  judged_by_program h = judging_bytes.short bytes h ∙ judged

  over_limit : input_limit < length bytes → checks_outcome run queries ≡ Ok tt
      → input_verdict bytes ≡ record { answer = Err InputTooLong; reads = 0 }
  over_limit h passed =
      long_inputs.passed bytes h
      (long_inputs.carried bytes carries ∙ ap₂ checks_outcome run_again queries_again ∙ passed)

-- ---- the theorems

all_bytes : (run : Run) (queries : List ℕ) → AreBytes (transcript_of run queries)
unfolding transcript_of
all_bytes run queries = sections-bytes (lists_of run queries)

pub written_transcripts : WrittenTranscripts
written_transcripts =
    record {
      are_bytes = all_bytes;
      size = λ run queries valid fits. transcript_size run valid fits queries;
      carries = carries;
      run_again = run_again;
      queries_again = queries_again;
      only = only;
      unique = unique;
      others_refused = others_refused;
      judged = judged;
      judged_by_program = judged_by_program;
      over_limit = over_limit;
    }
