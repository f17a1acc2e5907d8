-- Where the sections of a transcript begin, as far as those before them passed: none ends after the longest
-- transcript. Assumes nothing.
use mathlib.Core.Path.{◌≡◌, ap, ◌∙◌}
use mathlib.Core.Bool.{◌&&◌}
use mathlib.Core.List.{List}
use Prim.Native.Nat.{ℕ, zero, suc, ◌+◌, ◌*◌, ◌-◌, ◌^◌, ◌≤◌, ◌<◌}
use native.Mathlib.Nat.{le_trans, le_of_eq, suc-mul, pow-suc}
use native.Mathlib.Omega.{arith}
use lib.Pow.{pow_mono}
use lib.Dec.{leb}
use lib.ListN.{length}
use Rattle.refusal.proofs.Checks.{then_done, within_of}
use Rattle.refusal.specs.declared.Cause.TheVariants.{QueryCountOutOfRange}
use Rattle.std.specs.Prelude.{Ok}
use Rattle.refusal.specs.Outcome.{Outcome}
use Rattle.refusal.specs.Checks.{and_then}
use Rattle.coset.specs.Answers.{basis_outcome}
use Rattle.fri.specs.Layout.{steps_of, step_at, dimension, last_count}
use Rattle.fri.specs.Checks.{indices_outcome}
use Rattle.fri.specs.Demand.{ValidParameters}
use Rattle.fri.proofs.Layouts.{dimension_of_layer, rounds_fit, rounds_few}
use Rattle.transcript.specs.Sections.{section_start, section_count, layer_section, transcript_k, transcript_rate}
use Rattle.transcript.specs.Sections.{transcript_step, transcript_steps, transcript_rounds, run_in, queries_in}
use Rattle.transcript.specs.Checks.{section_outcome, due_outcome, parameters_section, coset_section}
use Rattle.transcript.specs.Checks.{challenges_section, queries_section, lists_outcome}
use Rattle.transcript.specs.Judge.{longest_front, longest_transcript}
use Rattle.transcript.proofs.Sections.{start_next, first_start}
use Rattle.transcript.proofs.Checks.{parameters_done, section_done, due_done}

-- ---- numbers alone

-- the layers halve at least, so that those before layer i and twice layer i are at most twice layer 0
sizes_fall : (at n half i k16 : ℕ) → 2 * half ≤ n → at + 16 * n ≤ longest_front + 4 * i + k16
    → at + 4 + 8 * n + 16 * half ≤ longest_front + 4 * suc i + k16
sizes_fall at n half i k16 h p = omega arith

layer_ends : (at n i most : ℕ) → 4 ≤ n → at + 16 * n ≤ longest_front + 4 * i + most → i ≤ 18 → most ≤ 16 * 2 ^ 20
    → at + 4 + 8 * n ≤ longest_transcript
layer_ends at n i most l p few small = omega arith

last_ends : (at n d i most : ℕ) → 2 ≤ n → 2 * d ≤ n → at + 16 * n ≤ longest_front + 4 * i + most → i ≤ 19
    → most ≤ 16 * 2 ^ 20
    → at + 4 + 8 * d ≤ longest_transcript
last_ends at n d i most l h p few small = omega arith

-- ---- the sizes of layers, with parameters in range

module _ (k rate step : ℕ) (v : ValidParameters k rate step) where
  abbrev steps : List ℕ
  steps = steps_of k rate step

  double : (m n : ℕ) → m < n → 2 * 2 ^ m ≤ 2 ^ n
  double m n h = le_trans (omega (arith, pow-suc 2 m)) (pow_mono {i = suc m} {j = n} h)

  -- a layer but the last has 4 entries or more, and the next one at most half as many
  layer_halves : (i : ℕ) → i < length steps
      → (4 ≤ 2 ^ dimension k steps i) × (2 * 2 ^ dimension k steps (suc i) ≤ 2 ^ dimension k steps i)
  layer_halves i h =
      let here = dimension_of_layer k rate step i (omega arith) in
      let next = dimension_of_layer k rate step (suc i) h in
      let fits = rounds_fit k rate step (suc i) v.step_least h in
      let taken = suc-mul i step in (
        pow_mono {i = 2} {j = dimension k steps i}
            (omega (arith, here, fits, taken, v.rate_least, v.step_least, v.k_enough)),
        double (dimension k steps (suc i)) (dimension k steps i)
            (omega (arith, here, next, fits, taken, v.step_least, v.k_enough)),
      )

  -- layer r has 2 entries or more, and at most half as many last coefficients
  last_halves : (2 ≤ 2 ^ dimension k steps (length steps))
      × (2 * last_count k rate steps ≤ 2 ^ dimension k steps (length steps))
  unfolding last_count
  last_halves =
      let r = length steps in
      let here = dimension_of_layer k rate step r (omega arith) in
      let fits = rounds_fit k rate step r v.step_least (omega arith) in (
        pow_mono {i = 1} {j = dimension k steps r} (omega (arith, here, fits, v.rate_least, v.k_enough)),
        double (dimension k steps r - rate) (dimension k steps r)
            (omega (arith, here, fits, v.rate_least, v.k_enough)),
      )

module _ (bytes : List ℕ) (one : parameters_section bytes ≡ Ok tt) where
  abbrev k : ℕ
  k = transcript_k bytes

  abbrev r : ℕ
  r = transcript_rounds bytes

  -- the entries of layer i
  abbrev pub size : ℕ → ℕ
  size i = 2 ^ dimension k (transcript_steps bytes) i

  -- the number of last coefficients
  abbrev pub last : ℕ
  last = last_count k (transcript_rate bytes) (transcript_steps bytes)

  pub valid : ValidParameters k (transcript_rate bytes) (transcript_step bytes)
  valid = (parameters_done bytes one).1

  pub few_rounds : r ≤ 19
  few_rounds =
      rounds_few k (transcript_rate bytes) (transcript_step bytes) valid.rate_least valid.step_least valid.k_most

  -- ---- sections 2 to 5

  pub start_two : section_start bytes 2 ≡ 28
  start_two = start_next bytes 1 (omega arith) ∙ omega (arith, first_start bytes, (parameters_done bytes one).0)

  pub start_three : due_outcome bytes 2 (k + 1) ≡ Ok tt → section_start bytes 3 ≤ 200
  start_three two =
      omega (arith, start_next bytes 2 (omega arith), start_two, (due_done bytes 2 (k + 1) two).0, valid.k_most)

  pub start_four : due_outcome bytes 2 (k + 1) ≡ Ok tt → due_outcome bytes 3 r ≡ Ok tt → section_start bytes 4 ≤ 356
  start_four two three =
      omega (arith, start_next bytes 3 (omega arith), start_three two, (due_done bytes 3 r three).0, few_rounds)

  abbrev queries_there : Outcome
  queries_there =
      section_outcome bytes 4 (leb 1 (section_count bytes 4) && leb (section_count bytes 4) 256) QueryCountOutOfRange

  start_five : due_outcome bytes 2 (k + 1) ≡ Ok tt → due_outcome bytes 3 r ≡ Ok tt → queries_there ≡ Ok tt
      → section_start bytes 5 ≤ longest_front
  start_five two three four =
      let tested = (section_done bytes 4 (leb 1 (section_count bytes 4) && leb (section_count bytes 4) 256)
      QueryCountOutOfRange four).0 in
      omega (
        arith,
        start_next bytes 4 (omega arith),
        start_four two three,
        (within_of 1 256 (section_count bytes 4) tested).1,
      )

  -- where sections 2 to 4 pass, all of them end early
  pub front_within : lists_outcome bytes ≡ Ok tt → section_start bytes 5 ≤ longest_front
  front_within lists =
      let two = then_done (coset_section bytes) (and_then (challenges_section bytes) (queries_section bytes)) lists in
      let three = then_done (challenges_section bytes) (queries_section bytes) two.1 in
      start_five
      (then_done (due_outcome bytes 2 (k + 1)) (basis_outcome (run_in bytes).basis) two.0).0
      three.0
      (then_done queries_there (indices_outcome k (step_at (transcript_steps bytes) 0) (queries_in bytes)) three.1).0

  -- ---- the layers

  module _ (five : section_start bytes 5 ≤ longest_front) where
    -- where layer i begins
    position : (i : ℕ) → i ≤ r → ((j : ℕ) → j < i → due_outcome bytes (layer_section j) (size j) ≡ Ok tt)
        → section_start bytes (layer_section i) + 16 * size i ≤ longest_front + 4 * i + 16 * 2 ^ k
    unfolding dimension
    position zero h passed = omega (arith, five)
    position (suc i) h passed =
        let before = position i (omega arith) (λ j l. passed j (omega arith)) in
        let count = (due_done bytes (layer_section i) (size i) (passed i (omega arith))).0 in
        let next : section_start bytes (layer_section (suc i)) ≡ section_start bytes (layer_section i) + 4 + 8 * size i =
        ap (section_start bytes) (omega arith) ∙ start_next bytes (layer_section i) (omega arith)
        ∙ ap (λ (n : ℕ). section_start bytes (layer_section i) + 4 + 8 * n) count
        in
        let half = (layer_halves k (transcript_rate bytes) (transcript_step bytes) valid i h).1 in
        le_trans (le_of_eq (ap (λ (n : ℕ). n + 16 * size (suc i)) next))
        (sizes_fall (section_start bytes (layer_section i)) (size i) (size (suc i)) i (16 * 2 ^ k) half before)

    word_small : 16 * 2 ^ k ≤ 16 * 2 ^ 20
    word_small = omega (arith, pow_mono {i = k} {j = 20} valid.k_most)

    -- where it ends
    pub layer_within : (i : ℕ) → i < r → ((j : ℕ) → j < i → due_outcome bytes (layer_section j) (size j) ≡ Ok tt)
        → section_start bytes (layer_section i) + 4 + 8 * size i ≤ longest_transcript
    layer_within i h passed =
        layer_ends (section_start bytes (layer_section i)) (size i) i (16 * 2 ^ k)
        (layer_halves k (transcript_rate bytes) (transcript_step bytes) valid i h).0 (position i (omega arith) passed)
        (omega (arith, few_rounds)) word_small

    -- where the last coefficients end
    pub last_within : ((j : ℕ) → j < r → due_outcome bytes (layer_section j) (size j) ≡ Ok tt)
        → section_start bytes (layer_section r) + 4 + 8 * last ≤ longest_transcript
    last_within passed =
        let halves = last_halves k (transcript_rate bytes) (transcript_step bytes) valid in
        last_ends (section_start bytes (layer_section r)) (size r) last r (16 * 2 ^ k) halves.0 halves.1
        (position r (omega arith) passed) few_rounds word_small
