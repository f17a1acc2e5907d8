-- Bytes that follow a front decide nothing about the sections that lie in it; and no transcript that passes is longer
-- than the longest, so that a longer front answers for everything. Assumes nothing.
use mathlib.Core.Path.{◌≡◌, refl, sym, ap, ap₂, ◌∙◌, subst}
use mathlib.Core.Logic.{◌≢◌, ⊎_elim}
use mathlib.Core.Bool.{Bool, true, ◌&&◌}
use mathlib.Core.List.{List, ◌∷◌, ◌++◌}
use Prim.Native.Nat.{ℕ, zero, suc, ◌+◌, ◌*◌, ◌^◌, ◌≤◌, ◌<◌}
use native.Mathlib.Nat.{eq-or-lt_of_le, le_of_suc-le-suc}
use native.Mathlib.Omega.{arith}
use lib.Dec.{leb, eqb}
use lib.ListN.{length, get_or, take, drop, length-append, length-drop}
use lib.Seq.{take-append-le, drop-append-le}
use borrow.Author.Tests.{ne_eqb}
use Rattle.refusal.specs.declared.Cause.{Cause}
use Rattle.refusal.specs.declared.Cause.TheVariants.{CountDiffers, TrailingBytes, QueryCountOutOfRange}
use Rattle.std.specs.Prelude.{Ok, Err}
use Rattle.refusal.specs.Outcome.{Outcome}
use Rattle.refusal.specs.Checks.{refused_unless, and_then}
use Rattle.refusal.proofs.Checks.{equal_of_test, then_done, unless_done, within_of}
use Rattle.coset.specs.Answers.{basis_outcome}
use Rattle.fri.specs.Layout.{steps_of, step_at, dimension, last_count}
use Rattle.fri.specs.Checks.{parameters_outcome, indices_outcome}
use Rattle.transcript.specs.Numerals.{little_endian, count_at, entry_at, entries_at}
use Rattle.transcript.specs.Sections.{section_start, section_count, section_entries, layer_section, transcript_k}
use Rattle.transcript.specs.Sections.{transcript_rounds}
use Rattle.transcript.specs.Checks.{section_outcome, due_outcome, parameters_section, coset_section}
use Rattle.transcript.specs.Checks.{challenges_section, queries_section, lists_outcome, front_outcome, layers_from}
use Rattle.transcript.specs.Checks.{end_outcome, layers_outcome, transcript_outcome}
use Rattle.transcript.specs.Judge.{longest_front, longest_transcript}
use Rattle.transcript.proofs.Sections.{start_next, first_start}
use Rattle.transcript.proofs.Checks.{section_counted, section_done, due_done, layers_done}
use Rattle.transcript.proofs.Positions as at

-- ---- checks one after the other

then_same : {o o' : Outcome} (a a' : Outcome) → o ≡ o' → (o' ≡ Ok tt → a ≡ a') → and_then o a ≡ and_then o' a'
then_same {o} {o'} a a' e h = ap (λ (x : Outcome). and_then x a) e ∙ by o' refl
  where
    by : (x : Outcome) → o' ≡ x → and_then o' a ≡ and_then o' a'
    by (Ok _) d = ap (λ (x : Outcome). and_then x a) d ∙ h d ∙ sym (ap (λ (x : Outcome). and_then x a') d)
    by (Err cause) d = ap (λ (x : Outcome). and_then x a) d ∙ sym (ap (λ (x : Outcome). and_then x a') d)

module _ (front rest : List ℕ) where
  abbrev whole : List ℕ
  whole = front ++ rest

  longer : length front ≤ length whole
  longer = omega (arith, length-append front rest)

  -- ---- what is read of the front

  part_same : (at width : ℕ) → at + width ≤ length front → take width (drop at whole) ≡ take width (drop at front)
  part_same at width h =
      ap (take width) (drop-append-le at front rest (omega arith))
      ∙ take-append-le width (drop at front) rest (omega (arith, length-drop at front))

  count_same : (at : ℕ) → at + 4 ≤ length front → count_at whole at ≡ count_at front at
  unfolding count_at
  count_same at h = ap little_endian (part_same at 4 h)

  entries_same : (at n : ℕ) → at + 8 * n ≤ length front → entries_at whole at n ≡ entries_at front at n
  unfolding entries_at entry_at
  entries_same at zero h = refl
  entries_same at (suc n) h =
      ap₂ (λ (x : ℕ) (l : List ℕ). x ∷ l) (ap little_endian (part_same at 8 (omega arith)))
      (entries_same (at + 8) n (omega arith))

  -- ---- one section: it begins at the same place, and `most` entries of it lie in the front

  module _ (s most : ℕ) (least : 1 ≤ s) (same : section_start whole s ≡ section_start front s)
      (early : section_start front s + 4 + 8 * most ≤ length front) where
    count_is : section_count whole s ≡ section_count front s
    count_is = ap (count_at whole) same ∙ count_same (section_start front s) (omega arith)

    next_same : section_start whole (suc s) ≡ section_start front (suc s)
    next_same =
        start_next whole s least ∙ ap₂ (λ (a n : ℕ). a + 4 + 8 * n) same count_is ∙ sym (start_next front s least)

    entries_are : section_count front s ≤ most → section_entries whole s ≡ section_entries front s
    entries_are few =
        ap₂ (λ (a n : ℕ). entries_at whole (a + 4) n) same count_is
        ∙ entries_same (section_start front s + 4) (section_count front s) (omega arith)

    section_same : (cause : Cause) (test : ℕ → Bool) → ((n : ℕ) → test n ≡ true → n ≤ most)
        → section_outcome whole s (test (section_count whole s)) cause
        ≡ section_outcome front s (test (section_count front s)) cause
    section_same cause test few =
        section_counted whole s most cause test least few (omega (arith, same, longer))
        ∙ ap (λ (n : ℕ). refused_unless (test n) cause (Ok tt)) count_is
        ∙ sym (section_counted front s most cause test least few early)

    due_same : due_outcome whole s most ≡ due_outcome front s most
    due_same = section_same (CountDiffers s) (λ n. eqb n most) (λ n e. omega (arith, equal_of_test n most e))

  -- ---- sections 1 to 4 of a front that is long enough

  module _ (enough : longest_front ≤ length front) where
    start1 : section_start whole 1 ≡ section_start front 1
    start1 = first_start whole ∙ sym (first_start front)

    early1 : section_start front 1 + 4 + 8 * 3 ≤ length front
    early1 = omega (arith, first_start front)

    entries1 : due_outcome front 1 3 ≡ Ok tt → section_entries whole 1 ≡ section_entries front 1
    entries1 d = entries_are 1 3 (omega arith) start1 early1 (omega (arith, (due_done front 1 3 d).0))

    abbrev ranges : List ℕ → Outcome
    ranges l = parameters_outcome (get_or l 0 0) (get_or l 1 0) (get_or l 2 0)

    first_same : parameters_section whole ≡ parameters_section front
    first_same =
        then_same (ranges (section_entries whole 1)) (ranges (section_entries front 1))
        (due_same 1 3 (omega arith) start1 early1) (λ (d : due_outcome front 1 3 ≡ Ok tt). ap ranges (entries1 d))

    module _ (one : parameters_section front ≡ Ok tt) where
      abbrev k : ℕ
      k = transcript_k front

      abbrev r : ℕ
      r = transcript_rounds front

      abbrev steps-of : List ℕ → List ℕ
      steps-of l = steps_of (get_or l 0 0) (get_or l 1 0) (get_or l 2 0)

      three : due_outcome front 1 3 ≡ Ok tt
      three = (then_done (due_outcome front 1 3) (ranges (section_entries front 1)) one).0

      -- what is said by section 1 is said of both
      by_parameters : {A : Type 0} (f : List ℕ → A) → f (section_entries whole 1) ≡ f (section_entries front 1)
      by_parameters f = ap f (entries1 three)

      -- section 2
      start2 : section_start whole 2 ≡ section_start front 2
      start2 = next_same 1 3 (omega arith) start1 early1

      early2 : section_start front 2 + 4 + 8 * (k + 1) ≤ length front
      early2 = omega (arith, at.start_two front one, (at.valid front one).k_most)

      abbrev basis : List ℕ → Outcome
      basis m = basis_outcome (drop 1 m)

      second_same : coset_section whole ≡ coset_section front
      second_same =
          then_same (basis (section_entries whole 2)) (basis (section_entries front 2))
          (by_parameters (λ l. due_outcome whole 2 (get_or l 0 0 + 1)) ∙ due_same 2 (k + 1) (omega arith) start2 early2)
          (λ (d : due_outcome front 2 (k + 1) ≡ Ok tt).
          ap basis
          (entries_are 2 (k + 1) (omega arith) start2 early2 (omega (arith, (due_done front 2 (k + 1) d).0))))

      module _ (two : coset_section front ≡ Ok tt) where
        coset_there : due_outcome front 2 (k + 1) ≡ Ok tt
        coset_there =
            (then_done (due_outcome front 2 (k + 1)) (basis (section_entries front 2)) two).0

        -- section 3
        start3 : section_start whole 3 ≡ section_start front 3
        start3 = next_same 2 (k + 1) (omega arith) start2 early2

        early3 : section_start front 3 + 4 + 8 * r ≤ length front
        early3 = omega (arith, at.start_three front one coset_there, at.few_rounds front one)

        third_same : challenges_section whole ≡ challenges_section front
        third_same =
            by_parameters (λ l. due_outcome whole 3 (length (steps-of l))) ∙ due_same 3 r (omega arith) start3 early3

        module _ (challenges-there : challenges_section front ≡ Ok tt) where
          -- section 4
          start4 : section_start whole 4 ≡ section_start front 4
          start4 = next_same 3 r (omega arith) start3 early3

          early4 : section_start front 4 + 4 + 8 * 256 ≤ length front
          early4 = omega (arith, at.start_four front one coset_there challenges-there)

          abbrev counted : ℕ → Bool
          counted n = leb 1 n && leb n 256

          few4 : (n : ℕ) → counted n ≡ true → n ≤ 256
          few4 n e = (within_of 1 256 n e).1

          abbrev indices : List ℕ → List ℕ → Outcome
          indices l queries = indices_outcome (get_or l 0 0) (step_at (steps-of l) 0) queries

          fourth_same : queries_section whole ≡ queries_section front
          fourth_same =
              then_same (indices (section_entries whole 1) (section_entries whole 4))
              (indices (section_entries front 1) (section_entries front 4))
              (section_same 4 256 (omega arith) start4 early4 QueryCountOutOfRange counted few4)
              (λ (d : section_outcome front 4 (counted (section_count front 4)) QueryCountOutOfRange ≡ Ok tt).
              ap₂ indices (entries1 three)
              (entries_are 4 256 (omega arith) start4 early4
              (few4 (section_count front 4)
              (section_done front 4 (counted (section_count front 4)) QueryCountOutOfRange d).0)))

          start5 : section_start whole 5 ≡ section_start front 5
          start5 = next_same 4 256 (omega arith) start4 early4

    -- bytes after the front decide nothing about sections 1 to 4
    pub front_alone : front_outcome whole ≡ front_outcome front
    front_alone =
        then_same (lists_outcome whole) (lists_outcome front) first_same
        (λ (one : parameters_section front ≡ Ok tt).
        then_same (and_then (challenges_section whole) (queries_section whole))
        (and_then (challenges_section front) (queries_section front)) (second_same one)
        (λ (two : coset_section front ≡ Ok tt).
        then_same (queries_section whole) (queries_section front) (third_same one two)
        (λ (challenges : challenges_section front ≡ Ok tt). fourth_same one two challenges)))

  -- ---- the layers and the last coefficients of a front that is longer than every transcript

  module _ (enough : longest_transcript < length front) where
    front_enough : longest_front ≤ length front
    front_enough = omega arith

    module _ (done : front_outcome front ≡ Ok tt) where
      one : parameters_section front ≡ Ok tt
      one = (then_done (parameters_section front) (lists_outcome front) done).0

      lists : lists_outcome front ≡ Ok tt
      lists = (then_done (parameters_section front) (lists_outcome front) done).1

      abbrev rounds : ℕ
      rounds = transcript_rounds front

      abbrev size : ℕ → ℕ
      size = at.size front one

      abbrev last : ℕ
      last = at.last front one

      five : section_start front 5 ≤ longest_front
      five = at.front_within front one lists

      same_five : section_start whole 5 ≡ section_start front 5
      same_five =
          let two = then_done (coset_section front) (and_then (challenges_section front) (queries_section front)) lists in
          start5 front_enough one two.0 (then_done (challenges_section front) (queries_section front) two.1).0

      -- the layers before layer i passed
      abbrev Before : ℕ → Type 0
      Before i = (j : ℕ) → j < i → due_outcome front (layer_section j) (size j) ≡ Ok tt

      before_next : (i : ℕ) → Before i → due_outcome front (layer_section i) (size i) ≡ Ok tt → Before (suc i)
      before_next i before d j h =
          ⊎_elim (λ (e : j ≡ i). subst (λ (n : ℕ). due_outcome front (layer_section n) (size n) ≡ Ok tt) (sym e) d)
          (λ (l : j < i). before j l) (eq-or-lt_of_le (le_of_suc-le-suc h))

      early_layer : (i : ℕ) → i < rounds → Before i
          → section_start front (layer_section i) + 4 + 8 * size i ≤ length front
      early_layer i h before = omega (arith, at.layer_within front one five i h before)

      same_layer : (i : ℕ) → i ≤ rounds → Before i
          → section_start whole (layer_section i) ≡ section_start front (layer_section i)
      same_layer zero h before = same_five
      same_layer (suc i) h before =
          let earlier : Before i = λ j l. before j (omega arith) in
          let next : layer_section (suc i) ≡ suc (layer_section i) = omega arith in
          ap (section_start whole) next
          ∙ next_same (layer_section i) (size i) (omega arith) (same_layer i (omega arith) earlier)
          (early_layer i h earlier)
          ∙ sym (ap (section_start front) next)

      layers_same : (i left : ℕ) → i + left ≡ rounds → Before i → layers_from whole i left ≡ layers_from front i left
      unfolding layers_from
      layers_same i zero e before = refl
      layers_same i (suc left) e before =
          then_same (layers_from whole (suc i) left) (layers_from front (suc i) left)
          (by_parameters front_enough one
          (λ l. due_outcome whole (layer_section i) (2 ^ dimension (get_or l 0 0) (steps-of front_enough one l) i))
          ∙ due_same (layer_section i) (size i) (omega arith) (same_layer i (omega arith) before)
          (early_layer i (omega arith) before))
          (λ (d : due_outcome front (layer_section i) (size i) ≡ Ok tt).
          layers_same (suc i) left (omega arith) (before_next i before d))

      module _ (before : Before rounds) where
        early_last : section_start front (layer_section rounds) + 4 + 8 * last ≤ length front
        early_last = omega (arith, at.last_within front one five before)

        same-last : section_start whole (layer_section rounds) ≡ section_start front (layer_section rounds)
        same-last = same_layer rounds (omega arith) before

        -- bytes follow in both
        abbrev end : (bytes : List ℕ) → ℕ
        end bytes = section_start bytes (suc (layer_section rounds))

        trailing : (bytes : List ℕ) → end bytes ≢ length bytes
            → refused_unless (eqb (end bytes) (length bytes)) TrailingBytes (Ok tt) ≡ Err TrailingBytes
        trailing bytes h =
            ap (λ (t : Bool). refused_unless t TrailingBytes (Ok tt)) (ne_eqb (end bytes) (length bytes) h)

        end_same : end_outcome whole ≡ end_outcome front
        end_same =
            then_same
            (refused_unless (eqb (section_start whole (suc (layer_section (transcript_rounds whole)))) (length whole))
            TrailingBytes (Ok tt))
            (refused_unless (eqb (end front) (length front)) TrailingBytes (Ok tt))
            (by_parameters front_enough one
            (λ l.
            due_outcome whole (layer_section (length (steps-of front_enough one l)))
            (last_count (get_or l 0 0) (get_or l 1 0) (steps-of front_enough one l)))
            ∙ due_same (layer_section rounds) last (omega arith) same-last early_last)
            (λ (d : due_outcome front (layer_section rounds) last ≡ Ok tt).
            let ends = start_next front (layer_section rounds) (omega arith) in
            let count = (due_done front (layer_section rounds) last d).0 in
            let most = at.last_within front one five before in
            let next = next_same (layer_section rounds) last (omega arith) same-last early_last in
            by_parameters front_enough one
            (λ l.
            refused_unless
            (eqb (section_start whole (suc (layer_section (length (steps-of front_enough one l))))) (length whole))
            TrailingBytes (Ok tt))
            ∙ trailing whole (omega (arith, next, ends, count, most, longer))
            ∙ sym (trailing front (omega (arith, ends, count, most))))

      layers_alone : layers_outcome whole ≡ layers_outcome front
      layers_alone =
          then_same (end_outcome whole) (end_outcome front)
          (by_parameters front_enough one (λ l. layers_from whole 0 (length (steps-of front_enough one l)))
          ∙ layers_same 0 rounds (omega arith) (λ j h. absurd (omega arith)))
          (λ (d : layers_from front 0 rounds ≡ Ok tt).
          end_same (λ j h. layers_done front 0 rounds rounds (omega arith) d j (omega arith) h))

    -- bytes after the front decide nothing
    pub transcript_alone : transcript_outcome whole ≡ transcript_outcome front
    transcript_alone =
        then_same (layers_outcome whole) (layers_outcome front) (front_alone front_enough)
        (λ (done : front_outcome front ≡ Ok tt). layers_alone done)

-- ---- the longest transcript

pub longest : (bytes : List ℕ) → transcript_outcome bytes ≡ Ok tt → length bytes ≤ longest_transcript
longest bytes done =
    let both = then_done (front_outcome bytes) (layers_outcome bytes) done in
    let front = then_done (parameters_section bytes) (lists_outcome bytes) both.0 in
    let r = transcript_rounds bytes in
    let layers = then_done (layers_from bytes 0 r) (end_outcome bytes) both.1 in
    let ends = eqb (section_start bytes (suc (layer_section r))) (length bytes) in
    let last = at.last bytes front.0 in
    let end = then_done (due_outcome bytes (layer_section r) last) (refused_unless ends TrailingBytes (Ok tt)) layers.1 in
    omega (
      arith,
      start_next bytes (layer_section r) (omega arith),
      (due_done bytes (layer_section r) last end.0).0,
      equal_of_test (section_start bytes (suc (layer_section r))) (length bytes)
          (unless_done ends TrailingBytes (Ok tt) end.1).0,
      at.last_within bytes front.0 (at.front_within bytes front.0 front.1)
          (λ j h. layers_done bytes 0 r r (omega arith) layers.0 j (omega arith) h),
    )
