-- The first round check that fails, and the entries read up to it. Assumes nothing.
use mathlib.Core.Path.{◌≡◌, refl, sym, ap, ◌∙◌, subst}
use mathlib.Core.Logic.{◌≢◌, ◌⊎◌, inl, inr, ⊎_elim}
use mathlib.Core.Bool.{Bool, true, false, cond}
use mathlib.Core.List.{List, [], ◌∷◌}
use Prim.Native.Nat.{ℕ, zero, suc, ◌+◌, ◌*◌, ◌^◌, ◌≤◌, ◌<◌, min}
use native.Mathlib.Nat.{add_comm, eq-or-lt_of_le, suc-mul, zero-mul, add-zero}
use native.Mathlib.Nat.{zero-min, min-zero, suc-min-suc, suc-add, add-suc}
use native.Mathlib.Omega.{arith}
use lib.Dec.{eqb}
use lib.ListN.{length, get_or, take, replicate}
use borrow.Author.Tests.{eq-eqb, ne_eqb}
use Rattle.refusal.specs.declared.Cause.{Cause}
use Rattle.refusal.specs.declared.Cause.TheVariants.{RoundCheckFails}
use Rattle.std.specs.Prelude.{Option, Some, None, Ok, Err}
use Rattle.refusal.specs.Checks.{and_then}
use Rattle.refusal.specs.Numbers.{number_of, number_of_outcome}
use Rattle.refusal.proofs.Checks.{equal_of_test, refused_not_done}
use Rattle.fri.specs.Layout.{rounds_of}
use Rattle.fri.specs.Run.{Run, steps_in, rounds_in}
use Rattle.fri.specs.Rounds.{value_computed, value_found, round_passes, first_failing_round}
use Rattle.fri.specs.Rounds.{failing_round, outcome_of_rounds, rounds_outcome}
use Rattle.fri.specs.Reads.{entry_count, query_reads, unless_failed, entries_read}
use Rattle.fri.specs.Theorems.{PassesEveryRound, FailsFirst}
use Rattle.fri.proofs.Layouts.{length_steps}

-- ---- the rounds of one query

module _ (run : Run) (j : ℕ) where
  -- the checks of rounds i to before n pass
  abbrev PassFrom : ℕ → ℕ → Type 0
  PassFrom i n = (t : ℕ) → i ≤ t → t < n → value_computed run j t ≡ value_found run j t

  first_fails : (i left t : ℕ) → i ≤ t → t < i + left → value_computed run j t ≢ value_found run j t → PassFrom i t
      → first_failing_round run j i left ≡ Some t
  unfolding first_failing_round
  first_fails i zero t least most f h = absurd (omega arith)
  first_fails i (suc left) t least most f h =
      ⊎_elim
      (λ (e : i ≡ t). ap (λ (b : Bool). cond b (first_failing_round run j (suc i) left) (Some i))
      (ne_eqb (value_computed run j i) (value_found run j i)
      (subst (λ (m : ℕ). value_computed run j m ≢ value_found run j m) (sym e) f))
      ∙ ap Some e)
      (λ (l : i < t). ap (λ (b : Bool). cond b (first_failing_round run j (suc i) left) (Some i))
      (eq-eqb (value_computed run j i) (value_found run j i) (h i (omega arith) l))
      ∙ first_fails (suc i) left t l (omega arith) f (λ u a b. h u (omega arith) b))
      (eq-or-lt_of_le least)

  none_fails : (i left : ℕ) → PassFrom i (i + left) → first_failing_round run j i left ≡ None
  unfolding first_failing_round
  none_fails i zero h = refl
  none_fails i (suc left) h =
      ap (λ (t : Bool). cond t (first_failing_round run j (suc i) left) (Some i))
      (eq-eqb (value_computed run j i) (value_found run j i) (h i (omega arith) (omega arith)))
      ∙ none_fails (suc i) left (λ t l u. h t (omega arith) (omega arith))

  -- what a first failing round tells
  abbrev Told : ℕ → ℕ → Option ℕ → Type 0
  Told i n None = PassFrom i n
  Told i n (Some t) = (i ≤ t) × (t < n) × (value_computed run j t ≢ value_found run j t) × PassFrom i t

  not_equal : (m n : ℕ) → eqb m n ≡ false → m ≢ n
  not_equal m n e s =
      let impossible : ◌≡◌ {A = ℕ} 0 1 = ap (λ (t : Bool). cond t 0 1) (sym (eq-eqb m n s) ∙ e) in omega arith

  extended : (i n : ℕ) → i < n → value_computed run j i ≡ value_found run j i → (p : Option ℕ) → Told (suc i) n p
      → Told i n p
  extended i n h e None told = λ t l u.
      ⊎_elim (λ (s : i ≡ t). subst (λ (m : ℕ). value_computed run j m ≡ value_found run j m) s e)
      (λ (b : i < t). told t b u) (eq-or-lt_of_le l)
  extended i n h e (Some t) told = (
    omega (arith, told.0),
    told.1,
    told.2,
    λ u l b. ⊎_elim (λ (s : i ≡ u). subst (λ (m : ℕ). value_computed run j m ≡ value_found run j m) s e)
        (λ (a : i < u). told.3 u a b) (eq-or-lt_of_le l),
  )

  one_round : (i n : ℕ) → i < n → (rest : Option ℕ) → Told (suc i) n rest → (test : Bool) → round_passes run j i ≡ test
      → Told i n (cond test rest (Some i))
  one_round i n h rest told true e =
      extended i n h (equal_of_test (value_computed run j i) (value_found run j i) e) rest told
  one_round i n h rest told false e = (
    omega arith,
    h,
    not_equal (value_computed run j i) (value_found run j i) e,
    λ u l b. absurd (omega arith),
  )

  told_by : (i left : ℕ) → Told i (i + left) (first_failing_round run j i left)
  unfolding first_failing_round
  told_by i zero = λ t l u. absurd (omega arith)
  told_by i (suc left) =
      one_round i (i + suc left) (omega arith) (first_failing_round run j (suc i) left)
      (subst (λ (n : ℕ). Told (suc i) n (first_failing_round run j (suc i) left))
      (suc-add i left ∙ sym (add-suc i left)) (told_by (suc i) left)) (round_passes run j i) refl

  pub passing : PassesEveryRound run j → failing_round run j ≡ None
  passing h = none_fails 0 (rounds_in run) (λ t l u. h t (omega arith))

  pub passing_of : failing_round run j ≡ None → PassesEveryRound run j
  passing_of e = λ i h. subst (Told 0 (0 + rounds_in run)) e (told_by 0 (rounds_in run)) i (omega arith) (omega arith)

  pub failing : (t : ℕ) → t < rounds_in run → value_computed run j t ≢ value_found run j t
      → ((i : ℕ) → i < t → value_computed run j i ≡ value_found run j i)
      → failing_round run j ≡ Some t
  failing t h f before = first_fails 0 (rounds_in run) t (omega arith) (omega arith) f (λ i l u. before i u)

  pub failing_of : (t : ℕ) → failing_round run j ≡ Some t
      → (t < rounds_in run) × (value_computed run j t ≢ value_found run j t)
      × ((i : ℕ) → i < t → value_computed run j i ≡ value_found run j i)
  failing_of t e =
      let told : Told 0 (0 + rounds_in run) (Some t) = subst (Told 0 (0 + rounds_in run)) e (told_by 0 (rounds_in run)) in
      (omega (arith, told.1), told.2, λ i u. told.3 i (omega arith) u)

-- ---- all queries

-- without the first query, which passes
fails_later : (run : Run) (j : ℕ) (queries : List ℕ) (t i : ℕ) → FailsFirst run (j ∷ queries) (suc t) i
    → FailsFirst run queries t i
fails_later run j queries t i f =
    record {
      query_within = omega (arith, f.query_within);
      round_within = f.round_within;
      fails = f.fails;
      rounds_before = f.rounds_before;
      queries_before = λ m l. f.queries_before (suc m) (omega arith);
    }

pub first_failing : (run : Run) (queries : List ℕ) (query t i : ℕ) → FailsFirst run queries t i
    → rounds_outcome run queries query ≡ Err (RoundCheckFails (query + t) i)
unfolding rounds_outcome
first_failing run [] query t i f = absurd (omega (arith, f.query_within))
first_failing run (j ∷ queries) query zero i f =
    ap (λ (p : Option ℕ). and_then (outcome_of_rounds query p) (rounds_outcome run queries (suc query)))
    (failing run j i f.round_within f.fails f.rounds_before)
    ∙ ap (λ (m : ℕ). Err (RoundCheckFails m i)) (sym (add-zero query))
first_failing run (j ∷ queries) query (suc t) i f =
    ap (λ (p : Option ℕ). and_then (outcome_of_rounds query p) (rounds_outcome run queries (suc query)))
    (passing run j (f.queries_before 0 (omega arith)))
    ∙ first_failing run queries (suc query) t i (fails_later run j queries t i f)
    ∙ ap (λ (m : ℕ). Err (RoundCheckFails m i)) (suc-add query t ∙ sym (add-suc query t))

pub all_pass : (run : Run) (queries : List ℕ) (query : ℕ)
    → ((t : ℕ) → t < length queries → PassesEveryRound run (get_or queries t 0))
    → rounds_outcome run queries query ≡ Ok tt
unfolding rounds_outcome
all_pass run [] query h = refl
all_pass run (j ∷ queries) query h =
    ap (λ (p : Option ℕ). and_then (outcome_of_rounds query p) (rounds_outcome run queries (suc query)))
    (passing run j (h 0 (omega arith)))
    ∙ all_pass run queries (suc query) (λ t l. h (suc t) (omega arith))

-- what the outcome of the round checks tells
abbrev pub Ended : Run → List ℕ → ℕ → Type 0
Ended run queries query =
    ((rounds_outcome run queries query ≡ Ok tt)
    × ((t : ℕ) → t < length queries → PassesEveryRound run (get_or queries t 0)))
    ⊎ ((t : ℕ) × (i : ℕ) × (rounds_outcome run queries query ≡ Err (RoundCheckFails (query + t) i))
    × FailsFirst run queries t i)

after_passing : (run : Run) (j : ℕ) (queries : List ℕ) (query : ℕ) → failing_round run j ≡ None
    → Ended run queries (suc query) → Ended run (j ∷ queries) query
after_passing run j queries query e (inl h) =
    inl (all_pass run (j ∷ queries) query every, every)
  where
    every : (t : ℕ) → t < suc (length queries) → PassesEveryRound run (get_or (j ∷ queries) t 0)
    every zero l = passing_of run j e
    every (suc t) l = h.1 t (omega arith)
after_passing run j queries query e (inr (t, i, o, f)) =
    inr (suc t, i, first_failing run (j ∷ queries) query (suc t) i fails, fails)
  where
    before : (u : ℕ) → u < suc t → PassesEveryRound run (get_or (j ∷ queries) u 0)
    before zero l = passing_of run j e
    before (suc u) l = f.queries_before u (omega arith)

    fails : FailsFirst run (j ∷ queries) (suc t) i
    fails =
        record {
          query_within = omega (arith, f.query_within);
          round_within = f.round_within;
          fails = f.fails;
          rounds_before = f.rounds_before;
          queries_before = before;
        }

one_query : (run : Run) (j : ℕ) (queries : List ℕ) (query : ℕ) (p : Option ℕ) → failing_round run j ≡ p
    → Ended run queries (suc query) → Ended run (j ∷ queries) query
one_query run j queries query None e ended = after_passing run j queries query e ended
one_query run j queries query (Some i) e ended = inr (0, i, first_failing run (j ∷ queries) query 0 i fails, fails)
  where
    fails : FailsFirst run (j ∷ queries) 0 i
    fails =
        record {
          query_within = omega arith;
          round_within = (failing_of run j i e).0;
          fails = (failing_of run j i e).1;
          rounds_before = (failing_of run j i e).2;
          queries_before = λ u l. absurd (omega arith);
        }

pub ended : (run : Run) (queries : List ℕ) (query : ℕ) → Ended run queries query
unfolding rounds_outcome
ended run [] query = inl (refl, λ t l. absurd (omega arith))
ended run (j ∷ queries) query = one_query run j queries query (failing_round run j) refl (ended run queries (suc query))

pub pass_of_done : (run : Run) (queries : List ℕ) → rounds_outcome run queries 0 ≡ Ok tt → (t : ℕ) → t < length queries
    → PassesEveryRound run (get_or queries t 0)
pass_of_done run queries e = by (ended run queries 0)
  where
    by : Ended run queries 0 → (t : ℕ) → t < length queries → PassesEveryRound run (get_or queries t 0)
    by (inl h) = h.1
    by (inr (t, i, o, f)) = absurd (refused_not_done (RoundCheckFails (0 + t) i) (sym o ∙ e))

pub fails_of_refused : (run : Run) (queries : List ℕ) (t i : ℕ)
    → rounds_outcome run queries 0 ≡ Err (RoundCheckFails t i) → FailsFirst run queries t i
fails_of_refused run queries t i e = by (ended run queries 0)
  where
    by : Ended run queries 0 → FailsFirst run queries t i
    by (inl h) = absurd (refused_not_done (RoundCheckFails t i) (sym e ∙ h.0))
    by (inr (u, n, o, f)) =
        let told : Err (RoundCheckFails (0 + u) n) ≡ Err (RoundCheckFails t i) = sym o ∙ e in
        let query : 0 + u ≡ t = cc in
        let round : n ≡ i = cc in
        subst (λ (m : ℕ). FailsFirst run queries m i) (omega (arith, query)) (subst (FailsFirst run queries u) round f)

-- the round checks give no other number
pub refused_by_round : (run : Run) (queries : List ℕ) (cause : Cause) → rounds_outcome run queries 0 ≡ Err cause
    → number_of cause ≡ 11
refused_by_round run queries cause e = by (ended run queries 0)
  where
    by : Ended run queries 0 → number_of cause ≡ 11
    by (inl h) = absurd (refused_not_done cause (sym e ∙ h.0))
    by (inr (u, n, o, f)) = ap number_of_outcome (sym e ∙ o)

-- ---- entries read

pub read_all : (run : Run) (queries : List ℕ) → ((t : ℕ) → t < length queries → PassesEveryRound run (get_or queries t 0))
    → entries_read run queries ≡ length queries * entry_count (steps_in run)
unfolding entries_read
read_all run [] h = sym (zero-mul (entry_count (steps_in run)))
read_all run (j ∷ queries) h =
    ap (λ (p : Option ℕ). query_reads run p + unless_failed p (entries_read run queries))
    (passing run j (h 0 (omega arith)))
    ∙ ap (λ (n : ℕ). entry_count (steps_in run) + n) (read_all run queries (λ t l. h (suc t) (omega arith)))
    ∙ add_comm (entry_count (steps_in run)) (length queries * entry_count (steps_in run))
    ∙ sym (suc-mul (length queries) (entry_count (steps_in run)))

pub read_until : (run : Run) (queries : List ℕ) (t i : ℕ) → FailsFirst run queries t i
    → entries_read run queries ≡ t * entry_count (steps_in run) + query_reads run (Some i)
unfolding entries_read
read_until run [] t i f = absurd (omega (arith, f.query_within))
read_until run (j ∷ queries) zero i f =
    ap (λ (p : Option ℕ). query_reads run p + unless_failed p (entries_read run queries))
    (failing run j i f.round_within f.fails f.rounds_before)
    ∙ omega (arith, zero-mul (entry_count (steps_in run)))
read_until run (j ∷ queries) (suc t) i f =
    ap (λ (p : Option ℕ). query_reads run p + unless_failed p (entries_read run queries))
    (passing run j (f.queries_before 0 (omega arith)))
    ∙ ap (λ (n : ℕ). entry_count (steps_in run) + n) (read_until run queries t i (fails_later run j queries t i f))
    ∙ omega (arith, suc-mul t (entry_count (steps_in run)))

-- ---- for r steps of η

entries_alike : (n step : ℕ) → entry_count (replicate n step) ≡ n * 2 ^ step
unfolding entry_count
entries_alike zero step = sym (zero-mul (2 ^ step))
entries_alike (suc n) step =
    ap (λ (m : ℕ). 2 ^ step + m) (entries_alike n step) ∙ add_comm (2 ^ step) (n * 2 ^ step)
    ∙ sym (suc-mul n (2 ^ step))

taken_alike : (m n step : ℕ) → take m (replicate n step) ≡ replicate (min m n) step
taken_alike zero n step = sym (ap (λ (l : ℕ). replicate l step) (zero-min n))
taken_alike (suc m) zero step = sym (ap (λ (l : ℕ). replicate l step) (min-zero (suc m)))
taken_alike (suc m) (suc n) step =
    ap {B = List ℕ} (λ l. step ∷ l) (taken_alike m n step) ∙ sym (ap (λ (l : ℕ). replicate l step) (suc-min-suc m n))

pub entries_of_rounds : (run : Run) → entry_count (steps_in run) ≡ rounds_in run * 2 ^ run.step
entries_of_rounds run =
    entries_alike (rounds_of run.k run.rate run.step) run.step
    ∙ ap (λ (n : ℕ). n * 2 ^ run.step) (sym (length_steps run.k run.rate run.step))

pub entries_until : (run : Run) (i : ℕ) → query_reads run (Some i) ≡ min (i + 2) (rounds_in run) * 2 ^ run.step
entries_until run i =
    let r : ℕ = rounds_of run.k run.rate run.step in
    ap entry_count (taken_alike (i + 2) r run.step) ∙ entries_alike (min (i + 2) r) run.step
    ∙ ap (λ (n : ℕ). min (i + 2) n * 2 ^ run.step) (sym (length_steps run.k run.rate run.step))
