-- The lines of a run one after the other, and the sheet of bytes that pass or are refused. Assumes nothing.
use mathlib.Core.Path.{◌≡◌, refl, sym, ap, ap₂, ◌∙◌}
use mathlib.Core.Logic.{◌⊎◌, inl, inr}
use mathlib.Core.Bool.{Bool, true, false, cond}
use mathlib.Core.List.{List, [], ◌∷◌, ◌++◌, append_assoc, append-nil}
use Prim.Native.Nat.{ℕ, zero, suc, ◌+◌, ◌*◌, ◌^◌, ◌≤◌, ◌<◌}
use native.Mathlib.Nat.{add-zero, zero-add, suc-add, add-suc, zero-mul, suc-mul, lt_of_lt_of_le}
use native.Mathlib.Omega.{arith}
use lib.Pow.{pow_pos, pow_mono}
use lib.ListN.{length, get_or, take, length-append}
use lib.Seq.{take-suc, take-length, length-take-le}
use Rattle.poly.proofs.Entries.{all_get_d}
use Rattle.refusal.specs.declared.Cause.{Cause}
use Rattle.refusal.specs.declared.Cause.TheVariants.{BytesEnd, CountDiffers, TrailingBytes, DimensionOutOfRange}
use Rattle.refusal.specs.declared.Cause.TheVariants.{RateOutOfRange, StepOutOfRange, DimensionTooSmall}
use Rattle.refusal.specs.declared.Cause.TheVariants.{BasisDependent, QueryCountOutOfRange, QueryOutOfRange}
use Rattle.refusal.specs.declared.Cause.TheVariants.{RoundCheckFails, DegreeTooLarge, WrongLength, InputTooLong}
use Rattle.refusal.specs.declared.Cause.TheVariants.{CosetShared}
use Rattle.std.specs.Prelude.{Ok, Err}
use Rattle.refusal.specs.Outcome.{Outcome}
use Rattle.refusal.proofs.Checks.{refused_not_done, then_passed}
use Rattle.fri.specs.declared.Verdict.{Verdict}
use Rattle.fri.specs.Run.{Run, rounds_in}
use Rattle.fri.specs.Rounds.{value_computed, value_found, rounds_outcome}
use Rattle.fri.specs.Judge.{checks_outcome}
use Rattle.fri.specs.Theorems.{FailsFirst}
use Rattle.fri.proofs.Layouts as layouts
use Rattle.fri.proofs.Checks.{run_valid}
use Rattle.fri.proofs.Rounds.{Ended, ended}
use Rattle.fri.proofs.Verdicts.{checks_valid}
use Rattle.fri.proofs.RoundChecks.{round_checks}
use Rattle.transcript.specs.Sections.{transcript_rounds, run_in, queries_in}
use Rattle.transcript.specs.Checks.{transcript_outcome}
use Rattle.transcript.specs.Judge.{transcript_verdict}
use Rattle.transcript.specs.Theorems.{Carries}
use Rattle.transcript.proofs.Carried.{checks_are, passed_carries}
use Rattle.transcript.proofs.Theorems.{judging_bytes}
use Rattle.sheet_text.specs.Sheet.{line_length, sheet_line, query_lines, sheet_lines, has_lines, sheet_by}
use Rattle.sheet_text.specs.Sheet.{transcript_sheet}
use Rattle.sheet_text.proofs.Lines.{length_line}

-- ---- the lines of a query

module _ (run : Run) (query j : ℕ) where
  -- those of the first m rounds, then those of the next n
  pub query_lines_append : (i m n : ℕ)
      → query_lines run query j i (m + n) ≡ query_lines run query j i m ++ query_lines run query j (i + m) n
  unfolding query_lines
  query_lines_append i zero n =
      ap₂ (λ (a b : ℕ). query_lines run query j a b) (sym (add-zero i)) (zero-add n)
  query_lines_append i (suc m) n =
      ap (λ (c : ℕ). query_lines run query j i c) (suc-add m n)
      ∙ ap (λ (text : List ℕ). sheet_line run query j i ++ text) (query_lines_append (suc i) m n)
      ∙ sym (append_assoc (sheet_line run query j i) (query_lines run query j (suc i) m)
      (query_lines run query j (suc i + m) n))
      ∙ ap (λ (a : ℕ). query_lines run query j i (suc m) ++ query_lines run query j a n) (suc-add i m ∙ sym (add-suc i m))

  -- the lines of rounds 0 to i are those before round i and that of round i
  pub query_lines_next : (i : ℕ)
      → query_lines run query j 0 (suc i) ≡ query_lines run query j 0 i ++ sheet_line run query j i
  unfolding query_lines
  query_lines_next i =
      ap (query_lines run query j 0) more
      ∙ query_lines_append 0 i 1
      ∙ ap (λ (text : List ℕ). query_lines run query j 0 i ++ text) (append-nil (sheet_line run query j (0 + i)))
      ∙ ap (λ (a : ℕ). query_lines run query j 0 i ++ sheet_line run query j a) (zero-add i)
    where
      more : suc i ≡ i + 1
      more = omega arith

  pub length_query_lines : (i n : ℕ) → query < 100000 → j < 100000000 → i + n ≤ 1000
      → length (query_lines run query j i n) ≡ line_length * n
  unfolding query_lines
  length_query_lines i zero q l h = refl
  length_query_lines i (suc n) q l h =
      length-append (sheet_line run query j i) (query_lines run query j (suc i) n)
      ∙ omega (
        arith,
        length_line query j i (value_computed run j i) (value_found run j i) q l (omega arith),
        length_query_lines (suc i) n q l (omega arith),
      )

-- ---- the lines of several queries

-- those of some queries, then those of the queries after them
pub sheet_lines_append : (run : Run) (queries more : List ℕ) (query : ℕ)
    → sheet_lines run (queries ++ more) query
    ≡ sheet_lines run queries query ++ sheet_lines run more (query + length queries)
unfolding sheet_lines
sheet_lines_append run [] more query = ap (sheet_lines run more) (sym (add-zero query))
sheet_lines_append run (j ∷ queries) more query =
    ap (λ (text : List ℕ). query_lines run query j 0 (rounds_in run) ++ text)
    (sheet_lines_append run queries more (suc query))
    ∙ sym (append_assoc (query_lines run query j 0 (rounds_in run)) (sheet_lines run queries (suc query))
    (sheet_lines run more (suc query + length queries)))
    ∙ ap (λ (n : ℕ). sheet_lines run (j ∷ queries) query ++ sheet_lines run more n)
    (suc-add query (length queries) ∙ sym (add-suc query (length queries)))

-- the lines of queries 0 to t are those before query t and those of query t
pub sheet_lines_next : (run : Run) (queries : List ℕ) (t : ℕ) → t < length queries
    → sheet_lines run (take (suc t) queries) 0
    ≡ sheet_lines run (take t queries) 0 ++ query_lines run t (get_or queries t 0) 0 (rounds_in run)
unfolding sheet_lines
sheet_lines_next run queries t h =
    ap (λ (l : List ℕ). sheet_lines run l 0) (take-suc queries t 0 h)
    ∙ sheet_lines_append run (take t queries) (get_or queries t 0 ∷ []) 0
    ∙ ap (λ (text : List ℕ). sheet_lines run (take t queries) 0 ++ text)
    (append-nil (query_lines run (0 + length (take t queries)) (get_or queries t 0) 0 (rounds_in run)))
    ∙ ap (λ (n : ℕ). sheet_lines run (take t queries) 0 ++ query_lines run n (get_or queries t 0) 0 (rounds_in run)) place
  where
    place : 0 + length (take t queries) ≡ t
    place = omega (arith, length-take-le t queries (omega arith))

-- ---- numbers that fit in a line

-- what the checks before the round checks leave of a run and its queries
pub record Fits (run : Run) (queries : List ℕ) : Type 0 where
  pub rounds_some : 1 ≤ rounds_in run
  pub rounds_few : rounds_in run ≤ 19
  pub queries_some : 1 ≤ length queries
  pub queries_few : length queries ≤ 256
  pub indices : (t : ℕ) → get_or queries t 0 < 2 ^ 20

pub checked_fits : (run : Run) (queries : List ℕ) → checks_outcome run queries ≡ Ok tt → Fits run queries
checked_fits run queries done =
    let passed = checks_valid run queries done in
    let valid = (run_valid run passed.0).0 in
    record {
      rounds_some = layouts.some_round run.k run.rate run.step valid.step_least valid.k_enough;
      rounds_few =
          layouts.rounds_few run.k run.rate run.step valid.rate_least valid.step_least valid.k_most;
      queries_some = passed.1.least;
      queries_few = passed.1.most;
      indices = λ t.
          lt_of_lt_of_le (all_get_d (λ j. j < 2 ^ run.k) queries t 0 (pow_pos run.k) passed.1.within)
          (pow_mono {i = run.k} {j = 20} valid.k_most);
    }

module _ {run : Run} {queries : List ℕ} (fits : Fits run queries) where
  pub length_sheet_lines : (t : ℕ) → t ≤ length queries
      → length (sheet_lines run (take t queries) 0) ≡ line_length * (t * rounds_in run)
  unfolding sheet_lines
  length_sheet_lines zero h = omega (arith, zero-mul (rounds_in run))
  length_sheet_lines (suc t) h =
      ap length (sheet_lines_next run queries t h)
      ∙ length-append (sheet_lines run (take t queries) 0) (query_lines run t (get_or queries t 0) 0 (rounds_in run))
      ∙ omega (
        arith,
        suc-mul t (rounds_in run),
        length_sheet_lines t (omega arith),
        length_query_lines run t (get_or queries t 0) 0 (rounds_in run) (omega arith)
            (omega (arith, fits.indices t)) (omega arith),
      )

  pub length_all_lines : length (sheet_lines run queries 0) ≡ line_length * (length queries * rounds_in run)
  length_all_lines =
      ap (λ (l : List ℕ). length (sheet_lines run l 0)) (sym (take-length queries))
      ∙ length_sheet_lines (length queries) (omega arith)

-- ---- which bytes have lines

-- of all causes a failed round check alone has lines
lines_of_cause : (cause : Cause)
    → (has_lines (Err cause) ≡ false) ⊎ ((query : ℕ) × (round : ℕ) × (cause ≡ RoundCheckFails query round))
lines_of_cause (BytesEnd section) = inl refl
lines_of_cause (CountDiffers section) = inl refl
lines_of_cause TrailingBytes = inl refl
lines_of_cause DimensionOutOfRange = inl refl
lines_of_cause RateOutOfRange = inl refl
lines_of_cause StepOutOfRange = inl refl
lines_of_cause DimensionTooSmall = inl refl
lines_of_cause (BasisDependent place) = inl refl
lines_of_cause QueryCountOutOfRange = inl refl
lines_of_cause (QueryOutOfRange query) = inl refl
lines_of_cause (RoundCheckFails query round) = inr (query, round, refl)
lines_of_cause (DegreeTooLarge degree) = inl refl
lines_of_cause (WrongLength list) = inl refl
lines_of_cause InputTooLong = inl refl
lines_of_cause (CosetShared query) = inl refl

-- the sheet by whether the judge's answer has lines
module _ (judge : List ℕ → Verdict) (bytes : List ℕ) where
  pub sheet_shown : has_lines (judge bytes).answer ≡ true
      → sheet_by judge bytes ≡ sheet_lines (run_in bytes) (queries_in bytes) 0
  unfolding sheet_by
  sheet_shown e = ap (λ (t : Bool). cond t (sheet_lines (run_in bytes) (queries_in bytes) 0) []) e

  pub sheet_empty : has_lines (judge bytes).answer ≡ false → sheet_by judge bytes ≡ []
  unfolding sheet_by
  sheet_empty e = ap (λ (t : Bool). cond t (sheet_lines (run_in bytes) (queries_in bytes) 0) []) e

module _ (bytes : List ℕ) where
  abbrev run : Run
  run = run_in bytes

  abbrev queries : List ℕ
  queries = queries_in bytes

  -- ---- bytes whose sections pass

  pub passed_fits : transcript_outcome bytes ≡ Ok tt → Fits run queries
  passed_fits done = checked_fits run queries (sym (checks_are bytes (passed_carries bytes done)) ∙ done)

  passed_lines : transcript_outcome bytes ≡ Ok tt → (outcome : Outcome) → rounds_outcome run queries 0 ≡ outcome
      → has_lines outcome ≡ true → has_lines (transcript_verdict bytes).answer ≡ true
  unfolding transcript_verdict
  passed_lines done outcome e h =
      ap has_lines
      (sym (then_passed (transcript_outcome bytes) (rounds_outcome run queries 0) done) ∙ e)
      ∙ h

  pub has-lines : transcript_outcome bytes ≡ Ok tt → has_lines (transcript_verdict bytes).answer ≡ true
  has-lines done = by (ended run queries 0)
    where
      by : Ended run queries 0 → has_lines (transcript_verdict bytes).answer ≡ true
      by (inl (o, all)) = passed_lines done (Ok tt) o refl
      by (inr (t, i, o, f)) = passed_lines done (Err (RoundCheckFails (0 + t) i)) o refl

  pub sheet_passed : transcript_outcome bytes ≡ Ok tt → transcript_sheet bytes ≡ sheet_lines run queries 0
  sheet_passed done = sheet_shown transcript_verdict bytes (has-lines done)

  pub length_sheet : transcript_outcome bytes ≡ Ok tt
      → length (transcript_sheet bytes) ≡ line_length * (length queries * transcript_rounds bytes)
  length_sheet done = ap length (sheet_passed done) ∙ length_all_lines (passed_fits done)

  -- ---- bytes whose sections are refused

  -- a failed round check is told only where they pass
  pub round_failed : (query round : ℕ) → (transcript_verdict bytes).answer ≡ Err (RoundCheckFails query round)
      → (transcript_outcome bytes ≡ Ok tt) × FailsFirst run queries query round
  round_failed query round e =
      let c : Carries bytes = judging_bytes.refused bytes query round e in
      let both = (round_checks.refused run queries query round).0
      (sym (ap (λ (v : Verdict). v.answer) (judging_bytes.carried bytes c)) ∙ e) in
      (checks_are bytes c ∙ both.0, both.1)

  pub no_lines : (cause : Cause) → transcript_outcome bytes ≡ Err cause
      → has_lines (transcript_verdict bytes).answer ≡ false
  no_lines cause e = ap has_lines told ∙ by (lines_of_cause cause)
    where
      told : (transcript_verdict bytes).answer ≡ Err cause
      told = ap (λ (v : Verdict). v.answer) (judging_bytes.early bytes cause e)

      by : (has_lines (Err cause) ≡ false) ⊎ ((query : ℕ) × (round : ℕ) × (cause ≡ RoundCheckFails query round))
          → has_lines (Err cause) ≡ false
      by (inl none) = none
      by (inr (query, round, is)) =
          absurd (refused_not_done cause (sym e ∙ (round_failed query round (told ∙ ap Err is)).0))

  pub sheet_refused : (cause : Cause) → transcript_outcome bytes ≡ Err cause → transcript_sheet bytes ≡ []
  sheet_refused cause e = sheet_empty transcript_verdict bytes (no_lines cause e)
