-- Lines by example, and the sheets beside the judge's answers. Assumes nothing.
use Rattle.refusal.specs.Numbers.{number_of_outcome}
use mathlib.Core.Path.{◌≡◌, refl, sym, ap, ap₂, ◌∙◌, subst}
use mathlib.Core.Logic.{◌≢◌, ◌⊎◌, ◌↔◌, inl, inr, ⊎_elim}
use mathlib.Core.Bool.{Bool, true, false, cond, ◌||◌}
use mathlib.Core.List.{List, []}
use Prim.Native.Nat.{ℕ, ◌+◌, ◌*◌, ◌%◌, ◌^◌, ◌≤◌, ◌<◌}
use native.Mathlib.Nat.{mul-le-mul}
use native.Mathlib.Omega.{arith}
use lib.Dec.{leb, eqb}
use lib.ListN.{length, get_or, take, drop, get_or-append}
use lib.Seq.{take_at, drop-nil, length-take-le}
use borrow.Author.Tests.{eqb-true, ne_eqb, leb-true, leb-false}
use Rattle.poly.proofs.Entries.{of_first}
use Rattle.refusal.specs.declared.Cause.TheVariants.{RoundCheckFails}
use Rattle.std.specs.Prelude.{Ok, Err}
use Rattle.refusal.specs.Outcome.{Outcome}
use Rattle.fri.specs.declared.Verdict.{Verdict}
use Rattle.fri.specs.Rounds.{value_computed, value_found}
use Rattle.fri.specs.Judge.{verdict_of, checks_outcome}
use Rattle.fri.proofs.Verdicts.{accepted_checks, accepted_by, refused_by}
use Rattle.transcript.specs.Numerals.{AreBytes}
use Rattle.transcript.specs.Sections.{transcript_rounds, run_in, queries_in}
use Rattle.transcript.specs.Checks.{transcript_outcome}
use Rattle.transcript.specs.Judge.{transcript_verdict, longest_transcript, input_limit, input_verdict}
use Rattle.transcript.specs.Theorems.{FrontNumber}
use Rattle.transcript.proofs.Carried.{checks_are, passed_carries}
use Rattle.transcript.proofs.Theorems.{judging_bytes, long_transcripts}
use Rattle.transcript.proofs.LongInputs.{long_inputs, never}
use Rattle.transcript.proofs.Theorems as transcripts
use Rattle.line_text.specs.Digits.{bytes, digits, places_within, decimal}
use Rattle.line_text.proofs.Decimals.{length_digits}
use Rattle.sheet_text.specs.Sheet.{decimal_field, value_field, mark_field, line_text, line_length, sheet_line}
use Rattle.sheet_text.specs.Sheet.{sheet_lines, has_lines, sheet_by, transcript_sheet, sheet_of, largest_sheet}
use Rattle.sheet_text.specs.Theorems.{Examples, hexadecimal_of, Hexadecimals, line_at, mark_at, SheetsBeside}
use Rattle.sheet_text.specs.Theorems.{Sheets}
use Rattle.sheet_text.proofs.Sheets.{Fits, length_all_lines, sheet_shown, sheet_empty, passed_fits, round_failed}
use Rattle.sheet_text.proofs.Sheets.{no_lines, sheet_refused}
use Rattle.sheet_text.proofs.Values.{passed_elements, IsDigit, digit_codes, hexadecimal}
use Rattle.sheet_text.proofs.Marks.{AllOk, FirstNo}
use Rattle.sheet_text.proofs.Marks as marks

-- ---- lines

pub examples : Examples
unfolding line_text decimal_field value_field mark_field decimal digits places_within bytes
examples = record { least = refl; largest = refl }

pub hexadecimals : Hexadecimals
unfolding value_field
hexadecimals =
    record {
      value = λ n h.
          ap hexadecimal_of (take_at (digits 16 16 n) (bytes " ") 16 (length_digits 16 16 n)) ∙ hexadecimal 16 n h;
      ascii = λ n i h.
          subst IsDigit (sym (get_or-append (digits 16 16 n) (bytes " ") 0 i (omega (arith, length_digits 16 16 n))))
          (digit_codes 16 n i (omega (arith, length_digits 16 16 n)));
    }

-- ---- the judge's answer and the checks

-- where the sections pass, the verdict is that of the run that the bytes carry
module _ (input : List ℕ) (passed : transcript_outcome input ≡ Ok tt) where
  carried_answer : (transcript_verdict input).answer ≡ (verdict_of (run_in input) (queries_in input)).answer
  carried_answer = ap (λ (v : Verdict). v.answer) (judging_bytes.carried input (passed_carries input passed))

  checks_done : checks_outcome (run_in input) (queries_in input) ≡ Ok tt
  checks_done = sym (checks_are input (passed_carries input passed)) ∙ passed

-- ---- a judge that answers as the one over bytes wherever there are lines

not_both : true ≡ false → ⊥
not_both e = let impossible : ◌≡◌ {A = ℕ} 0 1 = cc in omega arith

or_true : (a b : Bool) → (a || b) ≡ true → (a ≡ true) ⊎ (b ≡ true)
or_true true b e = inl refl
or_true false b e = inr e

-- there is no mark where there are no lines
no_mark : (n : ℕ) → mark_at [] n ≡ bytes "no" → ⊥
unfolding bytes
no_mark n e =
    omega (
      arith,
      ap (λ (text : List ℕ). length (take 2 (drop 53 (take line_length text)))) (drop-nil {A = ℕ} (line_length * n)),
      ap length e,
    )

module _ (judge : List ℕ → Verdict)
    (agrees : (input : List ℕ) → has_lines (judge input).answer ≡ true → judge input ≡ transcript_verdict input)
    (input : List ℕ) where
  abbrev answer : Outcome
  answer = (judge input).answer

  abbrev all_lines : List ℕ
  all_lines = sheet_lines (run_in input) (queries_in input) 0

  -- what is known where there are lines
  record Shown : Type 0 where
    sheet : sheet_by judge input ≡ all_lines
    same : answer ≡ (transcript_verdict input).answer
    passed : transcript_outcome input ≡ Ok tt

  passed_by : (transcript_verdict input).answer ≡ answer → has_lines answer ≡ true → (outcome : Outcome)
      → transcript_outcome input ≡ outcome → transcript_outcome input ≡ Ok tt
  passed_by same e (Ok _) o = o
  passed_by same e (Err cause) o =
      absurd (not_both (sym e ∙ sym (ap has_lines same) ∙ no_lines input cause o))

  shown_by : has_lines answer ≡ true → Shown
  shown_by e =
      let same : answer ≡ (transcript_verdict input).answer = ap (λ (v : Verdict). v.answer) (agrees input e) in
      record {
        sheet = sheet_shown judge input e;
        same = same;
        passed = passed_by (sym same) e (transcript_outcome input) refl;
      }

  shown : sheet_by judge input ≢ [] → Shown
  shown some = by (has_lines answer) refl
    where
      by : (test : Bool) → has_lines answer ≡ test → Shown
      by true e = shown_by e
      by false e = absurd (some (sheet_empty judge input e))

  fits : Shown → Fits (run_in input) (queries_in input)
  fits s = passed_fits input s.passed

  -- ---- which lines there are

  has_number : (number_of_outcome answer ≡ 0) ⊎ (number_of_outcome answer ≡ 11) → has_lines answer ≡ true
  has_number (inl e) = ap (λ (n : ℕ). eqb n 0 || eqb n 11) e
  has_number (inr e) = ap (λ (n : ℕ). eqb n 0 || eqb n 11) e

  not_empty : Shown → sheet_by judge input ≢ []
  not_empty s e =
      let f = fits s in
      let some : 1 * 1 ≤ length (queries_in input) * transcript_rounds input =
      mul-le-mul f.queries_some f.rounds_some in
      omega (arith, length_all_lines f, ap length (sym s.sheet ∙ e))

  lines : (sheet_by judge input ≢ []) ↔ ((number_of_outcome answer ≡ 0) ⊎ (number_of_outcome answer ≡ 11))
  lines = (
    λ some. by (has_lines answer) refl some,
    λ number. not_empty (shown_by (has_number number)),
  )
    where
      by : (test : Bool) → has_lines answer ≡ test → sheet_by judge input ≢ []
          → (number_of_outcome answer ≡ 0) ⊎ (number_of_outcome answer ≡ 11)
      by true e some =
          ⊎_elim (λ (z : eqb (number_of_outcome answer) 0 ≡ true). inl (eqb-true (number_of_outcome answer) 0 z))
          (λ (z : eqb (number_of_outcome answer) 11 ≡ true). inr (eqb-true (number_of_outcome answer) 11 z))
          (or_true (eqb (number_of_outcome answer) 0) (eqb (number_of_outcome answer) 11) e)
      by false e some = absurd (some (sheet_empty judge input e))

  count : sheet_by judge input ≢ []
      → length (sheet_by judge input) ≡ line_length * (length (queries_in input) * transcript_rounds input)
  count some = let s = shown some in ap length s.sheet ∙ length_all_lines (fits s)

  largest : length (sheet_by judge input) ≤ largest_sheet
  largest = by (has_lines answer) refl
    where
      by : (test : Bool) → has_lines answer ≡ test → length (sheet_by judge input) ≤ largest_sheet
      by true e =
          let s = shown_by e in
          let f = fits s in
          let most : length (queries_in input) * transcript_rounds input ≤ 256 * 19 =
          mul-le-mul f.queries_few f.rounds_few in
          omega (arith, ap length s.sheet, length_all_lines f)
      by false e = omega (arith, ap length (sheet_empty judge input e))

  -- ---- what the lines are

  line_feeds : (n : ℕ) → n < length (sheet_by judge input)
      → (get_or (sheet_by judge input) n 0 ≡ 10) ↔ (n % line_length ≡ 55)
  line_feeds n h =
      let s = shown (λ e. omega (arith, ap length e)) in
      subst (λ (text : List ℕ). n < length text → (get_or text n 0 ≡ 10) ↔ (n % line_length ≡ 55)) (sym s.sheet)
      (marks.feeds (fits s) n) h

  line : (t i : ℕ) → sheet_by judge input ≢ [] → t < length (queries_in input) → i < transcript_rounds input
      → line_at (sheet_by judge input) (t * transcript_rounds input + i)
      ≡ sheet_line (run_in input) t (get_or (queries_in input) t 0) i
  line t i some l m =
      let s = shown some in
      ap (λ (text : List ℕ). line_at text (t * transcript_rounds input + i)) s.sheet
      ∙ marks.line-at (fits s) t i l m

  values : (t i : ℕ) → AreBytes input → sheet_by judge input ≢ []
      → (value_computed (run_in input) (get_or (queries_in input) t 0) i < 2 ^ 64)
      × (value_found (run_in input) (get_or (queries_in input) t 0) i < 2 ^ 64)
  values t i h some = passed_elements input h (shown some).passed (get_or (queries_in input) t 0) i

  -- ---- what the marks tell

  accepted : sheet_by judge input ≢ [] → AllOk (sheet_by judge input) ↔ (answer ≡ Ok tt)
  accepted some =
      let s = shown some in
      let both = marks.all_ok (fits s) in (
        λ all. s.same ∙ carried_answer input s.passed
            ∙ accepted_by (run_in input) (queries_in input) (checks_done input s.passed)
            (both.0 (subst AllOk s.sheet all)),
        λ e. subst AllOk (sym s.sheet)
            (both.1
            (accepted_checks (run_in input) (queries_in input)
            (sym (s.same ∙ carried_answer input s.passed) ∙ e)).1),
      )

  abbrev First : ℕ → ℕ → List ℕ → Type 0
  First t i sheet = FirstNo sheet (length (queries_in input)) (transcript_rounds input) t i

  first_no : (t i : ℕ) → (answer ≡ Err (RoundCheckFails t i)) ↔ First t i (sheet_by judge input)
  first_no t i = (
    λ e.
        let s = shown_by (ap has_lines e) in
        subst (First t i) (sym s.sheet)
        ((marks.first_no (fits s) t i).0 (round_failed input t i (sym s.same ∙ e)).1),
    λ h.
        let n : ℕ = t * transcript_rounds input + i in
        let s = shown (λ e. no_mark n (ap (λ (text : List ℕ). mark_at text n) (sym e) ∙ h.2)) in
        s.same ∙ carried_answer input s.passed
        ∙ refused_by (run_in input) (queries_in input) t i (checks_done input s.passed)
        ((marks.first_no (fits s) t i).1 (subst (First t i) s.sheet h)),
  )

beside : (judge : List ℕ → Verdict)
    → ((input : List ℕ) → has_lines (judge input).answer ≡ true → judge input ≡ transcript_verdict input)
    → SheetsBeside judge
beside judge agrees =
    record {
      lines = lines judge agrees;
      count = count judge agrees;
      line_feeds = line_feeds judge agrees;
      line = line judge agrees;
      values = values judge agrees;
      accepted = accepted judge agrees;
      first_no = first_no judge agrees;
      largest = largest judge agrees;
    }

-- ---- the program and the library

-- over the limit the program gives neither 0 nor 11
other_numbers : (n : ℕ) → FrontNumber n ⊎ (n ≡ 14) → (eqb n 0 || eqb n 11) ≡ false
other_numbers n given = let others = never n given in ap₂ ◌||◌ (ne_eqb n 0 others.0) (ne_eqb n 11 others.3)

long_lines : (input : List ℕ) → input_limit < length input → has_lines (input_verdict input).answer ≡ false
long_lines input h = other_numbers (number_of_outcome (input_verdict input).answer) (long_inputs.numbers input h)

program_agrees : (input : List ℕ) → has_lines (input_verdict input).answer ≡ true
    → input_verdict input ≡ transcript_verdict input
program_agrees input h = by (leb (length input) input_limit) refl
  where
    by : (test : Bool) → leb (length input) input_limit ≡ test → input_verdict input ≡ transcript_verdict input
    by true e = transcripts.short input (leb-true (length input) input_limit e)
    by false e = absurd (not_both (sym h ∙ long_lines input (leb-false (length input) input_limit e)))

short : (input : List ℕ) → length input ≤ input_limit → sheet_of input ≡ transcript_sheet input
unfolding sheet_by
short input h =
    ap (λ (v : Verdict). cond (has_lines v.answer) (sheet_lines (run_in input) (queries_in input) 0) [])
    (transcripts.short input h)

long : (input : List ℕ) → input_limit < length input → sheet_of input ≡ []
long input h = sheet_empty input_verdict input (long_lines input h)

-- what has no sheet over a length has that of its first bytes, more than that
first_bytes : (sheet : List ℕ → List ℕ) (limit : ℕ) → ((input : List ℕ) → limit < length input → sheet input ≡ [])
    → (input : List ℕ) (read : ℕ) → limit < read → sheet (take read input) ≡ sheet input
first_bytes sheet limit none input read h =
    of_first sheet read input
    (λ (longer : read < length input).
    none (take read input) (omega (arith, length-take-le read input (omega arith))) ∙ sym (none input (omega arith)))

-- no transcript is longer than the longest
nothing_longer : (input : List ℕ) → longest_transcript < length input → transcript_sheet input ≡ []
nothing_longer input h = by (transcript_outcome input) refl
  where
    by : (outcome : Outcome) → transcript_outcome input ≡ outcome → transcript_sheet input ≡ []
    by (Ok _) e = absurd (omega (arith, long_transcripts.longest input e))
    by (Err cause) e = sheet_refused input cause e

pub sheets : Sheets
sheets =
    record {
      program = beside input_verdict program_agrees;
      library = beside transcript_verdict (λ input h. refl);
      short = short;
      long = long;
      whole = first_bytes sheet_of input_limit long;
      first = first_bytes transcript_sheet longest_transcript nothing_longer;
    }
