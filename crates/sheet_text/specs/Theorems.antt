-- What is proved of marking sheets, stated of their bytes: proofs/Theorems.antt has the values.
use Rattle.std.specs.Prelude.{◌≡◌, ◌⊎◌, ◌↔◌, ◌≢◌, cond, List, [], ◌∷◌, ℕ, ◌+◌, ◌*◌, ◌-◌, ◌%◌, ◌^◌, ◌≤◌, ◌<◌, ltb, length, get_or, take, drop}
use Rattle.refusal.specs.declared.Cause.TheVariants.{RoundCheckFails}
use Rattle.std.specs.Prelude.{Ok, Err}
use Rattle.fri.specs.declared.Verdict.{Verdict}
use Rattle.fri.specs.Rounds.{value_computed, value_found}
use Rattle.refusal.specs.Numbers.{number_of_outcome}
use Rattle.transcript.specs.Numerals.{AreBytes}
use Rattle.transcript.specs.Sections.{transcript_rounds, run_in, queries_in}
use Rattle.transcript.specs.Judge.{transcript_verdict, longest_transcript, input_limit, input_verdict}
use Rattle.line_text.specs.Digits.{bytes}
use Rattle.sheet_text.specs.Sheet.{value_field, line_text, line_length, sheet_by}
use Rattle.sheet_text.specs.Sheet.{transcript_sheet, sheet_of, largest_sheet}

-- a line of the least numbers, and one of the largest query, index, round and value that a sheet has
pub record Examples : Type 0 where
  pub least : line_text 0 0 0 0 0 ≡ bytes "    0        0   0 0000000000000000 0000000000000000 ok\n"
  pub largest : line_text 255 (2 ^ 20 - 1) 18 (2 ^ 64 - 1) 10
      ≡ bytes "  255  1048575  18 ffffffffffffffff 000000000000000a no\n"

-- the value of a hexadecimal digit by its code
abbrev pub digit_value : (d : ℕ) → ℕ
digit_value d = cond (ltb d 97) (d - 48) (d - 87)

-- the number that hexadecimal digits stand for, read on after those that stand for `before`
unfoldable pub hexadecimal_after : (before : ℕ) (digits : List ℕ) → ℕ
hexadecimal_after before [] = before
hexadecimal_after before (d ∷ rest) = hexadecimal_after (16 * before + digit_value d) rest

abbrev pub hexadecimal_of : (digits : List ℕ) → ℕ
hexadecimal_of = hexadecimal_after 0

-- the 16 digits of a 64-bit value stand for it, and each is `0` to `9` or `a` to `f`
pub record Hexadecimals : Type 0 where
  pub value : (n : ℕ) → n < 2 ^ 64 → hexadecimal_of (take 16 (value_field n)) ≡ n
  pub ascii : (n i : ℕ) → i < 16
      → ((48 ≤ get_or (value_field n) i 0) × (get_or (value_field n) i 0 ≤ 57))
      ⊎ ((97 ≤ get_or (value_field n) i 0) × (get_or (value_field n) i 0 ≤ 102))

-- line n of a sheet, and the mark in it, behind 53 bytes
abbrev pub line_at : (sheet : List ℕ) (n : ℕ) → List ℕ
line_at sheet n = take line_length (drop (line_length * n) sheet)

abbrev pub mark_at : (sheet : List ℕ) (n : ℕ) → List ℕ
mark_at sheet n = take 2 (drop 53 (line_at sheet n))

-- the sheet beside what a judge of the same bytes answers
pub record SheetsBeside (judge : List ℕ → Verdict) : Type 0 where
  -- there are lines exactly where it accepts or answers 11
  pub lines : (input : List ℕ)
      → (sheet_by judge input ≢ [])
      ↔ ((number_of_outcome (judge input).answer ≡ 0) ⊎ (number_of_outcome (judge input).answer ≡ 11))
  -- then there are queries · r lines
  pub count : (input : List ℕ) → sheet_by judge input ≢ []
      → length (sheet_by judge input) ≡ line_length * (length (queries_in input) * transcript_rounds input)
  -- each has 55 bytes and a line feed: this is the last byte of every 56, and no other
  pub line_feeds : (input : List ℕ) (n : ℕ) → n < length (sheet_by judge input)
      → (get_or (sheet_by judge input) n 0 ≡ 10) ↔ (n % line_length ≡ 55)
  -- line t · r + i is that of query t, at its index as given, and round i, with the value computed and the value found
  pub line : (input : List ℕ) (t i : ℕ) → sheet_by judge input ≢ []
      → t < length (queries_in input) → i < transcript_rounds input
      → line_at (sheet_by judge input) (t * transcript_rounds input + i)
      ≡ line_text t (get_or (queries_in input) t 0) i (value_computed (run_in input) (get_or (queries_in input) t 0) i)
      (value_found (run_in input) (get_or (queries_in input) t 0) i)
  -- the values are 64-bit numbers, of which a line has all digits, where the input is of bytes
  pub values : (input : List ℕ) (t i : ℕ) → AreBytes input → sheet_by judge input ≢ []
      → (value_computed (run_in input) (get_or (queries_in input) t 0) i < 2 ^ 64)
      × (value_found (run_in input) (get_or (queries_in input) t 0) i < 2 ^ 64)
  -- where there are lines, all are `ok` if and only if the judge accepts
  pub accepted : (input : List ℕ) → sheet_by judge input ≢ []
      → ((n : ℕ) → line_length * n < length (sheet_by judge input) → mark_at (sheet_by judge input) n ≡ bytes "ok")
      ↔ ((judge input).answer ≡ Ok tt)
  -- the judge's 11 names the query and the round of the first `no`
  pub first_no : (input : List ℕ) (t i : ℕ)
      → ((judge input).answer ≡ Err (RoundCheckFails t i))
      ↔ ((t < length (queries_in input)) × (i < transcript_rounds input)
      × (mark_at (sheet_by judge input) (t * transcript_rounds input + i) ≡ bytes "no")
      × ((n : ℕ) → n < t * transcript_rounds input + i → mark_at (sheet_by judge input) n ≡ bytes "ok"))
  -- a list of this length has room for every sheet
  pub largest : (input : List ℕ) → length (sheet_by judge input) ≤ largest_sheet

pub record Sheets : Type 0 where
  -- what the program prints
  pub program : SheetsBeside input_verdict
  -- the sheet of a transcript of any length
  pub library : SheetsBeside transcript_verdict
  -- they are the same up to the limit; over it nothing is printed
  pub short : (input : List ℕ) → length input ≤ input_limit → sheet_of input ≡ transcript_sheet input
  pub long : (input : List ℕ) → input_limit < length input → sheet_of input ≡ []
  -- so the first bytes, more than the limit, have the sheet of the whole input, however long it is
  pub whole : (input : List ℕ) (read : ℕ) → input_limit < read → sheet_of (take read input) ≡ sheet_of input
  -- a reader of larger files needs no more bytes than those of the longest transcript and one
  pub first : (input : List ℕ) (read : ℕ) → longest_transcript < read
      → transcript_sheet (take read input) ≡ transcript_sheet input
