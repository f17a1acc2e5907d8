-- The marking sheet of a transcript (02, Q-3), by its bytes: a line for every query and every round, without a header.
use Rattle.std.specs.Prelude.{Bool, cond, ◌||◌, List, [], ◌∷◌, ◌++◌, ℕ, zero, suc, ◌*◌, ◌-◌, leb, eqb, length, drop, replicate}
use Rattle.refusal.specs.Outcome.{Outcome}
use Rattle.fri.specs.declared.Verdict.{Verdict}
use Rattle.fri.specs.Run.{Run, rounds_in}
use Rattle.fri.specs.Rounds.{value_computed, value_found}
use Rattle.refusal.specs.Numbers.{number_of_outcome}
use Rattle.transcript.specs.Sections.{run_in, queries_in}
use Rattle.transcript.specs.Judge.{transcript_verdict, input_verdict}
use Rattle.line_text.specs.Digits.{bytes, digits, decimal}

-- ---- a line

-- a text with spaces on its left, so that it has `width` bytes, if it has not more
abbrev pub left_padded : (width : ℕ) (text : List ℕ) → List ℕ
left_padded width text = replicate (width - length text) 32 ++ text

-- a decimal number in `width` bytes, and the space after it
unfoldable pub decimal_field : (width n : ℕ) → List ℕ
decimal_field width n = left_padded width (decimal n) ++ bytes " "

-- a value in 16 hexadecimal digits, and the space after it
unfoldable pub value_field : (value : ℕ) → List ℕ
value_field value = digits 16 16 value ++ bytes " "

-- `ok` where the two values are equal, else `no`, and the line feed
unfoldable pub mark_field : (computed found : ℕ) → List ℕ
mark_field computed found = cond (eqb computed found) (bytes "ok\n") (bytes "no\n")

-- a line: the query's place in the list and its index as given, the round, the two values and the mark
unfoldable pub line_text : (query index round computed found : ℕ) → List ℕ
line_text query index round computed found =
    decimal_field 5 query ++ decimal_field 8 index ++ decimal_field 3 round
    ++ value_field computed ++ value_field found ++ mark_field computed found

-- how many bytes a line has, its line feed counted
abbrev pub line_length : ℕ
line_length = 56

-- ---- the lines of a run

-- the line of a query at index j in round i
abbrev pub sheet_line : (run : Run) (query j i : ℕ) → List ℕ
sheet_line run query j i = line_text query j i (value_computed run j i) (value_found run j i)

-- the lines of a query at index j, of the next `left` rounds from round i on
unfoldable pub query_lines : (run : Run) (query j i left : ℕ) → List ℕ
query_lines run query j i zero = []
query_lines run query j i (suc left) = sheet_line run query j i ++ query_lines run query j (suc i) left

-- all lines, by query, then round; the queries are counted from `query`
unfoldable pub sheet_lines : (run : Run) (queries : List ℕ) (query : ℕ) → List ℕ
sheet_lines run [] query = []
sheet_lines run (j ∷ queries) query =
    query_lines run query j 0 (rounds_in run) ++ sheet_lines run queries (suc query)

-- ---- the sheet

-- there are lines where the judge accepts (0) or a round check fails (11)
abbrev pub has_lines : (answer : Outcome) → Bool
has_lines answer = eqb (number_of_outcome answer) 0 || eqb (number_of_outcome answer) 11

-- the lines of the run that an input of bytes carries, or nothing, as a judge of it answers
unfoldable pub sheet_by : (judge : List ℕ → Verdict) (input : List ℕ) → List ℕ
sheet_by judge input = cond (has_lines (judge input).answer) (sheet_lines (run_in input) (queries_in input) 0) []

-- the sheet of a transcript of any length
abbrev pub transcript_sheet : (input : List ℕ) → List ℕ
transcript_sheet = sheet_by transcript_verdict

-- what the program `sheet` prints of its input: nothing over the limit (`Sheets.long`)
abbrev pub sheet_of : (input : List ℕ) → List ℕ
sheet_of = sheet_by input_verdict

-- the bytes of the largest sheet: 256 queries of 19 rounds
abbrev pub largest_sheet : ℕ
largest_sheet = 256 * 19 * line_length

-- what a lent list holds after a text was put at its front: what stood behind it stays, and all of it where there is
-- no room for the text
abbrev pub in_front : (text held : List ℕ) → List ℕ
in_front text held = cond (leb (length text) (length held)) (text ++ drop (length text) held) held
