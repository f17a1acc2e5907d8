-- The two lines that the program `judge` prints of a verdict, as document 01 gives them, by their bytes.
use Rattle.std.specs.Prelude.{List, ◌++◌, ℕ}
use Rattle.std.specs.Prelude.{Option, Some, None, Ok, Err}
use Rattle.refusal.specs.Outcome.{Outcome}
use Rattle.fri.specs.declared.Verdict.{Verdict}
use Rattle.refusal.specs.Numbers.{number_of_outcome, place_of_outcome, round_of_outcome}
use Rattle.line_text.specs.Digits.{bytes, decimal}

-- a place or a round, or a hyphen where there is none
unfoldable pub or_hyphen : (position : Option ℕ) → List ℕ
or_hyphen (Some n) = decimal n
or_hyphen None = bytes "-"

-- the line's first word
unfoldable pub answer_text : (answer : Outcome) → List ℕ
answer_text (Ok _) = bytes "accepted"
answer_text (Err cause) = bytes "refused"

-- what follows the answer: number, place, round and reads, each after a space, and a line feed
unfoldable pub numbers_text : (number : ℕ) (place round : Option ℕ) (reads : ℕ) → List ℕ
numbers_text number place round reads =
    (bytes " " ++ decimal number)
    ++ (bytes " " ++ or_hyphen place)
    ++ (bytes " " ++ or_hyphen round)
    ++ (bytes " " ++ decimal reads)
    ++ bytes "\n"

-- the line: answer, number, place, round, reads
unfoldable pub line_of : (verdict : Verdict) → List ℕ
line_of verdict =
    answer_text verdict.answer
    ++ numbers_text
    (number_of_outcome verdict.answer)
    (place_of_outcome verdict.answer)
    (round_of_outcome verdict.answer)
    verdict.reads

-- the header and the line
unfoldable pub lines_of : (verdict : Verdict) → List ℕ
lines_of verdict = bytes "answer number place round reads\n" ++ line_of verdict
