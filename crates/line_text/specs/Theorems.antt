-- The lines by example, where a round is printed, and that decimal numbers are right: proofs/Theorems.antt has the
-- values.
use Rattle.std.specs.Prelude.{◌≡◌, ◌≢◌, List, [], ◌∷◌, ◌++◌, ℕ, ◌+◌, ◌*◌, ◌-◌, ◌^◌, ◌≤◌, ◌<◌, length, get_or}
use Rattle.refusal.specs.declared.Cause.TheVariants.{RoundCheckFails, CosetShared}
use Rattle.std.specs.Prelude.{Some, None, Ok, Err}
use Rattle.fri.specs.declared.Verdict.{Verdict}
use Rattle.refusal.specs.Numbers.{number_of_outcome, place_of_outcome}
use Rattle.line_text.specs.Digits.{bytes, decimal}
use Rattle.line_text.specs.Lines.{answer_text, numbers_text, line_of, lines_of}

-- the lines of the verdicts of cases G and H, of two queries in one coset, and the codes of the texts in them
pub record Examples : Type 0 where
  pub header : bytes "answer number place round reads\n"
      ≡ 97 ∷ 110 ∷ 115 ∷ 119 ∷ 101 ∷ 114 ∷ 32
      ∷ 110 ∷ 117 ∷ 109 ∷ 98 ∷ 101 ∷ 114 ∷ 32
      ∷ 112 ∷ 108 ∷ 97 ∷ 99 ∷ 101 ∷ 32
      ∷ 114 ∷ 111 ∷ 117 ∷ 110 ∷ 100 ∷ 32
      ∷ 114 ∷ 101 ∷ 97 ∷ 100 ∷ 115 ∷ 10 ∷ []
  pub answers : (bytes "accepted" ≡ 97 ∷ 99 ∷ 99 ∷ 101 ∷ 112 ∷ 116 ∷ 101 ∷ 100 ∷ [])
      × (bytes "refused" ≡ 114 ∷ 101 ∷ 102 ∷ 117 ∷ 115 ∷ 101 ∷ 100 ∷ [])
  pub others : bytes " -\n" ≡ 32 ∷ 45 ∷ 10 ∷ []
  pub accepted : lines_of (record { answer = Ok tt; reads = 4 })
      ≡ bytes "answer number place round reads\naccepted 0 - - 4\n"
  pub refused : lines_of (record { answer = Err (RoundCheckFails 1 0); reads = 4 })
      ≡ bytes "answer number place round reads\nrefused 11 1 0 4\n"
  pub shared : lines_of (record { answer = Err (CosetShared 1); reads = 0 })
      ≡ bytes "answer number place round reads\nrefused 17 1 - 0\n"

-- a round is printed with number 11 alone; in every other line there is a hyphen in its place
pub record PrintedRounds : Type 0 where
  pub eleven : (query round reads : ℕ)
      → line_of (record { answer = Err (RoundCheckFails query round); reads = reads })
      ≡ bytes "refused" ++ numbers_text 11 (Some query) (Some round) reads
  pub eleven_alone : (verdict : Verdict) → number_of_outcome verdict.answer ≢ 11
      → line_of verdict
      ≡ answer_text verdict.answer
      ++ numbers_text (number_of_outcome verdict.answer) (place_of_outcome verdict.answer) None verdict.reads

-- the number that decimal digits stand for, read on after those that stand for `before`
unfoldable pub value_after : (before : ℕ) (digits : List ℕ) → ℕ
value_after before [] = before
value_after before (d ∷ rest) = value_after (10 * before + (d - 48)) rest

abbrev pub value_of : (digits : List ℕ) → ℕ
value_of = value_after 0

-- of a 64-bit number the digits stand for it, each is `0` to `9`, and the first is not `0` but for 0 itself
pub record Decimals : Type 0 where
  pub value : (n : ℕ) → n < 2 ^ 64 → value_of (decimal n) ≡ n
  pub ascii : (n i : ℕ) → i < length (decimal n) → (48 ≤ get_or (decimal n) i 0) × (get_or (decimal n) i 0 ≤ 57)
  pub leading : (n : ℕ) → n < 2 ^ 64 → 0 < n → get_or (decimal n) 0 0 ≡ 48 → ⊥
  pub zero : decimal 0 ≡ bytes "0"
  pub largest : decimal (2 ^ 64 - 1) ≡ bytes "18446744073709551615"
