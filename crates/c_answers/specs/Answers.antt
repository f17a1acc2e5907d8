-- The convention of the C interface: an answer is five numbers, in a lent list of length 5.
use Rattle.std.specs.Prelude.{cond, List, [], ◌∷◌, ℕ, ◌-◌, ◌^◌, eqb, length}
use Rattle.refusal.specs.declared.Cause.{Cause}
use Rattle.std.specs.Prelude.{Option, Some, None, Result}
use Rattle.refusal.specs.Outcome.{Outcome}
use Rattle.field.specs.declared.Element.{Element}
use Rattle.refusal.specs.Numbers.{number_of_outcome, place_of_outcome, round_of_outcome}
use Rattle.fold.specs.Answers.{value_of_folded}
use Rattle.fri.specs.declared.Verdict.{Verdict}
use Rattle.layout.specs.declared.Part.{Part}
use Rattle.c_answers.specs.declared.Answer.{Answer}

-- stands for a place, a round or a value that there is none of
abbrev pub none : ℕ
none = 2 ^ 64 - 1

-- a place or a round is far below 2^64 - 1, being a small number, a degree or an index of a list
abbrev pub or_none : (position : Option ℕ) → ℕ
or_none (Some n) = n
or_none None = none

-- it went well: `value` where the operation gives one, which may be any number, and `none` where it gives none
abbrev pub answer_of_value : (reads value : ℕ) → Answer
answer_of_value reads value = record { number = 0; place = none; round = none; reads = reads; value = value }

-- number, place and round of a result, which are a refusal's, beside reads and a value
abbrev pub answer_of_result : {A : Type 0} (result : Result A Cause) (reads value : ℕ) → Answer
answer_of_result result reads value =
    record {
      number = number_of_outcome result;
      place = or_none (place_of_outcome result);
      round = or_none (round_of_outcome result);
      reads = reads;
      value = value;
    }

-- the answer of a fold, whose value is the next offset; only a judge counts reads
abbrev pub answer_of_folded : (folded : Result Element Cause) → Answer
answer_of_folded folded = answer_of_result folded 0 (value_of_folded folded none)

-- the answer of an operation that reads nothing and gives no value
abbrev pub answer_of_outcome : (outcome : Outcome) → Answer
answer_of_outcome outcome = answer_of_result outcome 0 none

-- the answer of the prover: the degree that number 12 tells is its value too
abbrev pub answer_of_proved : (outcome : Outcome) → Answer
answer_of_proved outcome =
    answer_of_result outcome 0 (cond (eqb (number_of_outcome outcome) 12) (or_none (place_of_outcome outcome)) none)

-- the answer of the layer lookup: where the part begins and how long it is
abbrev pub answer_of_part : (part : Part) → Answer
answer_of_part part = record { number = 0; place = part.start; round = none; reads = 0; value = part.length }

-- the answer of a judging, with the entries read: 0 unless the round checks were begun
abbrev pub answer_of_verdict : (verdict : Verdict) → Answer
answer_of_verdict verdict = answer_of_result verdict.answer verdict.reads none

-- number, place, round, reads, value
abbrev pub numbers_of : (a : Answer) → List ℕ
numbers_of a = a.number ∷ a.place ∷ a.round ∷ a.reads ∷ a.value ∷ []

-- what the lent list holds afterwards: the five numbers, or what it held where its length is not 5
abbrev pub answered : (a : Answer) (lent : List ℕ) → List ℕ
answered a lent = cond (eqb (length lent) 5) (numbers_of a) lent

-- what another lent list holds afterwards: what the operation leaves there, or what it held where the answer's list
-- has not length 5
abbrev pub where_answered : (lent left held : List ℕ) → List ℕ
where_answered lent left held = cond (eqb (length lent) 5) left held
