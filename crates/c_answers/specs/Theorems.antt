-- The five numbers of answers, by example, and the part that a lookup's answer names: proofs/Theorems.antt has the
-- values.
use Rattle.std.specs.Prelude.{◌≡◌, List, [], ◌∷◌, ℕ, length, take, drop}
use Rattle.refusal.specs.declared.Cause.TheVariants.{WrongLength, DegreeTooLarge, RoundCheckFails, CosetShared}
use Rattle.refusal.specs.declared.Lent.TheVariants as lent
use Rattle.std.specs.Prelude.{Ok, Err}
use Rattle.fri.specs.Lookup.{layer_part}
use Rattle.layout.specs.declared.Parameters.{Parameters}
use Rattle.layout.specs.Parts.{part_of}
use Rattle.c_answers.specs.Answers.{none, numbers_of, answer_of_folded, answer_of_proved, answer_of_part}
use Rattle.c_answers.specs.Answers.{answer_of_verdict}

pub record FoldNumbers : Type 0 where
  pub done : numbers_of (answer_of_folded (Ok (record { 0 = 0x48 }))) ≡ 0 ∷ none ∷ none ∷ 0 ∷ 0x48 ∷ []
  pub wrong_length : numbers_of (answer_of_folded (Err (WrongLength lent.NextBasis))) ≡ 13 ∷ 7 ∷ none ∷ 0 ∷ none ∷ []

-- prover, judge and lookup
pub record RunNumbers : Type 0 where
  pub proved : numbers_of (answer_of_proved (Ok tt)) ≡ 0 ∷ none ∷ none ∷ 0 ∷ none ∷ []
  -- the degree is place and value
  pub degree : numbers_of (answer_of_proved (Err (DegreeTooLarge 1))) ≡ 12 ∷ 1 ∷ none ∷ 0 ∷ 1 ∷ []
  pub store : numbers_of (answer_of_proved (Err (WrongLength lent.Store))) ≡ 13 ∷ 4 ∷ none ∷ 0 ∷ none ∷ []
  -- cases G and H
  pub accepted : numbers_of (answer_of_verdict (record { answer = Ok tt; reads = 4 }))
      ≡ 0 ∷ none ∷ none ∷ 4 ∷ none ∷ []
  pub refused : numbers_of (answer_of_verdict (record { answer = Err (RoundCheckFails 1 0); reads = 4 }))
      ≡ 11 ∷ 1 ∷ 0 ∷ 4 ∷ none ∷ []
  -- two queries in one first-layer coset
  pub shared : numbers_of (answer_of_verdict (record { answer = Err (CosetShared 1); reads = 0 }))
      ≡ 17 ∷ 1 ∷ none ∷ 0 ∷ none ∷ []
  -- as many entries as the value says, from the place on, are what the lookup hands back
  pub part : (p : Parameters) (store : List ℕ) (i : ℕ)
      → (let answer = answer_of_part (part_of p (length store) i) in take answer.value (drop answer.place store))
      ≡ layer_part p.k p.rate p.step store i
