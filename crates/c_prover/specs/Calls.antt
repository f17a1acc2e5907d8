-- What `rz_prove` leaves in its lists, in named parts.
use Rattle.std.specs.Prelude.{◌≡◌, List, ℕ}
use Rattle.fri.specs.Run.{Run}
use Rattle.fri.specs.Prover.{prove_outcome, store_after, last_after}
use Rattle.c_answers.specs.Answers.{answer_of_proved, answered, where_answered}

-- its answer, the store and the last coefficients; `lent` is what the answer's list held, `numbers` what it holds
-- afterwards
pub record ProofAnswered (run : Run) (lent numbers stored coefficients : List ℕ) : Type 0 where
  pub answer : numbers ≡ answered (answer_of_proved (prove_outcome run)) lent
  pub store : stored ≡ where_answered lent (store_after run) run.store
  pub last : coefficients ≡ where_answered lent (last_after run) run.last
