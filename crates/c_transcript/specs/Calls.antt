-- What `rz_write_transcript` leaves in its lists, in named parts.
use Rattle.std.specs.Prelude.{◌≡◌, List, ℕ, length}
use Rattle.fri.specs.Run.{Run}
use Rattle.written.specs.Writer.{write_outcome, bytes_after}
use Rattle.c_answers.specs.Answers.{answer_of_outcome, answered, where_answered}

-- its answer, and list 8, which held `held`; `lent` is what the answer's list held, `numbers` what it holds afterwards
pub record WriteAnswered (run : Run) (queries held lent numbers left : List ℕ) : Type 0 where
  pub answer : numbers ≡ answered (answer_of_outcome (write_outcome run queries (length held))) lent
  pub bytes : left ≡ where_answered lent (bytes_after run queries held) held
