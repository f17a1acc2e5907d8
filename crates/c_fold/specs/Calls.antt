-- What `rz_fold` leaves in its lists, in named parts.
use Rattle.std.specs.Prelude.{◌≡◌, List, ℕ}
use Rattle.lone_fold.specs.Calls.{FoldCall, answer_of_call, values_after_call, next_after_call}
use Rattle.c_answers.specs.Answers.{answer_of_folded, answered, where_answered}

-- its answer, list 6 and list 7; `lent` is what the answer's list held, `numbers` what it holds afterwards
pub record FoldAnswered (call : FoldCall) (lent numbers filled basis : List ℕ) : Type 0 where
  pub answer : numbers ≡ answered (answer_of_folded (answer_of_call call)) lent
  pub output : filled ≡ where_answered lent (values_after_call call) call.values
  pub next : basis ≡ where_answered lent (next_after_call call) call.next
