-- A call of the lone fold: its promise in named parts, and what it asks after the checks.
use Rattle.std.specs.Prelude.{◌≡◌, List, ℕ, ◌-◌, ◌^◌, ◌≤◌, length}
use Rattle.std.specs.Prelude.{Result}
use Rattle.refusal.specs.Outcome.{Outcome}
use Rattle.refusal.specs.declared.Cause.{Cause}
use Rattle.field.specs.declared.Element.{Element}
use Rattle.fold.specs.Answers.{fold_outcome, fold_answer, fold_values_after, next_basis_after}

-- what a call is given
pub record FoldCall : Type 0 where
  pub k : ℕ
  pub step : ℕ
  pub offset : ℕ
  pub basis : List ℕ
  pub word : List ℕ
  pub challenge : ℕ
  -- what the two lent lists held: list 6, for the values, and list 7, for the next basis
  pub values : List ℕ
  pub next : List ℕ

-- what all checks of a call give
abbrev pub outcome_of_call : (call : FoldCall) → Outcome
outcome_of_call call =
    fold_outcome call.k call.step call.basis call.word call.values call.next

-- its answer
abbrev pub answer_of_call : (call : FoldCall) → Result Element Cause
answer_of_call call =
    fold_answer call.k call.step call.offset call.basis call.word call.values call.next

-- what list 6 holds afterwards
abbrev pub values_after_call : (call : FoldCall) → List ℕ
values_after_call call =
    fold_values_after call.k call.step call.offset call.basis call.word call.challenge call.values
    call.next

-- what list 7 holds afterwards
abbrev pub next_after_call : (call : FoldCall) → List ℕ
next_after_call call =
    next_basis_after call.k call.step call.basis call.word call.values call.next

-- what a call answers, and what it leaves in the two lent lists
pub record FoldedBy (call : FoldCall) (folded : Result Element Cause) (filled basis : List ℕ) : Type 0 where
  pub answer : folded ≡ answer_of_call call
  pub output : filled ≡ values_after_call call
  pub next : basis ≡ next_after_call call

-- what holds after the checks, besides the coset's own facts
pub record CallFits (step : ℕ) (basis word values next : List ℕ) : Type 0 where
  pub step_least : 1 ≤ step
  pub step_most : step ≤ 3
  pub step_fits : step ≤ length basis
  pub word_fits : length word ≡ 2 ^ length basis
  pub values_fit : length values ≡ 2 ^ (length basis - step)
  pub next_fits : length next ≡ length basis - step
