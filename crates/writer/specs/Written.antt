-- The writer's promise in named parts.
use Rattle.std.specs.Prelude.{◌≡◌, List, ℕ, length}
use Rattle.refusal.specs.Outcome.{Outcome}
use Rattle.fri.specs.Run.{Run}
use Rattle.written.specs.Writer.{write_outcome, bytes_after}

-- what it answers on a run and its queries, and what the lent list of bytes, which held `held`, holds after it
pub record Written (run : Run) (queries held : List ℕ) (outcome : Outcome) (after : List ℕ) : Type 0 where
  pub answer : outcome ≡ write_outcome run queries (length held)
  pub bytes : after ≡ bytes_after run queries held
