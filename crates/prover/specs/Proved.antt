-- The prover's promise in named parts.
use Rattle.std.specs.Prelude.{◌≡◌, List, ℕ}
use Rattle.refusal.specs.Outcome.{Outcome}
use Rattle.fri.specs.Run.{Run}
use Rattle.fri.specs.Prover.{prove_outcome, store_after, last_after}

-- what it answers on a run, and what it leaves in the two lent lists: the store and the list of last coefficients
pub record Proved (run : Run) (outcome : Outcome) (stored coefficients : List ℕ) : Type 0 where
  pub answer : outcome ≡ prove_outcome run
  pub store : stored ≡ store_after run
  pub last : coefficients ≡ last_after run
