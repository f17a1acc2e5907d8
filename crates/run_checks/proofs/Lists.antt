-- The checks of parameters and lists as one group: what is known where it passes, and what comes after it. Assumes
-- nothing.
use mathlib.Core.Path.{◌≡◌, sym}
use Rattle.std.specs.Prelude.{Ok}
use Rattle.refusal.specs.Outcome.{Outcome}
use Rattle.refusal.specs.Checks.{and_then}
use Rattle.refusal.proofs.Checks.{then_done, then_then}
use Rattle.fri.specs.Run.{Run}
use Rattle.fri.specs.Checks.{parameters_outcome, lengths_outcome}
use Rattle.fri.specs.Demand.{ValidParameters}
use Rattle.fri.specs.Theorems.{Fit}
use Rattle.fri.proofs.Checks.{parameters_valid, lengths_fit}

module _ (run : Run) where
  abbrev ranges : Outcome
  ranges = parameters_outcome run.k run.rate run.step

  -- what `checked_lists` answers
  abbrev pub of_lists : Outcome
  of_lists = and_then ranges (lengths_outcome run)

  pub lists_then : (after : Outcome) → and_then of_lists after ≡ and_then ranges (and_then (lengths_outcome run) after)
  lists_then after = sym (then_then ranges (lengths_outcome run) after)

  module _ (done : of_lists ≡ Ok tt) where
    pub lists_valid : ValidParameters run.k run.rate run.step
    lists_valid = parameters_valid run.k run.rate run.step (then_done ranges (lengths_outcome run) done).0

    pub lists_fit : Fit run
    lists_fit = lengths_fit run (then_done ranges (lengths_outcome run) done).1
