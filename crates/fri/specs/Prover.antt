-- What the prover answers, and what the two lent lists hold afterwards; the run's store and last coefficients
-- are what they held before.
use Rattle.std.specs.Prelude.{List, ℕ, ◌-◌, leb}
use Rattle.refusal.specs.declared.Cause.TheVariants.{DegreeTooLarge}
use Rattle.std.specs.Prelude.{Ok}
use Rattle.refusal.specs.Outcome.{Outcome}
use Rattle.refusal.specs.Checks.{refused_unless, and_then, afterwards}
use Rattle.poly.specs.Degree.{degree_bound}
use Rattle.fri.specs.Layout.{last_count}
use Rattle.fri.specs.Run.{Run, steps_in}
use Rattle.fri.specs.Layers.{honest_store, honest_last, last_interpolant}
use Rattle.fri.specs.Checks.{run_outcome}

-- layer r must have degree below d, else its degree is told (12)
abbrev pub degree_outcome : (run : Run) → Outcome
degree_outcome run =
    refused_unless (leb (degree_bound (last_interpolant run)) (last_count run.k run.rate (steps_in run)))
    (DegreeTooLarge (degree_bound (last_interpolant run) - 1)) (Ok tt)

-- all checks in the order of document 01: 4, 5, 6, 7, 13, 8, 12
abbrev pub prove_outcome : (run : Run) → Outcome
prove_outcome run = and_then (run_outcome run) (degree_outcome run)

-- the store: the honest folds, also where the degree is refused
abbrev pub store_after : (run : Run) → List ℕ
store_after run = afterwards (run_outcome run) (honest_store run) run.store

-- the last coefficients: the honest ones, or what the list held
abbrev pub last_after : (run : Run) → List ℕ
last_after run = afterwards (prove_outcome run) (honest_last run) run.last
