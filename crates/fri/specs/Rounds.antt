-- The round checks: the two values of a check, and the first check that fails.
use Rattle.std.specs.Prelude.{Bool, cond, List, [], ◌∷◌, ℕ, zero, suc, ltb, eqb, get_or}
use Rattle.refusal.specs.declared.Cause.TheVariants.{RoundCheckFails}
use Rattle.std.specs.Prelude.{Option, Some, None, Ok, Err}
use Rattle.refusal.specs.Outcome.{Outcome}
use Rattle.refusal.specs.Checks.{and_then}
use Rattle.poly.specs.Carrier.{gf64}
use Rattle.poly.specs.Polynomial.{evaluate}
use Rattle.coset.specs.Coset.{point}
use Rattle.fold.specs.Fold.{fold_entry}
use Rattle.fri.specs.Layout.{index_in}
use Rattle.fri.specs.Run.{Run, steps_in, rounds_in, challenge_in, layer_in, step_in}
use Rattle.fri.specs.Layers.{basis_in, offset_in}

-- the value computed in round i for a query at index j: the fold, at challenge i, of the coset of layer i that
-- holds the query's index there
unfoldable pub value_computed : (run : Run) (j i : ℕ) → ℕ
value_computed run j i =
    fold_entry (step_in run i) (offset_in run i) (basis_in run i) (layer_in run i) (challenge_in run i)
    (index_in (steps_in run) j (suc i))

-- the value that it must equal: the entry of layer i + 1 at the query's index there or, in the last round,
-- the last polynomial at the point of layer r with that index
unfoldable pub value_found : (run : Run) (j i : ℕ) → ℕ
value_found run j i =
    cond (ltb (suc i) (rounds_in run)) (get_or (layer_in run (suc i)) (index_in (steps_in run) j (suc i)) 0)
    (evaluate gf64 run.last (point (offset_in run (suc i)) (basis_in run (suc i)) (index_in (steps_in run) j (suc i))))

-- the round check
abbrev pub round_passes : (run : Run) (j i : ℕ) → Bool
round_passes run j i = eqb (value_computed run j i) (value_found run j i)

-- the first round whose check fails for a query at index j, of the next `left` rounds from round i on
unfoldable pub first_failing_round : (run : Run) (j i left : ℕ) → Option ℕ
first_failing_round run j i zero = None
first_failing_round run j i (suc left) = cond (round_passes run j i) (first_failing_round run j (suc i) left) (Some i)

-- the first failing round of a query at index j, of all rounds
abbrev pub failing_round : (run : Run) (j : ℕ) → Option ℕ
failing_round run j = first_failing_round run j 0 (rounds_in run)

-- a failing check is refused with its query and round (11)
abbrev pub outcome_of_rounds : (query : ℕ) (failing : Option ℕ) → Outcome
outcome_of_rounds query (Some round) = Err (RoundCheckFails query round)
outcome_of_rounds query None = Ok tt

-- the first check that fails, lowest query first, then lowest round; the queries are counted from `query`
unfoldable pub rounds_outcome : (run : Run) (queries : List ℕ) (query : ℕ) → Outcome
rounds_outcome run [] query = Ok tt
rounds_outcome run (j ∷ queries) query =
    and_then (outcome_of_rounds query (failing_round run j)) (rounds_outcome run queries (suc query))
