-- The round checks, and the verdict after them with the entries read. Assumes nothing.
use mathlib.Core.Path.{◌≡◌, sym, ap, subst}
use mathlib.Core.Logic.{◌≢◌, ⊎_elim}
use mathlib.Core.List.{List}
use Prim.Native.Nat.{ℕ, suc, ◌+◌, ◌*◌, ◌/◌, ◌^◌, ◌≤◌, ◌<◌, min}
use native.Mathlib.Nat.{le_of_eq, ne_of_lt}
use native.Mathlib.Omega.{arith}
use lib.ListN.{length, get_or}
use Rattle.refusal.specs.declared.Cause.{Cause}
use Rattle.refusal.specs.declared.Cause.TheVariants.{RoundCheckFails}
use Rattle.std.specs.Prelude.{Some, None, Ok, Err}
use Rattle.refusal.specs.Numbers.{number_of, number_of_outcome, place_of_outcome, round_of_outcome}
use Rattle.refusal.proofs.Checks.{number_then}
use Rattle.fri.specs.Layout.{dimension, index_in}
use Rattle.fri.specs.Run.{Run, steps_in, step_in, rounds_in, layer_in}
use Rattle.fri.specs.Layers.{fold_of}
use Rattle.fri.specs.Checks.{run_outcome, queries_outcome}
use Rattle.fri.specs.Judge.{checks_outcome, verdict_of}
use Rattle.fri.specs.Rounds.{value_computed, rounds_outcome}
use Rattle.fri.specs.Demand.{ValidCoset, Accepted}
use Rattle.fri.specs.Theorems.{Tells, FailsFirst, RoundChecks, Reads}
use Rattle.fri.proofs.Layouts as laws
use Rattle.fri.proofs.Cosets.{layer_steps_fit}
use Rattle.fri.proofs.Values.{computed_entry, found_entry, found_last}
use Rattle.fri.proofs.Rounds.{fails_of_refused, refused_by_round}
use Rattle.fri.proofs.Checks as checks
use Rattle.fri.proofs.Verdicts as verdicts

-- the checks before them never answer 11
checks_not_11 : (run : Run) (queries : List ℕ) → number_of_outcome (checks_outcome run queries) ≢ 11
checks_not_11 run queries =
    number_then (λ n. n ≢ 11) (run_outcome run) (queries_outcome run.k (step_in run 0) queries)
    (checks.run_not run 11 (omega arith) (ne_of_lt (omega arith)))
    (checks.queries_number (λ n. n ≢ 11) (ne_of_lt (omega arith)) (ne_of_lt (omega arith)) (ne_of_lt (omega arith))
    (λ e. ne_of_lt (omega arith) (sym e)) run.k (step_in run 0) queries)

round_refused : (run : Run) (queries : List ℕ) (query round : ℕ)
    → (verdict_of run queries).answer ≡ Err (RoundCheckFails query round)
    → (checks_outcome run queries ≡ Ok tt) × FailsFirst run queries query round
round_refused run queries query round e =
    ⊎_elim
    (λ (h : checks_outcome run queries ≡ Err (RoundCheckFails query round)).
    absurd (checks_not_11 run queries (ap number_of_outcome h)))
    (λ (h : (checks_outcome run queries ≡ Ok tt) × (rounds_outcome run queries 0 ≡ Err (RoundCheckFails query round))).
    (h.0, fails_of_refused run queries query round h.1))
    (verdicts.refused_which run queries (RoundCheckFails query round) e)

-- a query's index in layer i + 1
next_index : (run : Run) (j i : ℕ) → suc i ≤ rounds_in run
    → index_in (steps_in run) j (suc i) ≡ j / 2 ^ (run.step * suc i)
next_index run j i h = laws.index_of_layer run.k run.rate run.step j (suc i) h

computed : (run : Run) (j i : ℕ) → ValidCoset run → j < 2 ^ run.k → i < rounds_in run
    → value_computed run j i ≡ get_or (fold_of run i (layer_in run i)) (j / 2 ^ (run.step * suc i)) 0
computed run j i v l h =
    computed_entry run v j i (j / 2 ^ (run.step * suc i))
    (subst (λ (n : ℕ). n < 2 ^ dimension run.k (steps_in run) (suc i)) (next_index run j i h)
    (laws.index_within run.k (steps_in run) (layer_steps_fit run v) j (suc i) h l))
    (next_index run j i h)

pub round_checks : RoundChecks
round_checks =
    record {
      computed = computed;
      found = λ run j i h.
          found_entry run j i (j / 2 ^ (run.step * suc i)) h (next_index run j i (omega arith));
      found_last = λ run j i h. found_last run j i (j / 2 ^ (run.step * suc i)) h (next_index run j i (le_of_eq h));
      accepted = λ run queries.
          (λ e. verdicts.accepted_checks run queries e, λ t. verdicts.accepted_by run queries t.0 t.1);
      refused = λ run queries query round. (
        λ e. round_refused run queries query round e,
        λ t. verdicts.refused_by run queries query round t.0 t.1,
      );
    }

-- ---- reads

told_accepted : (run : Run) (queries : List ℕ) → Accepted run queries
    → Tells (verdict_of run queries) 0 None None (length queries * rounds_in run * 2 ^ run.step)
told_accepted run queries e =
    let told = verdicts.accepted_checks run queries e in (
      ap number_of_outcome e,
      ap place_of_outcome e,
      ap round_of_outcome e,
      verdicts.reads_accepted run queries told.0 told.1,
    )

told_refused : (run : Run) (queries : List ℕ) (query round : ℕ)
    → (verdict_of run queries).answer ≡ Err (RoundCheckFails query round)
    → Tells (verdict_of run queries) 11 (Some query) (Some round)
    (query * rounds_in run * 2 ^ run.step + min (round + 2) (rounds_in run) * 2 ^ run.step)
told_refused run queries query round e =
    let told = round_refused run queries query round e in (
      ap number_of_outcome e,
      ap place_of_outcome e,
      ap round_of_outcome e,
      verdicts.reads_refused run queries query round told.0 told.1,
    )

no_reads : (run : Run) (queries : List ℕ) (cause : Cause) → (verdict_of run queries).answer ≡ Err cause
    → number_of cause ≢ 11 → (verdict_of run queries).reads ≡ 0
no_reads run queries cause e n =
    ⊎_elim
    (λ (h : checks_outcome run queries ≡ Err cause). (verdicts.refused_early run queries cause h).1)
    (λ (h : (checks_outcome run queries ≡ Ok tt) × (rounds_outcome run queries 0 ≡ Err cause)).
    absurd (n (refused_by_round run queries cause h.1)))
    (verdicts.refused_which run queries cause e)

pub reads : Reads
reads = record { accepted = told_accepted; refused = told_refused; others = no_reads }
