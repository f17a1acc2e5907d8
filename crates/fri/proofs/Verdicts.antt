-- What a verdict tells: which judgings are accepted, which refused and with how many reads. Assumes nothing.
use mathlib.Core.Path.{◌≡◌, refl, sym, ap, ap₂, ◌∙◌}
use mathlib.Core.List.{List}
use Prim.Native.Nat.{ℕ, ◌+◌, ◌*◌, ◌^◌, ◌<◌, min}
use native.Mathlib.Nat.{mul_assoc, zero-add}
use native.Mathlib.Omega.{arith}
use lib.ListN.{length, get_or}
use Rattle.refusal.specs.declared.Cause.{Cause}
use Rattle.refusal.specs.declared.Cause.TheVariants.{RoundCheckFails}
use Rattle.std.specs.Prelude.{Ok, Err}
use Rattle.refusal.specs.Outcome.{Outcome}
use Rattle.refusal.specs.Checks.{and_then}
use Rattle.refusal.specs.Numbers.{number_of, place_of, round_of, number_of_outcome, place_of_outcome, round_of_outcome}
use Rattle.refusal.proofs.Checks.{then_passed, then_refused, then_done, Either, which}
use Rattle.fri.specs.Run.{Run, rounds_in, step_in}
use Rattle.fri.specs.Checks.{run_outcome, queries_outcome}
use Rattle.fri.specs.Judge.{checks_outcome, reads_after, verdict_of}
use Rattle.fri.specs.Rounds.{rounds_outcome}
use Rattle.fri.specs.Reads.{entries_read}
use Rattle.fri.specs.Demand.{Accepted, ValidQueries, Apart}
use Rattle.fri.specs.Theorems.{PassesEveryRound, FailsFirst, Tells}
use Rattle.fri.proofs.Rounds.{all_pass, pass_of_done, first_failing, read_all}
use Rattle.fri.proofs.Rounds.{read_until, entries_of_rounds, entries_until}
use Rattle.fri.proofs.Checks.{queries_valid, queries_pass}

module _ (run : Run) (queries : List ℕ) where
  abbrev outcome : Outcome
  outcome = and_then (checks_outcome run queries) (rounds_outcome run queries 0)

  abbrev AllPass : Type 0
  AllPass = (t : ℕ) → t < length queries → PassesEveryRound run (get_or queries t 0)

  -- ---- accepted

  pub accepted_checks : Accepted run queries → (checks_outcome run queries ≡ Ok tt) × AllPass
  accepted_checks e =
      let both = then_done (checks_outcome run queries) (rounds_outcome run queries 0) e in
      (both.0, pass_of_done run queries both.1)

  pub accepted_by : checks_outcome run queries ≡ Ok tt → AllPass → Accepted run queries
  accepted_by l h =
      sym (then_passed (checks_outcome run queries) (rounds_outcome run queries 0) l) ∙ all_pass run queries 0 h

  pub reads_accepted : checks_outcome run queries ≡ Ok tt → AllPass
      → (verdict_of run queries).reads ≡ length queries * rounds_in run * 2 ^ run.step
  reads_accepted l h =
      ap (λ (o : Outcome). reads_after o (entries_read run queries)) l
      ∙ read_all run queries h
      ∙ ap (λ (n : ℕ). length queries * n) (entries_of_rounds run)
      ∙ sym (mul_assoc (length queries) (rounds_in run) (2 ^ run.step))

  pub accepted_verdict : checks_outcome run queries ≡ Ok tt → AllPass
      → verdict_of run queries
      ≡ record { answer = Ok tt; reads = length queries * rounds_in run * 2 ^ run.step }
  accepted_verdict l h =
      ap₂ (λ (a : Outcome) (n : ℕ). record { answer = a; reads = n }) (accepted_by l h) (reads_accepted l h)

  -- ---- refused by a round check

  pub refused_which : (cause : Cause) → (verdict_of run queries).answer ≡ Err cause
      → Either (checks_outcome run queries) (rounds_outcome run queries 0) cause
  refused_which cause e =
      which (checks_outcome run queries) (rounds_outcome run queries 0) cause e

  pub refused_by : (query round : ℕ) → checks_outcome run queries ≡ Ok tt → FailsFirst run queries query round
      → (verdict_of run queries).answer ≡ Err (RoundCheckFails query round)
  refused_by query round l f =
      sym (then_passed (checks_outcome run queries) (rounds_outcome run queries 0) l)
      ∙ first_failing run queries 0 query round f
      ∙ ap (λ (n : ℕ). Err (RoundCheckFails n round)) (zero-add query)

  pub reads_refused : (query round : ℕ) → checks_outcome run queries ≡ Ok tt → FailsFirst run queries query round
      → (verdict_of run queries).reads
      ≡ query * rounds_in run * 2 ^ run.step + min (round + 2) (rounds_in run) * 2 ^ run.step
  reads_refused query round l f =
      ap (λ (o : Outcome). reads_after o (entries_read run queries)) l
      ∙ read_until run queries query round f
      ∙ ap₂ ◌+◌
      (ap (λ (n : ℕ). query * n) (entries_of_rounds run) ∙ sym (mul_assoc query (rounds_in run) (2 ^ run.step)))
      (entries_until run round)

  -- ---- refused before the round checks

  pub refused_early : (cause : Cause) → checks_outcome run queries ≡ Err cause
      → ((verdict_of run queries).answer ≡ Err cause) × ((verdict_of run queries).reads ≡ 0)
  refused_early cause e = (
    sym (then_refused (checks_outcome run queries) (rounds_outcome run queries 0) cause e),
    ap (λ (o : Outcome). reads_after o (entries_read run queries)) e,
  )

  pub told_early : (cause : Cause) → checks_outcome run queries ≡ Err cause
      → Tells (verdict_of run queries) (number_of cause) (place_of cause) (round_of cause) 0
  told_early cause e =
      let both = refused_early cause e in
      (ap number_of_outcome both.0, ap place_of_outcome both.0, ap round_of_outcome both.0, both.1)

  abbrev of_queries : Outcome
  of_queries = queries_outcome run.k (step_in run 0) queries

  -- a run's refusal is the judge's
  pub run_refused : (cause : Cause) → run_outcome run ≡ Err cause → checks_outcome run queries ≡ Err cause
  run_refused cause e = sym (then_refused (run_outcome run) of_queries cause e)

  pub checks_pass : run_outcome run ≡ Ok tt → ValidQueries run.k queries → Apart (step_in run 0) queries
      → checks_outcome run queries ≡ Ok tt
  checks_pass e v apart =
      sym (then_passed (run_outcome run) of_queries e) ∙ queries_pass run.k (step_in run 0) queries v apart

  pub checks_valid : checks_outcome run queries ≡ Ok tt
      → (run_outcome run ≡ Ok tt) × ValidQueries run.k queries × Apart (step_in run 0) queries
  checks_valid e =
      let both = then_done (run_outcome run) of_queries e in
      let valid = queries_valid run.k (step_in run 0) queries both.1 in
      (both.0, valid.0, valid.1)
