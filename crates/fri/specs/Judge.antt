-- The judge over lists: all checks in order, and the verdict with the entries read.
use Rattle.std.specs.Prelude.{List, ℕ}
use Rattle.std.specs.Prelude.{Option, None, Ok, Err}
use Rattle.refusal.specs.Outcome.{Outcome}
use Rattle.refusal.specs.Checks.{and_then}
use Rattle.refusal.specs.Numbers.{number_of, place_of, round_of}
use Rattle.fri.specs.declared.Verdict.{Verdict}
use Rattle.fri.specs.Run.{Run, step_in}
use Rattle.fri.specs.Checks.{run_outcome, queries_outcome}
use Rattle.fri.specs.Rounds.{rounds_outcome}
use Rattle.fri.specs.Reads.{entries_read}

-- all checks before the round checks: 4, 5, 6, 7, 13, 8, 9, 10, 17
abbrev pub checks_outcome : (run : Run) (queries : List ℕ) → Outcome
checks_outcome run queries = and_then (run_outcome run) (queries_outcome run.k (step_in run 0) queries)

-- nothing is read before the round checks
abbrev pub reads_after : (outcome : Outcome) (reads : ℕ) → ℕ
reads_after (Ok _) reads = reads
reads_after (Err cause) reads = 0

-- the verdict: all checks in order, the round checks (11) last, with the entries read
abbrev pub verdict_of : (run : Run) (queries : List ℕ) → Verdict
verdict_of run queries =
    record {
      answer = and_then (checks_outcome run queries) (rounds_outcome run queries 0);
      reads = reads_after (checks_outcome run queries) (entries_read run queries);
    }
