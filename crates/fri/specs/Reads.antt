-- The entries read: the cosets met query by query, counted anew for each query.
use Rattle.std.specs.Prelude.{List, [], ◌∷◌, ℕ, ◌+◌, ◌^◌, take}
use Rattle.std.specs.Prelude.{Option, Some, None}
use Rattle.fri.specs.Run.{Run, steps_in}
use Rattle.fri.specs.Rounds.{failing_round}

-- the number of entries of one coset for each of the steps, added up: a coset of a step has 2^step
unfoldable pub entry_count : (steps : List ℕ) → ℕ
entry_count [] = 0
entry_count (step ∷ others) = 2 ^ step + entry_count others

-- the steps of the rounds whose cosets a query reads: all or, where the check of round i fails,
-- those up to round i and, for the value found, the next one, if there is one
abbrev pub steps_read : (steps : List ℕ) (failing : Option ℕ) → List ℕ
steps_read steps (Some i) = take (i + 2) steps
steps_read steps None = steps

-- the entries read for one query: those of these cosets
abbrev pub query_reads : (run : Run) (failing : Option ℕ) → ℕ
query_reads run failing = entry_count (steps_read (steps_in run) failing)

-- what is read after a query: nothing where a check of it failed
abbrev pub unless_failed : (failing : Option ℕ) (reads : ℕ) → ℕ
unless_failed (Some round) reads = 0
unless_failed None reads = reads

-- the entries read query by query, up to the first that fails, counted anew for each
unfoldable pub entries_read : (run : Run) (queries : List ℕ) → ℕ
entries_read run [] = 0
entries_read run (j ∷ queries) =
    query_reads run (failing_round run j) + unless_failed (failing_round run j) (entries_read run queries)
