-- `query_checks::first_shared` meets its contract. The loop's invariant: the queries still to come decide, given the
-- cosets of those before. Assumes nothing.
use Rattle.fri.specs.Checks.{first_repeated_after, visited_cosets, first_shared}
use lib.ListN.{length, take, drop}
use Prim.Native.Nat.{◌-◌, ◌≤◌}
use mathlib.Core.Path.{◌≡◌}
use Rattle.query_checks.proofs.first_shared.Given as goal

abbrev pub invariant-loop-query : goal.invariant-loop-query
invariant-loop-query l =
    (l.query ≤ length l.queries)
    × (first_repeated_after (visited_cosets l.step (take l.query l.queries)) (visited_cosets l.step (drop l.query l.queries)) l.query
    ≡ first_shared l.step l.queries)

abbrev pub decreases-loop-query : goal.decreases-loop-query
decreases-loop-query l = length l.queries - l.query
