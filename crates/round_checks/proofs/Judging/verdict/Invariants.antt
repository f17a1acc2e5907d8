-- `Judging::verdict` meets its contract. The inner loop's invariant: the rounds before this one pass. Assumes nothing.
use lib.ListN.{get_or}
use mathlib.Core.Path.{◌≡◌}
use Rattle.std.specs.Prelude.{Ok}
use Rattle.round_checks.specs.Judging.{run_sent}
use Rattle.round_checks.proofs.Judged.{Passed}
use Rattle.round_checks.proofs.Passing.{BeforeRound}
use Rattle.round_checks.proofs.Judging.verdict.Given as goal

abbrev pub invariant-queries : goal.invariant-queries
invariant-queries g l = (l.answer ≡ Ok tt) × Passed l.self.prepared l.cosets l.query

abbrev pub invariant-loop-round : goal.invariant-loop-round
invariant-loop-round g l =
    record {
      earlier : (l.answer ≡ Ok tt) × Passed l.self.prepared l.cosets l.query;
      here : BeforeRound (run_sent l.self.sent (g.L.Layers.word l.self.layers) (g.L.Layers.store l.self.layers))
          (get_or l.self.sent.queries.now l.query 0) l.round l.here;
    }
