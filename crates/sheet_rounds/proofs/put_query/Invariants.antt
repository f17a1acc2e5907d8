-- `sheet_rounds::put_query` meets its contract. The loop's invariant: i lines stand at the cursor. Assumes nothing.
use Prim.Native.Nat.{ℕ}
use mathlib.Core.Path.{◌≡◌}
use Rattle.fri.specs.Run.{Run}
use Rattle.placing.specs.declared.Cursor.{Cursor}
use Rattle.placing.specs.Put.{Puts}
use Rattle.sheet_text.specs.Sheet.{query_lines}
use Rattle.round_checks.specs.declared.QueryPoint.{QueryPoint}
use Rattle.round_checks.specs.Judging.{run_sent, query_point_of}
use Rattle.sheet_rounds.proofs.put_query.Given as goal

pub record BeforeRound (run : Run) (query j i : ℕ) (here : QueryPoint) (old new : Cursor) : Type 0 where
  pub here_is : here ≡ query_point_of run j i
  pub lines : Puts old (query_lines run query j 0 i) new

abbrev pub invariant-loop-i : goal.invariant-loop-i
invariant-loop-i g l =
    BeforeRound
    (run_sent l.judging.sent (g.L.Layers.word l.judging.layers) (g.L.Layers.store l.judging.layers)) l.query l.j l.i
    l.here l.fn.cursor l.cursor
