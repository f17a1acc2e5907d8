-- `sheet_rounds::put_lines` meets its contract. The loop's invariant: the lines of the queries so far stand at the
-- cursor. Assumes nothing.
use lib.ListN.{take}
use Rattle.placing.specs.Put.{Puts}
use Rattle.sheet_text.specs.Sheet.{sheet_lines}
use Rattle.byte_rounds.specs.Layers.{sent_in}
use Rattle.sheet_rounds.proofs.put_lines.Given as goal

abbrev pub invariant-loop-query : goal.invariant-loop-query
invariant-loop-query l =
    let s = l.sent in
    Puts l.fn.cursor
    (sheet_lines (sent_in s.shape.parameters s.offset.0 s.basis.now s.challenges.now l.bytes s.last.now)
    (take l.query s.queries.now) 0)
    l.cursor
