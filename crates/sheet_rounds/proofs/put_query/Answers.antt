-- `sheet_rounds::put_query` meets its contract. Assumes nothing.
use mathlib.Core.Path.{◌≡◌, sym, ap, ap₂, ◌∙◌}
use mathlib.Core.List.{◌++◌}
use Prim.Native.Nat.{ℕ}
use native.Mathlib.Numerals.{add-one}
use native.Mathlib.Omega.{arith}
use Rattle.placing.proofs.Puts.{puts_append, puts_same, puts_nothing, ends, same_size}
use Rattle.sheet_text.specs.Sheet.{query_lines, line_text}
use Rattle.sheet_text.proofs.Sheets.{query_lines_next, length_query_lines}
use Rattle.round_checks.specs.Judging.{run_sent, query_point_of}
use Rattle.round_checks.proofs.Judged.{count_few}
use Rattle.sheet_rounds.proofs.put_query.Goals as goal

pub loop-i-init : goal.loop-i-init
unfolding query_lines
loop-i-init g c =
    record { here_is = c.first-here.ensures; lines = puts_nothing c.args.cursor.now (omega (arith, c.requires.room)) }

pub check-requires-clause-reached : goal.check-requires-clause-reached
check-requires-clause-reached g c = (c.args.j, c.requires.index, c.loop-i.invariant.here_is)

pub put_line-requires : goal.put_line-requires
put_line-requires g c =
    let judging = c.args.judging.now in
    let run = run_sent judging.sent (g.L.Layers.word judging.layers) (g.L.Layers.store judging.layers) in
    let l = c.loop-i in
    let few = count_few judging.prepared in
    let long =
    length_query_lines run c.args.query c.args.j 0 l.i (omega (arith, c.requires.narrow.0))
    (omega (arith, c.requires.narrow.1)) (omega (arith, c.loop-i-test.true, few)) in
    record {
      narrow = (c.requires.narrow.0, c.requires.narrow.1, omega (arith, c.loop-i-test.true, few));
      room =
          omega (arith, c.requires.room, c.loop-i-test.true, ends l.invariant.lines, same_size l.invariant.lines, long);
    }

pub loop-i-preserved : goal.loop-i-preserved
loop-i-preserved g c =
    let judging = c.args.judging.now in
    let run = run_sent judging.sent (g.L.Layers.word judging.layers) (g.L.Layers.store judging.layers) in
    let l = c.loop-i in
    let query = c.args.query in
    let j = c.args.j in
    let made = c.check.ensures j c.requires.index l.invariant.here_is in
    record {
      here_is = made.next_is ∙ ap (query_point_of run j) (sym (add-one l.i));
      lines =
          puts_same (puts_append l.invariant.lines c.put_line.ensures.text)
          (ap₂ (λ (m n : ℕ). query_lines run query j 0 l.i ++ line_text query j l.i m n) made.computed made.found
          ∙ sym (query_lines_next run query j l.i)
          ∙ ap (query_lines run query j 0) (sym (add-one l.i)));
    }

pub returns : goal.returns
returns g c =
    let judging = c.args.judging.now in
    let run = run_sent judging.sent (g.L.Layers.word judging.layers) (g.L.Layers.store judging.layers) in
    let all : c.loop-i.i ≡ judging.count = omega (arith, c.loop-i-test.false, c.loop-i.auto) in
    puts_same c.loop-i.invariant.lines (ap (query_lines run c.args.query c.args.j 0) all)
