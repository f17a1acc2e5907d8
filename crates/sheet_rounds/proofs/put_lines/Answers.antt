-- `sheet_rounds::put_lines` meets its contract. Assumes nothing.
use mathlib.Core.Path.{ap, ◌∙◌, subst}
use mathlib.Core.List.{List}
use Prim.Native.Nat.{ℕ, ◌<◌, ◌^◌}
use native.Mathlib.Omega.{arith}
use lib.ListN.{get_or}
use lib.Seq.{take_all}
use Rattle.fri.specs.Run.{rounds_in}
use Rattle.fri.specs.Judge.{checks_outcome}
use Rattle.placing.proofs.Puts.{puts_append, puts_same, puts_nothing, ends, same_size}
use Rattle.sheet_text.specs.Sheet.{sheet_lines}
use Rattle.round_checks.proofs.Judged.{query_inside}
use Rattle.byte_rounds.specs.Layers.{sent_in}
use Rattle.byte_rounds.proofs.LayerPlaces.{laid_alone}
use Rattle.sheet_rounds.proofs.Lines.{query_narrow, room_left, query_after}
use Rattle.sheet_rounds.proofs.put_lines.Goals as goal

pub new-layers-requires : goal.new-layers-requires
new-layers-requires c =
    let s = c.args.sent in
    laid_alone s.shape.parameters s.offset.0 s.basis.now s.challenges.now c.args.bytes.now s.last.now c.args.begin
    c.requires.layers

pub new-judging-requires-clause-checked : goal.new-judging-requires-clause-checked
new-judging-requires-clause-checked c =
    let s = c.args.sent in
    ap
    (λ (b : List ℕ).
    checks_outcome (sent_in s.shape.parameters s.offset.0 s.basis.now s.challenges.now b s.last.now) s.queries.now)
    c.new-layers.ensures.1
    ∙ c.requires.checks

pub loop-query-init : goal.loop-query-init
unfolding sheet_lines
loop-query-init c = puts_nothing c.args.cursor.now (omega (arith, c.requires.room))

pub put_query-requires : goal.put_query-requires
put_query-requires c =
    let s = c.args.sent in
    let judging = c.new-judging.result in
    let query = c.loop-query.query in
    let lines = c.loop-query.invariant in
    let run = sent_in s.shape.parameters s.offset.0 s.basis.now s.challenges.now c.args.bytes.now s.last.now in
    let in_bytes = λ (b : List ℕ). sent_in s.shape.parameters s.offset.0 s.basis.now s.challenges.now b s.last.now in
    let same = c.new-judging.ensures.run ∙ ap in_bytes c.new-layers.ensures.1 in
    let rounds = judging.prepared.count_is ∙ ap rounds_in same in
    record {
      index =
          subst (λ (l : List ℕ). get_or l query 0 < 2 ^ judging.sent.shape.parameters.k) c.new-judging.ensures.queries
          (query_inside judging.prepared query);
      narrow = query_narrow run s.queries.now c.requires.checks c.loop-query-test.true;
      room =
          omega (
            arith,
            room_left run s.queries.now c.requires.checks c.loop-query-test.true,
            rounds,
            ends lines,
            same_size lines,
            c.requires.room,
          );
    }

pub loop-query-preserved : goal.loop-query-preserved
loop-query-preserved c =
    let s = c.args.sent in
    let in_bytes = λ (b : List ℕ). sent_in s.shape.parameters s.offset.0 s.basis.now s.challenges.now b s.last.now in
    puts_same (puts_append c.loop-query.invariant c.put_query.ensures)
    (query_after s.queries.now c.loop-query.query
    (c.new-judging.ensures.run ∙ ap in_bytes c.new-layers.ensures.1)
    c.new-judging.result.prepared.count_is c.loop-query-test.true)

pub returns : goal.returns
returns c =
    let s = c.args.sent in
    let run = sent_in s.shape.parameters s.offset.0 s.basis.now s.challenges.now c.args.bytes.now s.last.now in
    puts_same c.loop-query.invariant
    (ap (λ (l : List ℕ). sheet_lines run l 0) (take_all c.loop-query.query s.queries.now c.loop-query-test.false))
