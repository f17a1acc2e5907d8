-- `marking::sheet_passed` meets its contract. Assumes nothing.
use mathlib.Core.Path.{◌≡◌, refl, ap, ap₂, ◌∙◌}
use Prim.Native.Nat.{◌+◌}
use borrow.Author.Rules.{rules}
use lib.ListN.{length}
use Rattle.fri.specs.Judge.{checks_outcome}
use Rattle.transcript.specs.Sections.{section_start}
use Rattle.byte_rounds.proofs.Carried.{carried_checks, laid_as_sent}
use Rattle.marking.proofs.Lengths.{length_is, lines_are}
use Rattle.marking.proofs.Fronts.{put_in_front}
use Rattle.marking.proofs.sheet_passed.Goals as goal

pub put_lines-requires-clause-checks : goal.put_lines-requires-clause-checks
put_lines-requires-clause-checks c =
    let passed = c.args.passed in
    ap₂ checks_outcome c.sent-sent.ensures.run c.sent-sent.ensures.queries
    ∙ carried_checks passed.transcript.bytes.now passed.passed

pub put_lines-requires-clause-layers : goal.put_lines-requires-clause-layers
put_lines-requires-clause-layers c =
    let transcript = c.args.passed.transcript in
    let begin : c.body-begin.result ≡ section_start transcript.bytes.now 5 + 4 = search rules in
    laid_as_sent transcript.bytes.now c.args.passed.passed transcript.known begin c.sent-sent.ensures.run

pub put_lines-requires-clause-room : goal.put_lines-requires-clause-room
put_lines-requires-clause-room c =
    let bytes = c.args.passed.transcript.bytes.now in
    let lines = lines_are bytes c.args.passed.passed c.sent-sent.ensures.run c.sent-sent.ensures.queries in
    let room = ap length lines in
    let is = length_is bytes c.args.passed.passed in
    search (rules, room, is)

pub returns-clause-list : goal.returns-clause-list
returns-clause-list c =
    let bytes = c.args.passed.transcript.bytes.now in
    let lines = lines_are bytes c.args.passed.passed c.sent-sent.ensures.run c.sent-sent.ensures.queries in
    let filled = put_in_front c.put_lines.ensures lines refl in
    search (rules, filled)
