-- `byte_judge::judge_passed` meets its contract. Assumes nothing.
use mathlib.Core.Path.{◌≡◌}
use Prim.Native.Nat.{◌+◌}
use Rattle.std.proofs.Common.{rules}
use Rattle.transcript.specs.Sections.{section_start}
use Rattle.byte_rounds.proofs.Carried.{laid_as_sent}
use Rattle.byte_judge.proofs.judge_passed.Goals as goal

pub judge_rounds-requires-clause-layers : goal.judge_rounds-requires-clause-layers
judge_rounds-requires-clause-layers c =
    let transcript = c.args.passed.transcript in
    let begin : c.body-begin.result ≡ section_start transcript.bytes.now 5 + 4 = search rules in
    laid_as_sent transcript.bytes.now c.args.passed.passed transcript.known begin c.sent.ensures.run
