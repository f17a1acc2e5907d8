-- `byte_judge::verdict` meets its contract. Assumes nothing.
use mathlib.Core.Path.{sym}
use Rattle.transcript.proofs.Theorems.{refused_verdict}
use Rattle.byte_judge.proofs.verdict.Goals as goal

pub returns-in-Err : goal.returns-in-Err
returns-in-Err c =
    sym (refused_verdict c.args.transcript.bytes.now c.in-Err.cause (sym c.in-Err.ensures.outcome))
