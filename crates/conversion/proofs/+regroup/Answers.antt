-- Quarters, then each half by itself. Assumes nothing.
use native.Mathlib.Omega.{arith}
use Rattle.transform.proofs.Recursion.{regrouped_next}
use Rattle.conversion.proofs.+regroup.Goals as goal

pub returns : goal.returns
returns t c =
    let next = regrouped_next c.args.lower c.args.upper c.args.slice.now (omega arith) c.requires in
    cc
