-- Each half by itself, then quarters back. Assumes nothing.
use mathlib.Core.Path.{◌≡◌}
use lib.ListN.{length, length-append}
use mathlib.Core.List.{◌++◌}
use native.Mathlib.Omega.{arith}
use Rattle.transform.proofs.Recursion.{regrouped_back_next}
use Rattle.conversion.proofs.+regroup_back.Goals as goal

pub returns : goal.returns
returns t c =
    let next = regrouped_back_next c.args.lower c.args.upper c.args.slice.now (omega arith) c.requires in
    let halves = c.split_at_mut-first.ensures in
    let first = c.regroup_back.new.slice in
    let second = c.regroup_back-2.new.slice in
    let counted : length (first ++ second) ≡ length c.args.slice.now =
    omega (
      arith,
      length-append first second,
      c.regroup_back.auto.slice,
      c.regroup_back-2.auto.slice,
      halves.front_len,
      halves.back_len,
    ) in
    cc
