-- `conversion::quarters` meets its contract: two parts of the list, one after the other. Assumes nothing.
use mathlib.Core.Path.{◌≡◌, ap, ◌∙◌}
use Prim.Native.Nat.{◌+◌, ◌-◌, ◌/◌}
use lib.ListN.{length}
use borrow.Rule.Slice.PartMut.{put_mid, same_len_mid}
use Rattle.transform.specs.Transform.{on_part, second_added, quarters}
use Rattle.transform.proofs.Recursion.{part_put}
use native.Mathlib.Omega.{arith}
use Rattle.conversion.proofs.quarters.Goals as goal

pub returns : goal.returns
unfolding quarters
returns c =
    let s = c.args.slice.now in
    let q = length s / 4 in
    let u = put_mid (q + q) (length s - (q + q)) s c.add_second.new.slice in
    let divided = c.requires in
    let upper : u ≡ on_part (q + q) (q + q) (second_added 1 q) s =
    part_put (q + q) q (length s - (q + q)) s c.add_second.new.slice (omega (arith, divided))
    (omega (arith, divided)) c.add_second.ensures in
    let counted : length u ≡ length s =
    same_len_mid (q + q) (length s - (q + q)) s c.add_second.new.slice c.add_second.auto.slice in
    part_put q q (q + (q + q) - q) u c.add_second-2.new.slice (omega arith) (omega (arith, counted, divided))
    c.add_second-2.ensures
    ∙ ap (on_part q (q + q) (second_added 1 q)) upper
