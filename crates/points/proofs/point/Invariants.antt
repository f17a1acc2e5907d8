-- `points::point` meets its contract. The loop's invariant: the point of the bits that are left, over the elements
-- that are left, with what was summed for its offset, is the point. Assumes nothing.
use Rattle.std.proofs.Common.{◌≡◌, drop}
use Rattle.coset.specs.Coset.{point}
use Rattle.points.proofs.point.Given as goal

abbrev pub invariant-loop-b : goal.invariant-loop-b
invariant-loop-b l = point l.point.0 (drop l.b-index l.basis) l.bits ≡ point l.fn.offset.0 l.basis l.j
