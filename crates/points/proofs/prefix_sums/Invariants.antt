-- `points::prefix_sums` meets its contract. The loop's invariant: t sums stand in the array, the others are zero.
-- Assumes nothing.
use Rattle.std.proofs.Common.{◌≡◌, ◌∷◌, take, get_or}
use lib.ListN.{replicate}
use Rattle.poly.specs.Carrier.{gf64}
use Rattle.poly.specs.Polynomial.{padded}
use Rattle.poly.proofs.Filling.{filled}
use Rattle.coset.specs.Sequence.{prefix_sums}
use Rattle.points.proofs.prefix_sums.Given as goal

abbrev pub invariant-loop-t : goal.invariant-loop-t
invariant-loop-t l =
    (l.total ≡ get_or (0 ∷ prefix_sums 0 (take 20 l.fn.basis)) l.t 0)
    × (l.sums ≡ filled (padded gf64 20 (prefix_sums 0 (take 20 l.fn.basis))) (replicate 20 0) l.t)
