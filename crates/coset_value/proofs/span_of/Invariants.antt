-- `coset_value::span_of` meets its contract. The loop's invariant: i points stand in the array, zeros follow. Assumes
-- nothing.
use Rattle.std.proofs.Common.{◌≡◌, ◌^◌, ◌≤◌, length}
use lib.ListN.{replicate}
use Rattle.poly.specs.Carrier.{gf64}
use Rattle.poly.specs.Polynomial.{padded}
use Rattle.poly.proofs.Filling.{filled}
use Rattle.coset.specs.Coset.{points}
use Rattle.coset_value.proofs.span_of.Given as goal

abbrev pub invariant-loop-i : goal.invariant-loop-i
invariant-loop-i l =
    (l.size ≤ 8) × (l.size ≡ 2 ^ length l.basis) × (l.span ≡ filled (padded gf64 8 (points 0 l.basis)) (replicate 8 0) l.i)
