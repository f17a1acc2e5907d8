-- `Coset::value_at` meets its contract. The loop's invariant: what is left of the halvings gives the value from the
-- coset so far. Assumes nothing.
use mathlib.Core.Path.{◌≡◌}
use Prim.Native.Nat.{◌-◌, ◌^◌}
use lib.ListN.{length, drop}
use Rattle.fold.specs.Halving.{value_at}
use Rattle.coset_value.specs.Cosets.{numbers}
use Rattle.coset_value.proofs.Coset.value_at.Given as goal

abbrev pub invariant-loop-t : goal.invariant-loop-t
invariant-loop-t l =
    (l.last ≡ length l.inverses - 1) × (l.coset.count ≡ 2 ^ (length l.inverses - l.t))
    × (value_at (drop l.t l.inverses) (numbers l.coset.points) (numbers l.coset.entries)
    ≡ value_at l.inverses (numbers l.initial.coset.points) (numbers l.initial.coset.entries))
