-- `independence::first_among_64` meets its contract. The loop's invariant: the definition from place on, over what is
-- left of the rows, is the definition over the first 64 elements. Assumes nothing.
use Rattle.std.proofs.Common.{◌≡◌, length, take}
use Rattle.coset.specs.Span.{first_dependent}
use Rattle.independence.proofs.FirstPlace.{from}
use Rattle.independence.proofs.first_among_64.Given as goal

abbrev pub invariant-loop-place : goal.invariant-loop-place
invariant-loop-place l =
    (length l.rows ≡ 64) × (from (take l.count l.rows) l.place ≡ first_dependent (take 64 l.fn.basis))
