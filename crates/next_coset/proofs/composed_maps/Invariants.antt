-- `next_coset::composed_maps` meets its contract. The loop's invariant: y through the maps that are left is x through
-- all. Assumes nothing.
use mathlib.Core.Path.{◌≡◌}
use lib.ListN.{drop}
use Rattle.coset.specs.Steps.{composed_maps}
use Rattle.next_coset.proofs.composed_maps.Given as goal

abbrev pub invariant-loop-e : goal.invariant-loop-e
invariant-loop-e l = composed_maps (drop l.e-index l.elements) l.y.0 ≡ composed_maps l.elements l.fn.x.0
