-- `next_coset::fill_images` meets its contract. The loop's invariant: i images are filled in, the others as they
-- were. Assumes nothing.
use mathlib.Core.Path.{◌≡◌}
use mathlib.Core.List.{map, ◌++◌}
use lib.ListN.{length, drop}
use Rattle.poly.proofs.Filling.{filled}
use Rattle.coset.specs.Steps.{composed_maps}
use Rattle.next_coset.proofs.fill_images.Given as goal

abbrev pub invariant-loop-i : goal.invariant-loop-i
invariant-loop-i l =
    l.images ≡ filled (map (composed_maps l.elements) l.xs ++ drop
    (length (map (composed_maps l.elements) l.xs)) l.initial.images) l.initial.images l.i
