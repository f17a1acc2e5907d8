-- `list_inverse::invert`: the elements below the place are inverses.
use mathlib.Core.Path.{◌≡◌}
use mathlib.Core.List.{map}
use Rattle.gf64.specs.Field.{inverse}
use Rattle.poly.proofs.Filling.{filled}
use Rattle.list_inverse.proofs.invert.Given as goal

abbrev pub invariant-loop-at : goal.invariant-loop-at
invariant-loop-at l = l.list ≡ filled (map inverse l.initial.list) l.initial.list l.at
