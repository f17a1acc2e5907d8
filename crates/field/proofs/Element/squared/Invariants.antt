-- `field::Element::squared`: x is self squared as often as the loop has run.
use mathlib.Core.Path.{◌≡◌}
use Prim.Native.Nat.{◌^◌}
use Rattle.gf64.specs.Field.{power}
use Rattle.field.proofs.Element.squared.Given as goal

abbrev pub invariant-loop : goal.invariant-loop
invariant-loop l = l.x ≡ power l.initial.x (2 ^ l.counter)
