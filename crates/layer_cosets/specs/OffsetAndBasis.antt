-- What a clause sees of a coset by value.
use Rattle.std.specs.Prelude.{List, ℕ}
use Rattle.field.specs.declared.Element.{Element}

-- its offset and its basis
pub record OffsetAndBasis : Type 0 where
  pub offset : Element
  pub basis : List ℕ
