-- Cases A, B and C of Table A: products by computation, the inverse by its being the only one. Assumes nothing.
use mathlib.Core.Path.{◌≡◌, refl, sym}
use native.Mathlib.Omega.{arith}
use Rattle.gf64.specs.Polynomial.{carryless, carryless_in, times_t, remainder, remainder_in}
use Rattle.gf64.specs.Field.{product}
use Rattle.gf64.specs.Theorems.{FieldCases}
use Rattle.gf64.proofs.Inverse.{inverse_unique}

two_inverted : product 2 0x800000000000000d ≡ 1
unfolding product carryless carryless_in times_t remainder remainder_in
two_inverted = refl

pub field_cases : FieldCases
unfolding product carryless carryless_in times_t remainder remainder_in
field_cases =
    record {
      a = refl;
      b = refl;
      c = sym (inverse_unique 2 0x800000000000000d (omega arith) (omega arith) two_inverted);
    }
