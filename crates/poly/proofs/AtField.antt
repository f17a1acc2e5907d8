-- The field of 2^64 elements is such a carrier; so the theorems hold there. Assumes nothing.
use mathlib.Core.Path.{refl}
use mathlib.Core.Logic.{◌≢◌}
use native.Mathlib.Omega.{arith}
use native.Mathlib.Bridge.{le_by_compare, IsLe}
use lib.Bits.{xor_comm, xor_self, xor_lt}
use Prim.Native.Nat.{ℕ, ◌^◌}
use Rattle.gf64.specs.Field.{IsElement}
use Rattle.gf64.proofs.Xor.{xor_assoc}
use Rattle.gf64.proofs.Ring.{product_lt, product_comm, product_assoc, product-add_r, product_one_l}
use Rattle.gf64.proofs.Inverse.{inverse_lt, inverse_right}
use Rattle.poly.specs.Carrier.{Laws, gf64}
use Rattle.poly.specs.Theorems.{AtField}
use Rattle.poly.proofs.Theorems.{over_every_carrier}

one_not_zero : ◌≢◌ {A = ℕ} 1 0
one_not_zero e = omega arith

pub gf64_laws : Laws ℕ gf64 IsElement
unfolding IsLe
gf64_laws =
    record {
      sum_commutative = xor_comm;
      sum_associative = xor_assoc;
      sum_zero = λ a. refl;
      sum_self = xor_self;
      product_commutative = product_comm;
      product_associative = product_assoc;
      distributive = product-add_r;
      zero_element = le_by_compare 1 (2 ^ 64) tt;
      one_element = le_by_compare 2 (2 ^ 64) tt;
      sum_element = xor_lt 64;
      product_element = λ a b ea eb. product_lt a b;
      inverse_element = λ a ea. inverse_lt a;
      one_not_zero = one_not_zero;
      one_neutral = product_one_l;
      inverts = inverse_right;
    }

pub at_field : AtField
at_field =
    record {
      laws = gf64_laws;
      roots = over_every_carrier.roots ℕ gf64 IsElement gf64_laws;
      interpolation = over_every_carrier.interpolation ℕ gf64 IsElement gf64_laws;
      root_product = over_every_carrier.root_product ℕ gf64 IsElement gf64_laws;
      row_division = over_every_carrier.row_division ℕ gf64 IsElement gf64_laws;
    }
