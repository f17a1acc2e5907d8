-- The statements of specs/Theorems.antt, proved. Assumes nothing.
use mathlib.Core.Path.{refl}
use lib.Bits.{xor_comm, xor_self, xor_lt}
use Rattle.gf64.specs.Theorems.{PolynomialProduct, Division, SumGroup, ProductRing, Inverses, Powers}
use Rattle.gf64.proofs.Xor.{xor_assoc}
use Rattle.gf64.proofs.Carryless.{carryless_comm, carryless_assoc, carryless-add_r}
use Rattle.gf64.proofs.Coefficients.{coefficients, coefficient-sum}
use Rattle.gf64.proofs.Remainder.{remainder_lt, remainder_decomposes, remainder_unique}
use Rattle.gf64.proofs.Ring.{product_lt, product_comm, product_assoc, product-add_r, product_one_l, square_add}
use Rattle.gf64.proofs.Power.{power_zero, power-suc}
use Rattle.gf64.proofs.Inverse.{inverse_lt, inverse_right, inverse_unique, no_zero_divisors, inverse-zero}

pub polynomial_product : PolynomialProduct
polynomial_product =
    record {
      coefficients = coefficients;
      commutative = carryless_comm;
      associative = carryless_assoc;
      distributive = carryless-add_r;
    }

pub division : Division
division = record { below = remainder_lt; decomposes = remainder_decomposes; unique = remainder_unique }

pub sum_group : SumGroup
sum_group =
    record {
      coefficients = coefficient-sum;
      closed = xor_lt 64;
      commutative = xor_comm;
      associative = xor_assoc;
      zero_neutral = λ a. refl;
      own_negative = xor_self;
    }

pub product_ring : ProductRing
product_ring =
    record {
      closed = product_lt;
      commutative = product_comm;
      associative = product_assoc;
      distributive = product-add_r;
      one_neutral = product_one_l;
      square_additive = square_add;
    }

pub inverses : Inverses
inverses =
    record {
      closed = inverse_lt;
      inverts = inverse_right;
      unique = inverse_unique;
      no_zero_divisors = no_zero_divisors;
      of_zero = inverse-zero;
    }

pub powers : Powers
powers = record { at_zero = power_zero; at_successor = power-suc }
