-- How the product is computed: a polynomial of 128 bits in two halves, the multiples of a factor's halves, and the
-- sums of the schoolbook product. No entry point's contract cites these.
use Rattle.std.specs.Prelude.{◌≡◌, List, ℕ, ◌+◌, ◌*◌, ◌%◌, ◌^◌, ◌<◌, get_or}
use Rattle.std.specs.Int.Bits.{bit_xor}
use Rattle.gf64.specs.Polynomial.{carryless}
use Rattle.carryless.specs.declared.Wide.{Wide}
use Rattle.carryless.specs.declared.Products.{Products}

-- the polynomial whose bits 64 to 127 are high and whose bits 0 to 63 are low
abbrev pub wide_of : (w : Wide) → ℕ
wide_of w = w.high * 2 ^ 64 + w.low

-- entry n is n · a, for the sixteen polynomials n of four bits
pub record Multiples (a : ℕ) (table : List ℕ) : Type 0 where
  pub short : a < 2 ^ 32
  pub at : (n : ℕ) → n < 2 ^ 4 → get_or table n 0 ≡ carryless n a

-- the sums of the products of x and y by a₀ and a₁
pub record Sums (a₀ a₁ x y : ℕ) (p : Products) : Type 0 where
  pub low : p.low ≡ carryless y a₀
  pub middle : p.middle ≡ bit_xor (carryless x a₀) (carryless y a₁)
  pub high : p.high ≡ carryless x a₁

-- v shifted up in 64 bits, and w
abbrev pub shifted_sum : (v shift w : ℕ) → ℕ
shifted_sum v shift w = bit_xor (v * 2 ^ shift % 2 ^ 64) w

-- each sum of p shifted up, and that of q
abbrev pub joined_of : (p : Products) (shift : ℕ) (q : Products) → Products
joined_of p shift q =
    record {
      low = shifted_sum p.low shift q.low;
      middle = shifted_sum p.middle shift q.middle;
      high = shifted_sum p.high shift q.high;
    }
