-- What is proved of the field, as statements: proofs/Theorems.antt has a value of each.
use Rattle.std.specs.Prelude.{◌≡◌, ◌≢◌, ℕ, zero, suc, ◌+◌, ◌*◌, ◌/◌, ◌%◌, ◌^◌, ◌<◌}
use Rattle.gf64.specs.Polynomial.{carryless, remainder, modulus}
use Rattle.gf64.specs.Field.{IsElement, sum, product, power, inverse}

-- the coefficient of t^n
abbrev pub coefficient : (a n : ℕ) → ℕ
coefficient a n = (a / 2 ^ n) % 2

-- the sum over i + j = n of a_i · b_j as a number, the term of a's lowest coefficient first
unfoldable pub convolution : (a b n : ℕ) → ℕ
convolution a b zero = (a % 2) * (b % 2)
convolution a b (suc n) = (a % 2) * coefficient b (suc n) + convolution (a / 2) b n

-- `carryless` is the product of polynomials over GF(2)
pub record PolynomialProduct : Type 0 where
  pub coefficients : (a b n : ℕ) → coefficient (carryless a b) n ≡ convolution a b n % 2
  pub commutative : (a b : ℕ) → carryless a b ≡ carryless b a
  pub associative : (a b c : ℕ) → carryless (carryless a b) c ≡ carryless a (carryless b c)
  pub distributive : (a b c : ℕ) → carryless a (sum b c) ≡ sum (carryless a b) (carryless a c)

-- the remainder is the textbook one: x = q · modulus + remainder, and below 2^64 there is no other
pub record Division : Type 0 where
  pub below : (x : ℕ) → remainder x < 2 ^ 64
  pub decomposes : (x : ℕ) → (q : ℕ) × (x ≡ sum (carryless q modulus) (remainder x))
  pub unique : (x q r : ℕ) → r < 2 ^ 64 → x ≡ sum (carryless q modulus) r → r ≡ remainder x

-- the sum adds coefficients modulo 2: a commutative group in which every element is its own negative
pub record SumGroup : Type 0 where
  pub coefficients : (a b n : ℕ) → coefficient (sum a b) n ≡ (coefficient a n + coefficient b n) % 2
  pub closed : (a b : ℕ) → IsElement a → IsElement b → IsElement (sum a b)
  pub commutative : (a b : ℕ) → sum a b ≡ sum b a
  pub associative : (a b c : ℕ) → sum (sum a b) c ≡ sum a (sum b c)
  pub zero_neutral : (a : ℕ) → sum 0 a ≡ a
  pub own_negative : (a : ℕ) → sum a a ≡ 0

-- the product is commutative, associative and distributive on all naturals; one is neutral on elements
pub record ProductRing : Type 0 where
  pub closed : (a b : ℕ) → IsElement (product a b)
  pub commutative : (a b : ℕ) → product a b ≡ product b a
  pub associative : (a b c : ℕ) → product (product a b) c ≡ product a (product b c)
  pub distributive : (a b c : ℕ) → product a (sum b c) ≡ sum (product a b) (product a c)
  pub one_neutral : (a : ℕ) → IsElement a → product 1 a ≡ a
  pub square_additive : (a b : ℕ) → product (sum a b) (sum a b) ≡ sum (product a a) (product b b)

-- every nonzero element has exactly one inverse, `inverse`, which gives zero for zero; there are no zero divisors
pub record Inverses : Type 0 where
  pub closed : (a : ℕ) → IsElement (inverse a)
  pub inverts : (a : ℕ) → IsElement a → a ≢ 0 → product a (inverse a) ≡ 1
  pub unique : (a x : ℕ) → IsElement a → IsElement x → product a x ≡ 1 → x ≡ inverse a
  pub no_zero_divisors : (a b : ℕ) → IsElement a → IsElement b → a ≢ 0 → product a b ≡ 0 → b ≡ 0
  pub of_zero : inverse 0 ≡ 0

-- `power` is the repeated product
pub record Powers : Type 0 where
  pub at_zero : (a : ℕ) → power a 0 ≡ 1
  pub at_successor : (a n : ℕ) → power a (suc n) ≡ product a (power a n)

-- cases A, B and C of Table A
pub record FieldCases : Type 0 where
  pub a : product 0x8000000000000000 2 ≡ 0x1b
  pub b : product 3 7 ≡ 9
  pub c : inverse 2 ≡ 0x800000000000000d
