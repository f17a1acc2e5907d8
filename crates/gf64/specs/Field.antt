-- The field of 2^64 elements. An element is a natural number below 2^64; the operations are defined on all naturals.
use Rattle.std.specs.Prelude.{ℕ, zero, suc, ◌-◌, ◌/◌, ◌%◌, ◌^◌, ◌<◌}
use Rattle.std.specs.Int.Bits.{bit_xor}
use Rattle.gf64.specs.Polynomial.{carryless, remainder}

-- an element: 64 bits, bit i for the coefficient of t^i
abbrev pub IsElement : (a : ℕ) → Type 0
IsElement a = a < 2 ^ 64

-- addition is exclusive or
abbrev pub sum : (a b : ℕ) → ℕ
sum a b = bit_xor a b

-- a product is the polynomial product reduced
unfoldable pub product : (a b : ℕ) → ℕ
product a b = remainder (carryless a b)

-- p, times a where the bit is set
unfoldable pub times_where : (bit a p : ℕ) → ℕ
times_where zero a p = p
times_where (suc bit) a p = product a p

-- with n = 2 n' + n₀ the power a^n is the square of a^n', times a where n₀ is set; `depth` only bounds the recursion
unfoldable pub power_in : (depth a n : ℕ) → ℕ
power_in zero a n = 1
power_in (suc depth) a zero = 1
power_in (suc depth) a (suc n) =
    let p = power_in depth a (suc n / 2) in
    times_where (suc n % 2) a (product p p)

-- a to the power n
unfoldable pub power : (a n : ℕ) → ℕ
unfolding power_in
power a n = power_in n a n

-- the inverse of a nonzero element, and 0 of 0; that it is the only inverse is `Inverses.unique` of Theorems.antt
unfoldable pub inverse : (a : ℕ) → ℕ
inverse a = power a (2 ^ 64 - 2)
