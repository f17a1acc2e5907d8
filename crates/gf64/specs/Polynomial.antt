-- Polynomials over GF(2) as natural numbers: bit i is the coefficient of t^i, and the sum is the exclusive or.
-- `carryless_in` and `remainder_in` go through the bits of a number, the lowest first. Their `depth` only bounds the
-- recursion: a number is at least as large as its count of bits, so that as a bound it never runs out.
use Rattle.std.specs.Prelude.{ℕ, zero, suc, ◌+◌, ◌*◌, ◌/◌, ◌%◌, ◌^◌}
use Rattle.std.specs.Int.Bits.{bit_xor}

-- t^4 + t^3 + t + 1, which t^64 reduces to: the constant 1b
abbrev pub reduction : ℕ
reduction = 0x1b

-- t^64 + t^4 + t^3 + t + 1
abbrev pub modulus : ℕ
modulus = 2 ^ 64 + reduction

-- with a = 2 a' + a₀ the product a · b is a₀ · b + t · (a' · b)
unfoldable pub carryless_in : (depth a b : ℕ) → ℕ
carryless_in zero a b = 0
carryless_in (suc depth) zero b = 0
carryless_in (suc depth) (suc a) b = bit_xor ((suc a % 2) * b) (carryless_in depth (suc a / 2) b * 2)

-- the polynomial product a · b
unfoldable pub carryless : (a b : ℕ) → ℕ
unfolding carryless_in
carryless a b = carryless_in a a b

-- t · v reduced, for a v of 64 bits: where bit 63 of v is set, t · v has t^64
unfoldable pub times_t : (v : ℕ) → ℕ
times_t v = bit_xor (((v / 2 ^ 63) % 2) * reduction) ((v * 2) % 2 ^ 64)

-- with x = 2 x' + x₀ the remainder of x is t · (the remainder of x'), reduced, + x₀
unfoldable pub remainder_in : (depth x : ℕ) → ℕ
remainder_in zero x = 0
remainder_in (suc depth) zero = 0
remainder_in (suc depth) (suc x) = bit_xor (suc x % 2) (times_t (remainder_in depth (suc x / 2)))

-- the remainder of x by t^64 + t^4 + t^3 + t + 1
unfoldable pub remainder : (x : ℕ) → ℕ
unfolding remainder_in
remainder x = remainder_in x x
