-- The bytes of a number, as std gives them and as the format does. Assumes nothing.
use mathlib.Core.Path.{◌≡◌, ap}
use mathlib.Core.List.{[], ◌∷◌}
use Prim.Native.Nat.{ℕ, ◌/◌, ◌%◌}
use native.Mathlib.Omega.{arith}
use lib.ListN.{take}
use Rattle.std.specs.Int.{w64, to_le_bytes}
use Rattle.written.specs.Bytes.{little_endian_bytes, count_bytes, entry_bytes}

pub entry_is : (entry : ℕ) → to_le_bytes w64 entry ≡ entry_bytes entry
unfolding little_endian_bytes
entry_is n =
    let b : n / 65536 % 256 ≡ n / 256 / 256 % 256 = omega arith in
    let c : n / 16777216 % 256 ≡ n / 256 / 256 / 256 % 256 = omega arith in
    let d : n / 4294967296 % 256 ≡ n / 256 / 256 / 256 / 256 % 256 = omega arith in
    let e : n / 1099511627776 % 256 ≡ n / 256 / 256 / 256 / 256 / 256 % 256 = omega arith in
    let f : n / 281474976710656 % 256 ≡ n / 256 / 256 / 256 / 256 / 256 / 256 % 256 = omega arith in
    let g : n / 72057594037927936 % 256 ≡ n / 256 / 256 / 256 / 256 / 256 / 256 / 256 % 256 = omega arith in
    λ i. n % 256 ∷ n / 256 % 256 ∷ b i ∷ c i ∷ d i ∷ e i ∷ f i ∷ g i ∷ []

pub count_is : (count : ℕ) → take 4 (to_le_bytes w64 count) ≡ count_bytes count
unfolding little_endian_bytes
count_is count = ap (take 4) (entry_is count)
