-- Numbers in bytes, little-endian: counts in 4 bytes, entries in 8. Bytes beyond the end count as zeros.
use Rattle.std.specs.Prelude.{List, [], ◌∷◌, ℕ, zero, suc, ◌+◌, ◌*◌, ◌^◌, ◌<◌, take, drop}
use Rattle.poly.specs.Polynomial.{All}

-- each is a byte, of 8 bits
abbrev pub AreBytes : (bytes : List ℕ) → Type 0
AreBytes bytes = All (λ b. b < 2 ^ 8) bytes

-- the number of these bytes, the lowest first
unfoldable pub little_endian : (bytes : List ℕ) → ℕ
little_endian [] = 0
little_endian (byte ∷ bytes) = byte + 256 * little_endian bytes

-- the count whose 4 bytes begin at a place
unfoldable pub count_at : (bytes : List ℕ) (at : ℕ) → ℕ
count_at bytes at = little_endian (take 4 (drop at bytes))

-- the entry whose 8 bytes begin at a place
unfoldable pub entry_at : (bytes : List ℕ) (at : ℕ) → ℕ
entry_at bytes at = little_endian (take 8 (drop at bytes))

-- n entries, the first of which begins at a place
unfoldable pub entries_at : (bytes : List ℕ) (at n : ℕ) → List ℕ
entries_at bytes at zero = []
entries_at bytes at (suc n) = entry_at bytes at ∷ entries_at bytes (at + 8) n
