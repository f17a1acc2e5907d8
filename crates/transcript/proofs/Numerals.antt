-- Little-endian numbers byte by byte, and lists of entries. Assumes nothing.
use mathlib.Core.Path.{◌≡◌, refl, sym, ap, ◌∙◌}
use mathlib.Core.List.{List, [], ◌∷◌}
use Prim.Native.Nat.{ℕ, zero, suc, ◌+◌, ◌*◌, ◌^◌, ◌≤◌, ◌<◌}
use native.Mathlib.Omega.{arith}
use lib.ListN.{length, get_or, take, drop}
use lib.Seq.{take-nil}
use Rattle.gf64.specs.Field.{IsElement}
use Rattle.poly.specs.Polynomial.{All}
use Rattle.poly.proofs.Entries.{all_get_d}
use Rattle.transcript.specs.Numerals.{AreBytes, little_endian, count_at, entry_at, entries_at}

-- ---- numbers

number_of_none : (n : ℕ) → little_endian (take n []) ≡ 0
unfolding little_endian
number_of_none n = ap little_endian (take-nil n)

-- the lowest byte, and the number of those after it
next_byte : (bytes : List ℕ) (at n : ℕ)
    → little_endian (take (suc n) (drop at bytes)) ≡ get_or bytes at 0 + 256 * little_endian (take n (drop (suc at) bytes))
unfolding little_endian
next_byte [] zero n = omega (arith, number_of_none n)
next_byte [] (suc at) n = omega (arith, number_of_none n)
next_byte (b ∷ bytes) zero n = refl
next_byte (b ∷ bytes) (suc at) n = next_byte bytes at n

byte_then : (bytes : List ℕ) (at after n : ℕ) → after ≡ suc at
    → little_endian (take (suc n) (drop at bytes)) ≡ get_or bytes at 0 + 256 * little_endian (take n (drop after bytes))
byte_then bytes at after n e =
    next_byte bytes at n ∙ ap (λ (m : ℕ). get_or bytes at 0 + 256 * little_endian (take n (drop m bytes))) (sym e)

-- four bytes, and the number of those after them
four_bytes : (bytes : List ℕ) (at n : ℕ)
    → little_endian (take (suc (suc (suc (suc n)))) (drop at bytes))
    ≡ get_or bytes at 0 + 256 * get_or bytes (at + 1) 0 + 65536 * get_or bytes (at + 2) 0 + 16777216 * get_or bytes (at + 3) 0
    + 4294967296 * little_endian (take n (drop (at + 4) bytes))
four_bytes bytes at n =
    omega (
      arith,
      byte_then bytes at (at + 1) (suc (suc (suc n))) (omega arith),
      byte_then bytes (at + 1) (at + 2) (suc (suc n)) (omega arith),
      byte_then bytes (at + 2) (at + 3) (suc n) (omega arith),
      byte_then bytes (at + 3) (at + 4) n (omega arith),
    )

pub count-bytes : (bytes : List ℕ) (at : ℕ)
    → count_at bytes at
    ≡ get_or bytes at 0 + 256 * get_or bytes (at + 1) 0 + 65536 * get_or bytes (at + 2) 0 + 16777216 * get_or bytes (at + 3) 0
unfolding count_at little_endian
count-bytes bytes at = omega (arith, four_bytes bytes at 0)

-- an entry is two counts
pub entry_counts : (bytes : List ℕ) (at : ℕ) → entry_at bytes at ≡ count_at bytes at + 2 ^ 32 * count_at bytes (at + 4)
unfolding entry_at count_at
entry_counts bytes at = omega (arith, four_bytes bytes at 4, count-bytes bytes at)

pub are_bytes : (bytes : List ℕ) → ((at : ℕ) → get_or bytes at 0 < 256) → AreBytes bytes
are_bytes [] h = record {}
are_bytes (b ∷ bytes) h = (h 0, are_bytes bytes (λ at. h (suc at)))

byte_fits : (bytes : List ℕ) → AreBytes bytes → (at : ℕ) → get_or bytes at 0 < 256
byte_fits bytes h at = all_get_d (λ b. b < 256) bytes at 0 (omega arith) h

pub count_fits : (bytes : List ℕ) → AreBytes bytes → (at : ℕ) → count_at bytes at < 2 ^ 32
count_fits bytes h at =
    omega (
      arith,
      count-bytes bytes at,
      byte_fits bytes h at,
      byte_fits bytes h (at + 1),
      byte_fits bytes h (at + 2),
      byte_fits bytes h (at + 3),
    )

pub entry_fits : (bytes : List ℕ) → AreBytes bytes → (at : ℕ) → IsElement (entry_at bytes at)
entry_fits bytes h at = omega (arith, entry_counts bytes at, count_fits bytes h at, count_fits bytes h (at + 4))

-- ---- entries

pub length_entries : (bytes : List ℕ) (at n : ℕ) → length (entries_at bytes at n) ≡ n
unfolding entries_at
length_entries bytes at zero = refl
length_entries bytes at (suc n) = ap suc (length_entries bytes (at + 8) n)

pub entry_of : (bytes : List ℕ) (at n i : ℕ) → i < n → get_or (entries_at bytes at n) i 0 ≡ entry_at bytes (at + 8 * i)
unfolding entries_at
entry_of bytes at zero i h = absurd (omega arith)
entry_of bytes at (suc n) zero h = ap (entry_at bytes) (omega arith)
entry_of bytes at (suc n) (suc i) h = entry_of bytes (at + 8) n i (omega arith) ∙ ap (entry_at bytes) (omega arith)

first_entries : (bytes : List ℕ) (at n m : ℕ) → m ≤ n → take m (entries_at bytes at n) ≡ entries_at bytes at m
unfolding entries_at
first_entries bytes at n zero h = refl
first_entries bytes at zero (suc m) h = absurd (omega arith)
first_entries bytes at (suc n) (suc m) h =
    ap (λ (l : List ℕ). entry_at bytes at ∷ l) (first_entries bytes (at + 8) n m (omega arith))

-- a part of them
pub part_of_entries : (bytes : List ℕ) (at n begin m : ℕ) → begin + m ≤ n
    → take m (drop begin (entries_at bytes at n)) ≡ entries_at bytes (at + 8 * begin) m
unfolding entries_at
part_of_entries bytes at n zero m h =
    first_entries bytes at n m (omega arith) ∙ ap (λ (a : ℕ). entries_at bytes a m) (omega arith)
part_of_entries bytes at zero (suc begin) m h = absurd (omega arith)
part_of_entries bytes at (suc n) (suc begin) m h =
    part_of_entries bytes (at + 8) n begin m (omega arith) ∙ ap (λ (a : ℕ). entries_at bytes a m) (omega arith)

pub entries_fit : (bytes : List ℕ) → AreBytes bytes → (at n : ℕ) → All IsElement (entries_at bytes at n)
unfolding entries_at
entries_fit bytes h at zero = record {}
entries_fit bytes h at (suc n) = (entry_fits bytes h at, entries_fit bytes h (at + 8) n)
