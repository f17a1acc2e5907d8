-- The bytes of a number, of entries and of sections, document 01's own format. Each is named, since what is hashed is
-- made of them.
use Rattle.std.specs.Prelude.{List, [], ◌∷◌, ◌++◌, ℕ, zero, suc, ◌/◌, ◌%◌, length}

-- a number, modulo 256^width, in `width` bytes, the lowest first
unfoldable pub little_endian_bytes : (width n : ℕ) → List ℕ
little_endian_bytes zero n = []
little_endian_bytes (suc width) n = n % 256 ∷ little_endian_bytes width (n / 256)

-- a count, in 4 bytes
abbrev pub count_bytes : (count : ℕ) → List ℕ
count_bytes count = little_endian_bytes 4 count

-- an entry, in 8 bytes
abbrev pub entry_bytes : (entry : ℕ) → List ℕ
entry_bytes entry = little_endian_bytes 8 entry

-- entries one after the other
unfoldable pub entries_bytes : (entries : List ℕ) → List ℕ
entries_bytes [] = []
entries_bytes (entry ∷ entries) = entry_bytes entry ++ entries_bytes entries

-- a section: its count, then its entries
unfoldable pub section_bytes : (entries : List ℕ) → List ℕ
section_bytes entries = count_bytes (length entries) ++ entries_bytes entries

-- the sections of these lists, one after the other
unfoldable pub sections_bytes : (lists : List (List ℕ)) → List ℕ
sections_bytes [] = []
sections_bytes (entries ∷ lists) = section_bytes entries ++ sections_bytes lists
