-- Bytes of numbers, entries and sections: how many there are, and that they are read as they were written. Assumes
-- nothing.
use mathlib.Core.Path.{◌≡◌, refl, sym, ap, ap₂, ◌∙◌}
use mathlib.Core.List.{List, [], ◌∷◌, ◌++◌, append_assoc, append-nil}
use Prim.Native.Nat.{ℕ, zero, suc, ◌+◌, ◌*◌, ◌/◌, ◌%◌, ◌^◌, ◌≤◌, ◌<◌}
use native.Mathlib.Omega.{arith}
use lib.ListN.{length, get_or, take, drop, length-append}
use lib.Seq.{take_at, drop_at, take-suc, length-take-le}
use Rattle.gf64.specs.Field.{IsElement}
use Rattle.poly.specs.Polynomial.{All}
use Rattle.poly.proofs.Entries.{all_append}
use Rattle.transcript.specs.Numerals.{AreBytes, little_endian, count_at, entry_at, entries_at}
use Rattle.written.specs.Bytes.{little_endian_bytes, count_bytes, entry_bytes, entries_bytes, section_bytes}

-- ---- numbers

pub length_number : (width n : ℕ) → length (little_endian_bytes width n) ≡ width
unfolding little_endian_bytes
length_number zero n = refl
length_number (suc width) n = ap suc (length_number width (n / 256))

number_bytes : (width n : ℕ) → AreBytes (little_endian_bytes width n)
unfolding little_endian_bytes
number_bytes zero n = record {}
number_bytes (suc width) n = (omega arith, number_bytes width (n / 256))

-- a number is read as it was written, where the bytes hold it
pub number_read : (width n : ℕ) → n < 256 ^ width → little_endian (little_endian_bytes width n) ≡ n
unfolding little_endian_bytes little_endian
number_read zero n h = omega arith
number_read (suc width) n h = omega (arith, number_read width (n / 256) (omega arith))

-- bytes are written as they were read
pub number_written : (bytes : List ℕ) → AreBytes bytes → little_endian_bytes (length bytes) (little_endian bytes) ≡ bytes
unfolding little_endian_bytes little_endian
number_written [] h = refl
number_written (b ∷ bytes) h =
    let small : b < 256 = h.0 in
    let n : ℕ = little_endian bytes in
    let low : (b + 256 * n) % 256 ≡ b = omega arith in
    let high : (b + 256 * n) / 256 ≡ n = omega arith in
    ap₂ (λ (x : ℕ) (l : List ℕ). x ∷ l) low (ap (little_endian_bytes (length bytes)) high ∙ number_written bytes h.1)

-- a number that stands behind others
module _ (before : List ℕ) (n : ℕ) (after : List ℕ) where
  behind : (width : ℕ)
      → take width (drop (length before) (before ++ (little_endian_bytes width n ++ after))) ≡ little_endian_bytes width n
  behind width =
      ap (take width) (drop_at before (little_endian_bytes width n ++ after) (length before) refl)
      ∙ take_at (little_endian_bytes width n) after width (length_number width n)

  pub count_behind : n < 2 ^ 32 → count_at (before ++ (count_bytes n ++ after)) (length before) ≡ n
  unfolding count_at
  count_behind h = ap little_endian (behind 4) ∙ number_read 4 n h

  pub entry_behind : IsElement n → entry_at (before ++ (entry_bytes n ++ after)) (length before) ≡ n
  unfolding entry_at
  entry_behind h = ap little_endian (behind 8) ∙ number_read 8 n h

-- ---- entries

pub length-entries_bytes : (entries : List ℕ) → length (entries_bytes entries) ≡ 8 * length entries
unfolding entries_bytes
length-entries_bytes [] = refl
length-entries_bytes (x ∷ entries) =
    omega (arith, length-append (entry_bytes x) (entries_bytes entries), length_number 8 x, length-entries_bytes entries)

entries-bytes : (entries : List ℕ) → AreBytes (entries_bytes entries)
unfolding entries_bytes
entries-bytes [] = record {}
entries-bytes (x ∷ entries) =
    all_append (λ b. b < 2 ^ 8) (entry_bytes x) (entries_bytes entries) (number_bytes 8 x) (entries-bytes entries)

-- entries that stand behind other bytes
pub entries_behind : (before entries after : List ℕ) (at : ℕ) → at ≡ length before → All IsElement entries
    → entries_at (before ++ (entries_bytes entries ++ after)) at (length entries) ≡ entries
unfolding entries_at entries_bytes
entries_behind before [] after at e h = refl
entries_behind before (x ∷ xs) after at e h =
    ap₂ (λ (y : ℕ) (l : List ℕ). y ∷ l)
    (ap (λ (l : List ℕ). entry_at l at) first ∙ ap (entry_at (before ++ (entry_bytes x ++ (entries_bytes xs ++ after)))) e
    ∙ entry_behind before x (entries_bytes xs ++ after) h.0)
    (ap (λ (l : List ℕ). entries_at l (at + 8) (length xs))
    (first ∙ sym (append_assoc before (entry_bytes x) (entries_bytes xs ++ after)))
    ∙ entries_behind (before ++ entry_bytes x) xs after (at + 8)
    (omega (arith, length-append before (entry_bytes x), length_number 8 x)) h.1)
  where
    first : before ++ ((entry_bytes x ++ entries_bytes xs) ++ after)
        ≡ before ++ (entry_bytes x ++ (entries_bytes xs ++ after))
    first = ap (λ (l : List ℕ). before ++ l) (append_assoc (entry_bytes x) (entries_bytes xs) after)

entries_append : (xs ys : List ℕ) → entries_bytes (xs ++ ys) ≡ entries_bytes xs ++ entries_bytes ys
unfolding entries_bytes
entries_append [] ys = refl
entries_append (x ∷ xs) ys =
    ap (λ (l : List ℕ). entry_bytes x ++ l) (entries_append xs ys)
    ∙ sym (append_assoc (entry_bytes x) (entries_bytes xs) (entries_bytes ys))

one_entry : (x : ℕ) → entries_bytes (x ∷ []) ≡ entry_bytes x
unfolding entries_bytes
one_entry x = append-nil (entry_bytes x)

-- one entry more
pub entries_next : (entries : List ℕ) (i : ℕ) → i < length entries
    → entries_bytes (take i entries) ++ entry_bytes (get_or entries i 0) ≡ entries_bytes (take (suc i) entries)
entries_next entries i h =
    ap (λ (l : List ℕ). entries_bytes (take i entries) ++ l) (sym (one_entry (get_or entries i 0)))
    ∙ sym (entries_append (take i entries) (get_or entries i 0 ∷ [])) ∙ ap entries_bytes (sym (take-suc entries i 0 h))

pub length_first : (entries : List ℕ) (i : ℕ) → i ≤ length entries → length (entries_bytes (take i entries)) ≡ 8 * i
length_first entries i h = omega (arith, length-entries_bytes (take i entries), length-take-le i entries h)

-- ---- sections

pub length-section_bytes : (entries : List ℕ) → length (section_bytes entries) ≡ 4 + 8 * length entries
unfolding section_bytes
length-section_bytes entries =
    omega (
      arith,
      length-append (count_bytes (length entries)) (entries_bytes entries),
      length_number 4 (length entries),
      length-entries_bytes entries,
    )

pub section-bytes : (entries : List ℕ) → AreBytes (section_bytes entries)
unfolding section_bytes
section-bytes entries =
    all_append (λ b. b < 2 ^ 8) (count_bytes (length entries)) (entries_bytes entries) (number_bytes 4 (length entries))
    (entries-bytes entries)

-- ---- others have other bytes

pub same_count : (one other : ℕ) → one < 2 ^ 32 → other < 2 ^ 32 → count_bytes one ≡ count_bytes other → one ≡ other
same_count one other h g e = sym (number_read 4 one h) ∙ ap little_endian e ∙ number_read 4 other g

read_entries : (entries : List ℕ) → All IsElement entries
    → entries_at (entries_bytes entries ++ []) 0 (length entries) ≡ entries
read_entries entries h = entries_behind [] entries [] 0 refl h

pub same_entries : (one other : List ℕ) → All IsElement one → All IsElement other
    → entries_bytes one ≡ entries_bytes other → one ≡ other
same_entries one other h g e =
    let lengths : length one ≡ length other =
    omega (arith, length-entries_bytes one, length-entries_bytes other, ap length e) in
    sym (read_entries one h)
    ∙ ap₂ (λ (l : List ℕ) (n : ℕ). entries_at (l ++ []) 0 n) e lengths ∙ read_entries other g

pub same_section : (one other : List ℕ) → All IsElement one → All IsElement other
    → section_bytes one ≡ section_bytes other → one ≡ other
unfolding section_bytes
same_section one other h g e = same_entries one other h g (sym (entries_of one) ∙ ap (drop 4) e ∙ entries_of other)
  where
    entries_of : (entries : List ℕ)
        → drop 4 (count_bytes (length entries) ++ entries_bytes entries) ≡ entries_bytes entries
    entries_of entries =
        drop_at (count_bytes (length entries)) (entries_bytes entries) 4 (length_number 4 (length entries))
