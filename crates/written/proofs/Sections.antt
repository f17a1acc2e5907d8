-- Sections that were written are read again, and bytes are the sections that are read from them: each by one induction
-- over a list of lists, whatever they mean. Assumes nothing.
use mathlib.Core.Path.{◌≡◌, refl, sym, ap, ap₂, ◌∙◌, subst}
use mathlib.Core.List.{List, [], ◌∷◌, ◌++◌, append_assoc, append-nil}
use Prim.Native.Nat.{ℕ, zero, suc, ◌+◌, ◌*◌, ◌^◌, ◌≤◌, ◌<◌}
use native.Mathlib.Nat.{add-zero, add-suc, suc-add, le_trans}
use native.Mathlib.Omega.{arith}
use lib.ListN.{length, get_or, take, drop, length-append, length-drop}
use lib.Seq.{take-add, drop_at, drop-drop, length-take-le}
use Rattle.gf64.specs.Field.{IsElement}
use Rattle.poly.specs.Polynomial.{All}
use Rattle.poly.proofs.Entries.{all_take, all_drop, all_append}
use Rattle.transcript.specs.Numerals.{AreBytes, little_endian, count_at, entry_at, entries_at}
use Rattle.transcript.specs.Sections.{section_start, section_count, section_entries}
use Rattle.transcript.proofs.Numerals.{length_entries}
use Rattle.transcript.proofs.Sections.{start_next, start_later}
use Rattle.written.specs.Bytes.{little_endian_bytes, count_bytes, entries_bytes, section_bytes, sections_bytes}
use Rattle.written.specs.Theorems.{WrittenSections}
use Rattle.written.proofs.Bytes.{length_number, number_written, count_behind, entries_behind}
use Rattle.written.proofs.Bytes.{length-entries_bytes, length-section_bytes, section-bytes}
use Rattle.written.proofs.Bytes.{same_count, same_entries, same_section}

-- a list that a section can hold: few enough entries for its count, all elements
abbrev pub Holds : (entries : List ℕ) → Type 0
Holds entries = (length entries < 2 ^ 32) × All IsElement entries

pub sections-bytes : (lists : List (List ℕ)) → AreBytes (sections_bytes lists)
unfolding sections_bytes
sections-bytes [] = record {}
sections-bytes (entries ∷ lists) =
    all_append (λ b. b < 2 ^ 8) (section_bytes entries) (sections_bytes lists) (section-bytes entries)
    (sections-bytes lists)

-- ---- what was written is read

module _ (before entries after : List ℕ) (h : Holds entries) where
  abbrev all : List ℕ
  all = before ++ (section_bytes entries ++ after)

  abbrev count : List ℕ
  count = count_bytes (length entries)

  count_then_entries : all ≡ before ++ (count ++ (entries_bytes entries ++ after))
  unfolding section_bytes
  count_then_entries = ap (λ (l : List ℕ). before ++ l) (append_assoc count (entries_bytes entries) after)

  count_there : count_at all (length before) ≡ length entries
  count_there =
      ap (λ (l : List ℕ). count_at l (length before)) count_then_entries
      ∙ count_behind before (length entries) (entries_bytes entries ++ after) h.0

  entries_there : entries_at all (length before + 4) (length entries) ≡ entries
  entries_there =
      ap (λ (l : List ℕ). entries_at l (length before + 4) (length entries))
      (count_then_entries ∙ sym (append_assoc before count (entries_bytes entries ++ after)))
      ∙ entries_behind (before ++ count) entries after (length before + 4)
      (omega (arith, length-append before count, length_number 4 (length entries))) h.1

-- a section says itself where it ends
module _ (one other after after' : List ℕ) (h : Holds one) (g : Holds other)
    (e : section_bytes one ++ after ≡ section_bytes other ++ after') where
  same_length : length one ≡ length other
  same_length = sym (count_there [] one after h) ∙ ap (λ (l : List ℕ). count_at l 0) e ∙ count_there [] other after' g

  same_first : (one ≡ other) × (after ≡ after')
  same_first =
      let size : length (section_bytes one) ≡ length (section_bytes other) =
      omega (arith, length-section_bytes one, length-section_bytes other, same_length) in (
        sym (entries_there [] one after h)
            ∙ ap₂ (λ (l : List ℕ) (n : ℕ). entries_at l 4 n) e same_length ∙ entries_there [] other after' g,
        sym (drop_at (section_bytes one) after (length (section_bytes one)) refl)
            ∙ ap₂ (λ (l : List ℕ) (n : ℕ). drop n l) e size
            ∙ drop_at (section_bytes other) after' (length (section_bytes other)) refl,
      )

pub written_sections : WrittenSections
written_sections =
    record {
      are_bytes = section-bytes;
      count_length = length_number 4;
      entries_length = length-entries_bytes;
      section_length = length-section_bytes;
      same_count = same_count;
      same_entries = same_entries;
      same_section = same_section;
      same_first = λ one other after after' h g n m e. same_first one other after after' (n, h) (m, g) e;
    }

-- section s, where it begins behind `before`
module _ (bytes before entries after : List ℕ) (s : ℕ) (least : 1 ≤ s) (begins : section_start bytes s ≡ length before)
    (is : bytes ≡ before ++ (section_bytes entries ++ after)) (h : Holds entries) where
  count_read : section_count bytes s ≡ length entries
  count_read = ap₂ count_at is begins ∙ count_there before entries after h

  section_read : section_entries bytes s ≡ entries
  section_read =
      ap (λ (n : ℕ). entries_at bytes (section_start bytes s + 4) n) count_read
      ∙ ap₂ (λ (l : List ℕ) (a : ℕ). entries_at l (a + 4) (length entries)) is begins
      ∙ entries_there before entries after h

  next_begins : section_start bytes (suc s) ≡ length (before ++ section_bytes entries)
  next_begins =
      start_next bytes s least
      ∙ omega (
        arith,
        begins,
        count_read,
        length-append before (section_bytes entries),
        length-section_bytes entries,
      )

-- the lists are read from section s on, and the bytes end with the last
abbrev pub AllRead : (bytes : List ℕ) (lists : List (List ℕ)) (s : ℕ) → Type 0
AllRead bytes lists s =
    ((i : ℕ) → i < length lists → section_entries bytes (s + i) ≡ get_or lists i [])
    × (section_start bytes (s + length lists) ≡ length bytes)

one_more : (bytes entries : List ℕ) (lists : List (List ℕ)) (s : ℕ) → section_entries bytes s ≡ entries
    → AllRead bytes lists (suc s) → AllRead bytes (entries ∷ lists) s
one_more bytes entries lists s here others =
    (each, ap (section_start bytes) (add-suc s (length lists) ∙ sym (suc-add s (length lists))) ∙ others.1)
  where
    each : (i : ℕ) → i < suc (length lists) → section_entries bytes (s + i) ≡ get_or (entries ∷ lists) i []
    each zero h = ap (section_entries bytes) (add-zero s) ∙ here
    each (suc i) h = ap (section_entries bytes) (add-suc s i ∙ sym (suc-add s i)) ∙ others.0 i (omega arith)

pub sections_read : (bytes before : List ℕ) (lists : List (List ℕ)) (s : ℕ) → 1 ≤ s
    → section_start bytes s ≡ length before → bytes ≡ before ++ sections_bytes lists → All Holds lists
    → AllRead bytes lists s
unfolding sections_bytes
sections_read bytes before [] s least begins is holds = (
  λ i h. absurd (omega arith),
  ap (section_start bytes) (add-zero s) ∙ begins ∙ omega (arith, ap length is, length-append before []),
)
sections_read bytes before (entries ∷ lists) s least begins is holds =
    let rest : List ℕ = sections_bytes lists in
    one_more bytes entries lists s (section_read bytes before entries rest s least begins is holds.0)
    (sections_read bytes (before ++ section_bytes entries) lists (suc s) (omega arith)
    (next_begins bytes before entries rest s least begins is holds.0)
    (is ∙ sym (append_assoc before (section_bytes entries) rest)) holds.1)

-- ---- what is read was written so

-- the lists of n sections from section s on
unfoldable pub lists_from : (bytes : List ℕ) (s n : ℕ) → List (List ℕ)
lists_from bytes s zero = []
lists_from bytes s (suc n) = section_entries bytes s ∷ lists_from bytes (suc s) n

module _ (bytes : List ℕ) (h : AreBytes bytes) where
  -- the bytes from a place on
  abbrev part : ℕ → ℕ → List ℕ
  part at width = take width (drop at bytes)

  number_there : (at width : ℕ) → at + width ≤ length bytes
      → little_endian_bytes width (little_endian (part at width)) ≡ part at width
  number_there at width l =
      ap (λ (n : ℕ). little_endian_bytes n (little_endian (part at width)))
      (sym (length-take-le width (drop at bytes) (omega (arith, length-drop at bytes))))
      ∙ number_written (part at width)
      (all_take (λ b. b < 2 ^ 8) width (drop at bytes) (all_drop (λ b. b < 2 ^ 8) at bytes h))

  -- a part behind another
  parts : (at width more : ℕ) → part at width ++ part (at + width) more ≡ part at (width + more)
  parts at width more =
      ap (λ (rest : List ℕ). part at width ++ take more rest) (sym (drop-drop width at bytes))
      ∙ sym (take-add width more (drop at bytes))

  entries_written : (at n : ℕ) → at + 8 * n ≤ length bytes → entries_bytes (entries_at bytes at n) ≡ part at (8 * n)
  unfolding entries_at entries_bytes entry_at
  entries_written at zero l = refl
  entries_written at (suc n) l =
      let more : 8 + 8 * n ≡ 8 * suc n = omega arith in
      ap₂ ◌++◌ (number_there at 8 (omega arith)) (entries_written (at + 8) n (omega arith))
      ∙ parts at 8 (8 * n) ∙ ap (part at) more

  section_written : (s : ℕ) → 1 ≤ s → section_start bytes (suc s) ≤ length bytes
      → section_bytes (section_entries bytes s) ≡ part (section_start bytes s) (4 + 8 * section_count bytes s)
  unfolding section_bytes count_at
  section_written s least l =
      let at : ℕ = section_start bytes s in
      let n : ℕ = section_count bytes s in
      let ends : at + 4 + 8 * n ≤ length bytes = omega (arith, start_next bytes s least) in
      ap (λ (m : ℕ). count_bytes m ++ entries_bytes (section_entries bytes s)) (length_entries bytes (at + 4) n)
      ∙ ap₂ ◌++◌ (number_there at 4 (omega arith)) (entries_written (at + 4) n (omega arith)) ∙ parts at 4 (8 * n)

  pub sections_written : (s n : ℕ) → 1 ≤ s → section_start bytes (s + n) ≤ length bytes
      → take (section_start bytes s) bytes ++ sections_bytes (lists_from bytes s n)
      ≡ take (section_start bytes (s + n)) bytes
  unfolding lists_from sections_bytes
  sections_written s zero least l =
      append-nil (take (section_start bytes s) bytes)
      ∙ ap (λ (m : ℕ). take (section_start bytes m) bytes) (sym (add-zero s))
  sections_written s (suc n) least l =
      let at : ℕ = section_start bytes s in
      let size : ℕ = 4 + 8 * section_count bytes s in
      let rest : List ℕ = sections_bytes (lists_from bytes (suc s) n) in
      let later : section_start bytes (suc s) ≤ length bytes =
      le_trans (start_later bytes (suc s) (s + suc n) (omega arith) (omega arith)) l in
      let next : at + size ≡ section_start bytes (suc s) = omega (arith, start_next bytes s least) in
      ap (λ (section : List ℕ). take at bytes ++ (section ++ rest)) (section_written s least later)
      ∙ sym (append_assoc (take at bytes) (part at size) rest)
      ∙ ap (λ (front : List ℕ). front ++ rest) (sym (take-add at size bytes) ∙ ap (λ (m : ℕ). take m bytes) next)
      ∙ sections_written (suc s) n (omega arith)
      (subst (λ (m : ℕ). section_start bytes m ≤ length bytes) (add-suc s n ∙ sym (suc-add s n)) l)
      ∙ ap (λ (m : ℕ). take (section_start bytes m) bytes) (suc-add s n ∙ sym (add-suc s n))
