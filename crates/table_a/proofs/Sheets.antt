-- The marking sheets of cases G, H and K: the sections of their transcripts pass, and the lines of their runs are
-- computed from the values of the round checks. Assumes nothing.
use mathlib.Core.Path.{◌≡◌, refl, ap₂, ◌∙◌}
use mathlib.Core.List.{List, [], ◌∷◌, ◌++◌, append-nil}
use Prim.Native.Nat.{ℕ}
use native.Mathlib.Omega.{arith}
use Rattle.gf64.specs.Field.{product}
use Rattle.gf64.specs.Polynomial.{carryless, carryless_in, remainder, remainder_in, times_t}
use Rattle.poly.specs.Polynomial.{evaluate, plus, scale, times_linear, vanishing_polynomial}
use Rattle.std.specs.Prelude.{Ok}
use Rattle.coset.specs.Coset.{point, points, tabulated}
use Rattle.coset.specs.Span.{in_span, first_dependent_after, first_dependent}
use Rattle.coset.specs.Subspace.{next_offset, next_basis, image, subspace_polynomial}
use Rattle.fri.specs.Layout.{dimension, last_count, layer_start, stored_layer, index_in}
use Rattle.fri.specs.Run.{Run, layer_in}
use Rattle.fri.specs.Layers.{layer_basis, layer_offset}
use Rattle.fri.specs.Checks.{first_outside, among, first_repeated_after, first_shared}
use Rattle.fri.specs.Rounds.{value_computed, value_found}
use Rattle.transcript.specs.Numerals.{little_endian, count_at, entry_at, entries_at}
use Rattle.transcript.specs.Sections.{section_start}
use Rattle.transcript.specs.Checks.{layers_from, transcript_outcome}
use Rattle.line_text.specs.Digits.{bytes, digits, places_within, decimal}
use Rattle.sheet_text.specs.Sheet.{decimal_field, value_field, mark_field, line_text, sheet_line, query_lines}
use Rattle.sheet_text.specs.Sheet.{sheet_lines}
use Rattle.table_a.specs.TableA.{small, two_rounds}
use Rattle.table_a.specs.Transcripts.{one_round, two_rounds_bytes}
use Rattle.table_a.proofs.Values.{f_value, h_value, k_first, k_second}

-- ---- the sections

pub passed_one : (last : ℕ) → transcript_outcome (one_round last) ≡ Ok tt
unfolding in_span first_dependent_after first_dependent dimension last_count first_outside among first_repeated_after
    first_shared little_endian count_at entry_at entries_at section_start layers_from
passed_one last = refl

pub passed_two : transcript_outcome two_rounds_bytes ≡ Ok tt
unfolding in_span first_dependent_after first_dependent dimension last_count first_outside among first_repeated_after
    first_shared little_endian count_at entry_at entries_at section_start layers_from
passed_two = refl

-- ---- a line by its values

line_of : (run : Run) (query j i computed found : ℕ) → value_computed run j i ≡ computed → value_found run j i ≡ found
    → sheet_line run query j i ≡ line_text query j i computed found
line_of run query j i computed found = ap₂ (line_text query j i)

-- ---- cases G and H: two queries of one round

abbrev of_word : List ℕ → Run
of_word word = small 4 word (0xb ∷ [])

-- the last polynomial is b
small_found : (word : List ℕ) → (value_found (of_word word) 0 0 ≡ 0xb) × (value_found (of_word word) 3 0 ≡ 0xb)
unfolding product carryless carryless_in remainder remainder_in times_t evaluate plus scale times_linear vanishing_polynomial
    point points tabulated next_offset next_basis image subspace_polynomial layer_basis layer_offset index_in value_found
small_found word = (refl, refl)

small_lines : (word : List ℕ) (first second : ℕ)
    → value_computed (of_word word) 0 0 ≡ first → value_computed (of_word word) 3 0 ≡ second
    → sheet_lines (of_word word) (0 ∷ 3 ∷ []) 0 ≡ line_text 0 0 0 first 0xb ++ line_text 1 3 0 second 0xb
unfolding sheet_lines query_lines
small_lines word first second e f =
    ap₂ (λ (s t : List ℕ). (s ++ []) ++ (t ++ [] ++ []))
    (line_of (of_word word) 0 0 0 first 0xb e (small_found word).0)
    (line_of (of_word word) 1 3 0 second 0xb f (small_found word).1)
    ∙ simp append-nil

pub g_lines : sheet_lines (of_word (7 ∷ 4 ∷ 1 ∷ 2 ∷ [])) (0 ∷ 3 ∷ []) 0
    ≡ bytes "    0        0   0 000000000000000b 000000000000000b ok\n"
    ++ bytes "    1        3   0 000000000000000b 000000000000000b ok\n"
unfolding line_text decimal_field value_field mark_field decimal digits places_within bytes
g_lines =
    small_lines (7 ∷ 4 ∷ 1 ∷ 2 ∷ []) 0xb 0xb (f_value (0xb ∷ []) 0 0 (omega arith) refl)
    (f_value (0xb ∷ []) 3 1 (omega arith) refl)

pub h_lines : sheet_lines (of_word (7 ∷ 4 ∷ 1 ∷ 3 ∷ [])) (0 ∷ 3 ∷ []) 0
    ≡ bytes "    0        0   0 000000000000000b 000000000000000b ok\n"
    ++ bytes "    1        3   0 000000000000000d 000000000000000b no\n"
unfolding line_text decimal_field value_field mark_field decimal digits places_within bytes
h_lines =
    small_lines (7 ∷ 4 ∷ 1 ∷ 3 ∷ []) 0xb 0xd (h_value (0xb ∷ []) 0 0 (omega arith) refl)
    (h_value (0xb ∷ []) 3 1 (omega arith) refl)

-- ---- case K: two rounds of one query

abbrev case_k : Run
case_k = two_rounds (2 ∷ 4 ∷ 0x16 ∷ 0x10 ∷ []) (1 ∷ [])

k_found : (value_found case_k 5 0 ≡ 0x16) × (value_found case_k 5 1 ≡ 1)
unfolding product carryless carryless_in remainder remainder_in times_t evaluate plus scale times_linear vanishing_polynomial
    point points tabulated next_offset next_basis image subspace_polynomial layer_basis layer_offset index_in value_found
    dimension layer_start stored_layer layer_in
k_found = (refl, refl)

k_texts : sheet_lines case_k (5 ∷ []) 0 ≡ line_text 0 5 0 0x16 0x16 ++ line_text 0 5 1 1 1
unfolding sheet_lines query_lines
k_texts =
    ap₂ (λ (s t : List ℕ). s ++ (t ++ []) ++ []) (line_of case_k 0 5 0 0x16 0x16 k_first k_found.0)
    (line_of case_k 0 5 1 1 1 k_second k_found.1)
    ∙ simp append-nil

pub k_lines : sheet_lines case_k (5 ∷ []) 0
    ≡ bytes "    0        5   0 0000000000000016 0000000000000016 ok\n"
    ++ bytes "    0        5   1 0000000000000001 0000000000000001 ok\n"
unfolding line_text decimal_field value_field mark_field decimal digits places_within bytes
k_lines = k_texts
