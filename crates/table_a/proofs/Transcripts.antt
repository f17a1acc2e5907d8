-- Cases G, H and K as transcripts: they are what is written of the runs of Table A, and G and H carry these, whose
-- verdicts are computed there; their sheets have the lines of these runs. Assumes nothing.
use mathlib.Core.Path.{◌≡◌, refl, sym, ap₂, ◌∙◌, subst}
use mathlib.Core.List.{List, [], ◌∷◌}
use Prim.Native.Nat.{ℕ, zero, suc, ◌^◌, ◌≤◌, ◌<◌}
use native.Mathlib.Omega.{arith}
use lib.ListN.{length}
use Rattle.std.specs.Prelude.{Some, None, Ok}
use Rattle.fri.specs.declared.Verdict.{Verdict}
use Rattle.fri.specs.Layout.{dimension, last_count, layer_start, joined_layers, stored_layer}
use Rattle.fri.specs.Run.{Run, layer_in}
use Rattle.fri.specs.Judge.{verdict_of}
use Rattle.fri.specs.Theorems.{Tells}
use Rattle.transcript.specs.Numerals.{little_endian, count_at, entry_at, entries_at}
use Rattle.transcript.specs.Sections.{section_start, section_count, layer_section, run_in, queries_in}
use Rattle.transcript.specs.Checks.{transcript_outcome}
use Rattle.transcript.specs.Judge.{input_limit, input_verdict}
use Rattle.transcript.specs.Theorems.{Carries}
use Rattle.transcript.proofs.Theorems.{judging_bytes}
use Rattle.sheet_text.specs.Sheet.{sheet_lines, sheet_of}
use Rattle.sheet_text.proofs.Sheets.{sheet_passed}
use Rattle.sheet_text.proofs.Theorems.{sheets}
use Rattle.written.specs.Bytes.{little_endian_bytes, entries_bytes, section_bytes, sections_bytes}
use Rattle.written.specs.Transcript.{layers_then_last, transcript_of}
use Rattle.table_a.specs.TableA.{small, two_rounds}
use Rattle.table_a.specs.Transcripts.{one_round, two_rounds_bytes, TranscriptCases}
use Rattle.table_a.proofs.TableA.{table-a}
use Rattle.table_a.proofs.Sheets.{passed_one, passed_two, g_lines, h_lines, k_lines}

-- ---- what is written

written_g : transcript_of (small 4 (7 ∷ 4 ∷ 1 ∷ 2 ∷ []) (0xb ∷ [])) (0 ∷ 3 ∷ []) ≡ one_round 2
unfolding transcript_of layers_then_last layer_in sections_bytes section_bytes entries_bytes little_endian_bytes
written_g = refl

written_h : transcript_of (small 4 (7 ∷ 4 ∷ 1 ∷ 3 ∷ []) (0xb ∷ [])) (0 ∷ 3 ∷ []) ≡ one_round 3
unfolding transcript_of layers_then_last layer_in sections_bytes section_bytes entries_bytes little_endian_bytes
written_h = refl

written_k : transcript_of (two_rounds (2 ∷ 4 ∷ 0x16 ∷ 0x10 ∷ []) (1 ∷ [])) (5 ∷ []) ≡ two_rounds_bytes
unfolding transcript_of layers_then_last layer_in stored_layer layer_start dimension
    sections_bytes section_bytes entries_bytes little_endian_bytes
written_k = refl

-- ---- what is read

carries : (last : ℕ) → Carries (one_round last)
unfolding little_endian count_at entry_at entries_at section_start dimension last_count
carries last =
    record {
      parameters_count = refl;
      parameters =
          record {
            k_least = two;
            k_most = twenty;
            rate_least = one;
            rate_most = six;
            step_least = one;
            step_most = three;
            k_enough = two;
          };
      coset_count = refl;
      challenges_count = refl;
      layer_counts = layers;
      last-count = refl;
      ends = refl;
    }
  where
    one : 1 ≤ 1
    one = omega arith

    two : 2 ≤ 2
    two = omega arith

    twenty : 2 ≤ 20
    twenty = omega arith

    six : 1 ≤ 6
    six = omega arith

    three : 1 ≤ 3
    three = omega arith

    layers : (i : ℕ) → i < 1 → section_count (one_round last) (layer_section i) ≡ 2 ^ dimension 2 (1 ∷ []) i
    layers zero h = refl
    layers (suc i) h = absurd (omega arith)

-- what the bytes carry
run_g : run_in (one_round 2) ≡ small 4 (7 ∷ 4 ∷ 1 ∷ 2 ∷ []) (0xb ∷ [])
unfolding little_endian count_at entry_at entries_at section_start joined_layers
run_g = refl

run_h : run_in (one_round 3) ≡ small 4 (7 ∷ 4 ∷ 1 ∷ 3 ∷ []) (0xb ∷ [])
unfolding little_endian count_at entry_at entries_at section_start joined_layers
run_h = refl

run_k : run_in two_rounds_bytes ≡ two_rounds (2 ∷ 4 ∷ 0x16 ∷ 0x10 ∷ []) (1 ∷ [])
unfolding little_endian count_at entry_at entries_at section_start joined_layers
run_k = refl

queries_both : (last : ℕ) → queries_in (one_round last) ≡ 0 ∷ 3 ∷ []
unfolding little_endian count_at entry_at entries_at section_start
queries_both last = refl

query_k : queries_in two_rounds_bytes ≡ 5 ∷ []
unfolding little_endian count_at entry_at entries_at section_start
query_k = refl

-- they are not over the limit
short_one : 136 ≤ input_limit
short_one = omega arith

short_two : 212 ≤ input_limit
short_two = omega arith

verdict_is : (last : ℕ) (run : Run) → run_in (one_round last) ≡ run
    → input_verdict (one_round last) ≡ verdict_of run (0 ∷ 3 ∷ [])
verdict_is last run e =
    judging_bytes.short (one_round last) short_one
    ∙ judging_bytes.carried (one_round last) (carries last) ∙ ap₂ verdict_of e (queries_both last)

-- ---- the sheets

sheet_is : (input : List ℕ) (run : Run) (queries : List ℕ) → transcript_outcome input ≡ Ok tt
    → length input ≤ input_limit → run_in input ≡ run → queries_in input ≡ queries
    → sheet_of input ≡ sheet_lines run queries 0
sheet_is input run queries done short e f =
    sheets.short input short ∙ sheet_passed input done
    ∙ ap₂ (λ (r : Run) (q : List ℕ). sheet_lines r q 0) e f

pub transcript_cases : TranscriptCases
transcript_cases =
    record {
      written_g = written_g;
      written_h = written_h;
      written_k = written_k;
      size = refl;
      g =
          subst (λ (v : Verdict). Tells v 0 None None 4)
          (sym (verdict_is 2 (small 4 (7 ∷ 4 ∷ 1 ∷ 2 ∷ []) (0xb ∷ [])) run_g)) table-a.g;
      h =
          subst (λ (v : Verdict). Tells v 11 (Some 1) (Some 0) 4)
          (sym (verdict_is 3 (small 4 (7 ∷ 4 ∷ 1 ∷ 3 ∷ []) (0xb ∷ [])) run_h)) table-a.h;
      sheet_g =
          sheet_is (one_round 2) (small 4 (7 ∷ 4 ∷ 1 ∷ 2 ∷ []) (0xb ∷ [])) (0 ∷ 3 ∷ []) (passed_one 2) short_one run_g
          (queries_both 2) ∙ g_lines;
      sheet_h =
          sheet_is (one_round 3) (small 4 (7 ∷ 4 ∷ 1 ∷ 3 ∷ []) (0xb ∷ [])) (0 ∷ 3 ∷ []) (passed_one 3) short_one run_h
          (queries_both 3) ∙ h_lines;
      sheet_k =
          sheet_is two_rounds_bytes (two_rounds (2 ∷ 4 ∷ 0x16 ∷ 0x10 ∷ []) (1 ∷ [])) (5 ∷ []) passed_two short_two run_k
          query_k ∙ k_lines;
    }
