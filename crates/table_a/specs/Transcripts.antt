-- Cases G, H and K as transcripts and their marking sheets, byte by byte.
use Rattle.std.specs.Prelude.{◌≡◌, List, [], ◌∷◌, ◌++◌, ℕ, length}
use Rattle.std.specs.Prelude.{Some, None}
use Rattle.fri.specs.Theorems.{Tells}
use Rattle.transcript.specs.Judge.{input_verdict}
use Rattle.line_text.specs.Digits.{bytes}
use Rattle.sheet_text.specs.Sheet.{sheet_of}
use Rattle.written.specs.Transcript.{transcript_of}
use Rattle.table_a.specs.TableA.{small, two_rounds}

-- a count below 256, in 4 bytes
abbrev pub count : (n : ℕ) → List ℕ
count n = n ∷ 0 ∷ 0 ∷ 0 ∷ []

-- an entry below 256, in 8 bytes
abbrev pub entry : (n : ℕ) → List ℕ
entry n = n ∷ 0 ∷ 0 ∷ 0 ∷ 0 ∷ 0 ∷ 0 ∷ 0 ∷ []

-- case G where entry 3 of the word is 2, case H where it is 3
abbrev pub one_round : (last : ℕ) → List ℕ
one_round last =
    (count 3 ++ entry 2 ++ entry 1 ++ entry 1) ++ (count 3 ++ entry 0 ++ entry 1 ++ entry 2) ++ (count 1 ++ entry 4)
    ++ (count 2 ++ entry 0 ++ entry 3)
    ++ (count 4 ++ entry 7 ++ entry 4 ++ entry 1 ++ entry last) ++ (count 1 ++ entry 0xb)

-- case K with query 5: two rounds, so that the store has a layer
abbrev pub two_rounds_bytes : List ℕ
two_rounds_bytes =
    (count 3 ++ entry 3 ++ entry 1 ++ entry 1) ++ (count 4 ++ entry 0 ++ entry 1 ++ entry 2 ++ entry 4)
    ++ (count 2 ++ entry 2 ++ entry 3) ++ (count 1 ++ entry 5)
    ++ (count 8 ++ entry 0 ++ entry 1 ++ entry 4 ++ entry 5 ++ entry 0x10 ++ entry 0x11 ++ entry 0x14 ++ entry 0x15)
    ++ (count 4 ++ entry 2 ++ entry 4 ++ entry 0x16 ++ entry 0x10) ++ (count 1 ++ entry 1)

-- they are what is written of Table A's runs; 136 bytes; G is accepted with 4 reads, H refused by 11 at query 1 in
-- round 0 with 4 reads
pub record TranscriptCases : Type 0 where
  pub written_g : transcript_of (small 4 (7 ∷ 4 ∷ 1 ∷ 2 ∷ []) (0xb ∷ [])) (0 ∷ 3 ∷ []) ≡ one_round 2
  pub written_h : transcript_of (small 4 (7 ∷ 4 ∷ 1 ∷ 3 ∷ []) (0xb ∷ [])) (0 ∷ 3 ∷ []) ≡ one_round 3
  pub written_k : transcript_of (two_rounds (2 ∷ 4 ∷ 0x16 ∷ 0x10 ∷ []) (1 ∷ [])) (5 ∷ []) ≡ two_rounds_bytes
  pub size : length (one_round 2) ≡ 136
  pub g : Tells (input_verdict (one_round 2)) 0 None None 4
  pub h : Tells (input_verdict (one_round 3)) 11 (Some 1) (Some 0) 4
  -- the sheets: in case H query 1 computes d where the last polynomial has b
  pub sheet_g : sheet_of (one_round 2)
      ≡ bytes "    0        0   0 000000000000000b 000000000000000b ok\n"
      ++ bytes "    1        3   0 000000000000000b 000000000000000b ok\n"
  pub sheet_h : sheet_of (one_round 3)
      ≡ bytes "    0        0   0 000000000000000b 000000000000000b ok\n"
      ++ bytes "    1        3   0 000000000000000d 000000000000000b no\n"
  pub sheet_k : sheet_of two_rounds_bytes
      ≡ bytes "    0        5   0 0000000000000016 0000000000000016 ok\n"
      ++ bytes "    0        5   1 0000000000000001 0000000000000001 ok\n"
