-- Table A of document 01: its starred cases, A to L, as one table. proofs/TableA.antt shows every row true of the
-- definitions, by computation and by the laws of the fold.
use Rattle.std.specs.Prelude.{◌≡◌, ◌↔◌, List, [], ◌∷◌, ℕ}
use Rattle.std.specs.Prelude.{Some, None, Ok}
use Rattle.refusal.specs.Numbers.{number_of_outcome, place_of_outcome}
use Rattle.gf64.specs.Field.{product, inverse}
use Rattle.coset.specs.Subspace.{next_offset, next_basis}
use Rattle.reed_solomon.specs.Codes.{encoded, interpolated}
use Rattle.fold.specs.Exceptional.{Exceptional}
use Rattle.fri.specs.Run.{Run}
use Rattle.fri.specs.Judge.{verdict_of}
use Rattle.fri.specs.Prover.{prove_outcome, store_after, last_after}
use Rattle.fri.specs.Theorems.{Tells}

-- k 2, R 1, η 1, offset 0, basis 1, 2
abbrev pub small : (challenge : ℕ) (word last : List ℕ) → Run
small challenge word last =
    record {
      k = 2;
      rate = 1;
      step = 1;
      offset = 0;
      basis = 1 ∷ 2 ∷ [];
      challenges = challenge ∷ [];
      word = word;
      store = [];
      last = last;
    }

-- case K's parameters, basis, word and challenges
abbrev pub two_rounds : (store last : List ℕ) → Run
two_rounds store last =
    record {
      k = 3;
      rate = 1;
      step = 1;
      offset = 0;
      basis = 1 ∷ 2 ∷ 4 ∷ [];
      challenges = 2 ∷ 3 ∷ [];
      word = 0 ∷ 1 ∷ 4 ∷ 5 ∷ 0x10 ∷ 0x11 ∷ 0x14 ∷ 0x15 ∷ [];
      store = store;
      last = last;
    }

-- the table, its values hexadecimal as there
pub record TableA : Type 0 where
  pub a : product 0x8000000000000000 2 ≡ 0x1b
  pub b : product 3 7 ≡ 9
  pub c : inverse 2 ≡ 0x800000000000000d
  -- D: next offset 48, basis 6
  pub d_offset : next_offset 1 0x8 (1 ∷ 2 ∷ []) ≡ 0x48
  pub d_basis : next_basis 1 (1 ∷ 2 ∷ []) ≡ 6 ∷ []
  -- E: coefficients 7, 3 and back
  pub e : encoded 0 (1 ∷ 2 ∷ []) (7 ∷ 3 ∷ []) ≡ 7 ∷ 4 ∷ 1 ∷ 2 ∷ []
  pub e_back : interpolated 0 (1 ∷ 2 ∷ []) (7 ∷ 4 ∷ 1 ∷ 2 ∷ []) ≡ 7 ∷ 3 ∷ 0 ∷ 0 ∷ []
  -- F: the prover leaves coefficient b
  pub f : prove_outcome (small 4 (7 ∷ 4 ∷ 1 ∷ 2 ∷ []) (0 ∷ [])) ≡ Ok tt
  pub f_last : last_after (small 4 (7 ∷ 4 ∷ 1 ∷ 2 ∷ []) (0 ∷ [])) ≡ 0xb ∷ []
  -- G: accepted, 4 reads
  pub g : Tells (verdict_of (small 4 (7 ∷ 4 ∷ 1 ∷ 2 ∷ []) (0xb ∷ [])) (0 ∷ 3 ∷ [])) 0 None None 4
  -- H: entry 3 made 3: refused 11, query 1, round 0, 4 reads
  pub h : Tells (verdict_of (small 4 (7 ∷ 4 ∷ 1 ∷ 3 ∷ []) (0xb ∷ [])) (0 ∷ 3 ∷ [])) 11 (Some 1) (Some 0) 4
  -- I: only query 0: accepted, 2 reads
  pub i : Tells (verdict_of (small 4 (7 ∷ 4 ∷ 1 ∷ 3 ∷ []) (0xb ∷ [])) (0 ∷ [])) 0 None None 2
  -- J: challenge 4 gives 12, degree 1, and leaves the coefficient list; challenge 2 gives coefficient 0;
  -- the exceptional set is 2 alone
  pub j_number : number_of_outcome (prove_outcome (small 4 (0 ∷ 0 ∷ 0 ∷ 1 ∷ []) (7 ∷ []))) ≡ 12
  pub j_degree : place_of_outcome (prove_outcome (small 4 (0 ∷ 0 ∷ 0 ∷ 1 ∷ []) (7 ∷ []))) ≡ Some 1
  pub j_store : store_after (small 4 (0 ∷ 0 ∷ 0 ∷ 1 ∷ []) (7 ∷ [])) ≡ []
  pub j_left : last_after (small 4 (0 ∷ 0 ∷ 0 ∷ 1 ∷ []) (7 ∷ [])) ≡ 7 ∷ []
  pub j_at_2 : prove_outcome (small 2 (0 ∷ 0 ∷ 0 ∷ 1 ∷ []) (7 ∷ [])) ≡ Ok tt
  pub j_last : last_after (small 2 (0 ∷ 0 ∷ 0 ∷ 1 ∷ []) (7 ∷ [])) ≡ 0 ∷ []
  pub j_set : (x : ℕ) → Exceptional 1 1 0 (1 ∷ 2 ∷ []) (0 ∷ 0 ∷ 0 ∷ 1 ∷ []) x ↔ (x ≡ 2)
  -- K: layer 1, the coefficient, and query 5 with 4 reads
  pub k : prove_outcome (two_rounds (0 ∷ 0 ∷ 0 ∷ 0 ∷ []) (0 ∷ [])) ≡ Ok tt
  pub k_layer : store_after (two_rounds (0 ∷ 0 ∷ 0 ∷ 0 ∷ []) (0 ∷ [])) ≡ 2 ∷ 4 ∷ 0x16 ∷ 0x10 ∷ []
  pub k_last : last_after (two_rounds (0 ∷ 0 ∷ 0 ∷ 0 ∷ []) (0 ∷ [])) ≡ 1 ∷ []
  pub k_query : Tells (verdict_of (two_rounds (2 ∷ 4 ∷ 0x16 ∷ 0x10 ∷ []) (1 ∷ [])) (5 ∷ [])) 0 None None 4
  -- L: layer 1's entry 0 made 3: query 0 gives 11, round 0, 4 reads; query 7 is accepted
  pub l : Tells (verdict_of (two_rounds (3 ∷ 4 ∷ 0x16 ∷ 0x10 ∷ []) (1 ∷ [])) (0 ∷ [])) 11 (Some 0) (Some 0) 4
  pub l_query : Tells (verdict_of (two_rounds (3 ∷ 4 ∷ 0x16 ∷ 0x10 ∷ []) (1 ∷ [])) (7 ∷ [])) 0 None None 4
