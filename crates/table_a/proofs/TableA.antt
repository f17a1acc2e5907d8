-- Table A. A row of the prover goes in parts: the checks are computed, layer r's interpolant follows from the cases of
-- the fold, and what the answer makes of it is computed. A row of the judge is computed from the values of its round
-- checks. No inverse is computed. Assumes nothing.
use mathlib.Core.Path.{◌≡◌, refl, ap, ap₂, ◌∙◌}
use mathlib.Core.List.{List, [], ◌∷◌}
use Prim.Native.Nat.{ℕ, ◌-◌}
use native.Mathlib.Omega.{arith}
use lib.Dec.{leb}
use lib.ListN.{take}
use Rattle.gf64.specs.Field.{product}
use Rattle.gf64.specs.Polynomial.{carryless, carryless_in, remainder, remainder_in, times_t}
use Rattle.gf64.proofs.Cases.{field_cases}
use Rattle.poly.specs.Polynomial.{evaluate, plus, scale, times_linear, vanishing_polynomial}
use Rattle.poly.specs.Degree.{degree_bound}
use Rattle.refusal.specs.declared.Cause.TheVariants.{DegreeTooLarge}
use Rattle.std.specs.Prelude.{Ok}
use Rattle.refusal.specs.Outcome.{Outcome}
use Rattle.refusal.specs.Checks.{refused_unless, and_then, afterwards}
use Rattle.refusal.specs.Numbers.{number_of_outcome, place_of_outcome}
use Rattle.coset.specs.Coset.{point, points, tabulated}
use Rattle.coset.specs.Span.{in_span, first_dependent_after, first_dependent}
use Rattle.coset.specs.Subspace.{next_offset, next_basis, image, subspace_polynomial}
use Rattle.reed_solomon.specs.Codes.{interpolated}
use Rattle.reed_solomon.proofs.Cases.{code_cases}
use Rattle.fold.specs.Fold.{folded}
use Rattle.fold.proofs.Cases.{fold_cases, d_offset, d_basis}
use Rattle.fri.specs.Layout.{dimension, last_count, layer_start, store_length, stored_layer, joined_layers, index_in}
use Rattle.fri.specs.Run.{Run, steps_in, layer_in}
use Rattle.fri.specs.Layers.{layer_basis, layer_offset, fold_of, honest_layer, honest_store, last_interpolant, honest_last}
use Rattle.fri.specs.Checks.{run_outcome, first_outside, among, first_repeated_after, first_shared}
use Rattle.fri.specs.Rounds.{value_found, first_failing_round, rounds_outcome}
use Rattle.fri.specs.Reads.{entry_count, entries_read}
use Rattle.fri.specs.Prover.{prove_outcome, store_after, last_after}
use Rattle.table_a.specs.TableA.{small, two_rounds, TableA}
use Rattle.table_a.proofs.Values.{f_value, h_value, first_value, k_first, k_second, l_second}

-- ---- the prover's answer, by layer r's interpolant

module _ (run : Run) (p : List ℕ) (checked : run_outcome run ≡ Ok tt) (last : last_interpolant run ≡ p) where
  abbrev d : ℕ
  d = last_count run.k run.rate (steps_in run)

  abbrev by_degree : Outcome
  by_degree = refused_unless (leb (degree_bound p) d) (DegreeTooLarge (degree_bound p - 1)) (Ok tt)

  answer_by : prove_outcome run ≡ by_degree
  answer_by =
      ap (λ (o : Outcome). and_then o (refused_unless (leb (degree_bound (last_interpolant run)) d)
      (DegreeTooLarge (degree_bound (last_interpolant run) - 1)) (Ok tt))) checked
      ∙ ap (λ (q : List ℕ). refused_unless (leb (degree_bound q) d) (DegreeTooLarge (degree_bound q - 1)) (Ok tt)) last

  last_by : last_after run ≡ afterwards by_degree (take d p) run.last
  unfolding honest_last
  last_by =
      ap (λ (o : Outcome). afterwards o (honest_last run) run.last) answer_by
      ∙ ap (λ (q : List ℕ). afterwards by_degree (take d q) run.last) last

store_by : (run : Run) (store : List ℕ) → run_outcome run ≡ Ok tt → honest_store run ≡ store → store_after run ≡ store
store_by run store checked e = ap (λ (o : Outcome). afterwards o (honest_store run) run.store) checked ∙ e

-- ---- cases F, J and K: the checks and layer r's interpolant

small_checked : (challenge a b c d last : ℕ) → run_outcome (small challenge (a ∷ b ∷ c ∷ d ∷ []) (last ∷ [])) ≡ Ok tt
unfolding in_span first_dependent_after first_dependent dimension last_count layer_start store_length
small_checked challenge a b c d last = refl

k_checked : run_outcome (two_rounds (0 ∷ 0 ∷ 0 ∷ 0 ∷ []) (0 ∷ [])) ≡ Ok tt
unfolding in_span first_dependent_after first_dependent dimension last_count layer_start store_length
k_checked = refl

small-interpolant : (challenge : ℕ) (word last values coefficients : List ℕ)
    → folded 1 0 (1 ∷ 2 ∷ []) word challenge ≡ values
    → interpolated (next_offset 1 0 (1 ∷ 2 ∷ [])) (next_basis 1 (1 ∷ 2 ∷ [])) values ≡ coefficients
    → last_interpolant (small challenge word last) ≡ coefficients
unfolding layer_basis layer_offset fold_of honest_layer last_interpolant
small-interpolant challenge word last values coefficients fold back =
    ap (interpolated (next_offset 1 0 (1 ∷ 2 ∷ [])) (next_basis 1 (1 ∷ 2 ∷ []))) fold ∙ back

f_interpolant : last_interpolant (small 4 (7 ∷ 4 ∷ 1 ∷ 2 ∷ []) (0 ∷ [])) ≡ 0xb ∷ 0 ∷ []
f_interpolant =
    small-interpolant 4 (7 ∷ 4 ∷ 1 ∷ 2 ∷ []) (0 ∷ []) (0xb ∷ 0xb ∷ []) (0xb ∷ 0 ∷ []) fold_cases.f
    fold_cases.f_coefficient

j_at_4_interpolant : last_interpolant (small 4 (0 ∷ 0 ∷ 0 ∷ 1 ∷ []) (7 ∷ [])) ≡ 0 ∷ 1 ∷ []
j_at_4_interpolant =
    small-interpolant 4 (0 ∷ 0 ∷ 0 ∷ 1 ∷ []) (7 ∷ []) (0 ∷ 6 ∷ []) (0 ∷ 1 ∷ []) fold_cases.j_at_4
    fold_cases.j_degree_1

j_at_2_interpolant : last_interpolant (small 2 (0 ∷ 0 ∷ 0 ∷ 1 ∷ []) (7 ∷ [])) ≡ 0 ∷ 0 ∷ []
j_at_2_interpolant =
    small-interpolant 2 (0 ∷ 0 ∷ 0 ∷ 1 ∷ []) (7 ∷ []) (0 ∷ 0 ∷ []) (0 ∷ 0 ∷ []) fold_cases.j_at_2
    fold_cases.j_coefficient

-- layer 2's interpolant, by layer 1 and its coset
abbrev layer_two : (offset : ℕ) (basis layer : List ℕ) → List ℕ
layer_two offset basis layer =
    interpolated (next_offset 1 offset basis) (next_basis 1 basis) (folded 1 offset basis layer 3)

k_interpolant : last_interpolant (two_rounds (0 ∷ 0 ∷ 0 ∷ 0 ∷ []) (0 ∷ [])) ≡ 1 ∷ 0 ∷ []
unfolding layer_basis layer_offset fold_of honest_layer last_interpolant
k_interpolant =
    ap (λ (word : List ℕ). layer_two (next_offset 1 0 (1 ∷ 2 ∷ 4 ∷ [])) (next_basis 1 (1 ∷ 2 ∷ 4 ∷ [])) word)
    fold_cases.k_layer
    ∙ ap₂ (λ (o : ℕ) (b : List ℕ). layer_two o b (2 ∷ 4 ∷ 0x16 ∷ 0x10 ∷ [])) fold_cases.k_offset fold_cases.k_basis
    ∙ ap (interpolated (next_offset 1 0 (6 ∷ 0x14 ∷ [])) (next_basis 1 (6 ∷ 0x14 ∷ []))) fold_cases.k_last
    ∙ fold_cases.k_coefficient

j_store : honest_store (small 4 (0 ∷ 0 ∷ 0 ∷ 1 ∷ []) (7 ∷ [])) ≡ []
unfolding joined_layers honest_store
j_store = refl

k_store : honest_store (two_rounds (0 ∷ 0 ∷ 0 ∷ 0 ∷ []) (0 ∷ [])) ≡ 2 ∷ 4 ∷ 0x16 ∷ 0x10 ∷ []
unfolding layer_basis layer_offset fold_of honest_layer joined_layers honest_store
k_store = fold_cases.k_layer

-- ---- the table; the judge's rows from the values of their round checks

pub table-a : TableA
unfolding product carryless carryless_in remainder remainder_in times_t evaluate plus scale times_linear vanishing_polynomial
    point points tabulated in_span first_dependent_after first_dependent next_offset next_basis image subspace_polynomial
    dimension last_count layer_start store_length stored_layer index_in layer_in layer_basis layer_offset
    first_outside among first_repeated_after first_shared value_found first_failing_round rounds_outcome entry_count entries_read
    degree_bound
table-a =
    record {
      a = field_cases.a;
      b = field_cases.b;
      c = field_cases.c;
      d_offset = d_offset;
      d_basis = d_basis;
      e = code_cases.e;
      e_back = code_cases.e_back;
      f = answer_by (small 4 (7 ∷ 4 ∷ 1 ∷ 2 ∷ []) (0 ∷ [])) (0xb ∷ 0 ∷ []) (small_checked 4 7 4 1 2 0) f_interpolant;
      f_last = last_by (small 4 (7 ∷ 4 ∷ 1 ∷ 2 ∷ []) (0 ∷ [])) (0xb ∷ 0 ∷ []) (small_checked 4 7 4 1 2 0) f_interpolant;
      g =
          let first = f_value (0xb ∷ []) 0 0 (omega arith) refl in
          let second = f_value (0xb ∷ []) 3 1 (omega arith) refl in
          (simp (first, second), simp (first, second), simp (first, second), simp (first, second));
      h =
          let first = h_value (0xb ∷ []) 0 0 (omega arith) refl in
          let second = h_value (0xb ∷ []) 3 1 (omega arith) refl in
          (simp (first, second), simp (first, second), simp (first, second), simp (first, second));
      i =
          let first = h_value (0xb ∷ []) 0 0 (omega arith) refl in
          (simp first, simp first, simp first, simp first);
      j_number =
          ap number_of_outcome (answer_by (small 4 (0 ∷ 0 ∷ 0 ∷ 1 ∷ []) (7 ∷ [])) (0 ∷ 1 ∷ [])
          (small_checked 4 0 0 0 1 7) j_at_4_interpolant);
      j_degree =
          ap place_of_outcome (answer_by (small 4 (0 ∷ 0 ∷ 0 ∷ 1 ∷ []) (7 ∷ [])) (0 ∷ 1 ∷ [])
          (small_checked 4 0 0 0 1 7) j_at_4_interpolant);
      j_store = store_by (small 4 (0 ∷ 0 ∷ 0 ∷ 1 ∷ []) (7 ∷ [])) [] (small_checked 4 0 0 0 1 7) j_store;
      j_left =
          last_by (small 4 (0 ∷ 0 ∷ 0 ∷ 1 ∷ []) (7 ∷ [])) (0 ∷ 1 ∷ []) (small_checked 4 0 0 0 1 7) j_at_4_interpolant;
      j_at_2 =
          answer_by (small 2 (0 ∷ 0 ∷ 0 ∷ 1 ∷ []) (7 ∷ [])) (0 ∷ 0 ∷ []) (small_checked 2 0 0 0 1 7) j_at_2_interpolant;
      j_last =
          last_by (small 2 (0 ∷ 0 ∷ 0 ∷ 1 ∷ []) (7 ∷ [])) (0 ∷ 0 ∷ []) (small_checked 2 0 0 0 1 7) j_at_2_interpolant;
      j_set = fold_cases.j;
      k = answer_by (two_rounds (0 ∷ 0 ∷ 0 ∷ 0 ∷ []) (0 ∷ [])) (1 ∷ 0 ∷ []) k_checked k_interpolant;
      k_layer = store_by (two_rounds (0 ∷ 0 ∷ 0 ∷ 0 ∷ []) (0 ∷ [])) (2 ∷ 4 ∷ 0x16 ∷ 0x10 ∷ []) k_checked k_store;
      k_last = last_by (two_rounds (0 ∷ 0 ∷ 0 ∷ 0 ∷ []) (0 ∷ [])) (1 ∷ 0 ∷ []) k_checked k_interpolant;
      k_query =
          (simp (k_first, k_second), simp (k_first, k_second), simp (k_first, k_second), simp (k_first, k_second));
      l =
          let first = first_value (3 ∷ 4 ∷ 0x16 ∷ 0x10 ∷ []) (1 ∷ []) 0 0 (omega arith) refl in
          (simp first, simp first, simp first, simp first);
      l_query =
          let first = first_value (3 ∷ 4 ∷ 0x16 ∷ 0x10 ∷ []) (1 ∷ []) 7 3 (omega arith) refl in
          (simp (first, l_second), simp (first, l_second), simp (first, l_second), simp (first, l_second));
    }
