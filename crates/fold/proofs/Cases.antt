-- Cases D, F, J and K of Table A, as far as they speak of one fold: by the line through two points,
-- whose inverse is that of 1. The exceptional set of case J has 2, and no second element by its bound. Assumes nothing.
use mathlib.Core.Path.{◌≡◌, refl, sym, ap, ap₂, ◌∙◌, subst}
use mathlib.Core.Bool.{Bool, true, false, cond}
use mathlib.Core.List.{List, [], ◌∷◌, map}
use Prim.Native.Nat.{ℕ, ◌-◌, ◌^◌, ◌≤◌}
use native.Mathlib.Omega.{arith}
use lib.Dec.{T, eqb, eqb→eq}
use lib.ListN.{length, get_or}
use borrow.Author.Tests.{eq-eqb}
use Rattle.gf64.specs.Field.{IsElement, sum, product, inverse}
use Rattle.gf64.specs.Polynomial.{carryless, carryless_in, remainder, remainder_in, times_t}
use Rattle.gf64.proofs.Inverse.{inverse_unique, inverse_right}
use Rattle.gf64.proofs.Ring.{product_one_r}
use lib.Bits.{bit_xor}
use native.Mathlib.Nat.{le_of_eq}
use Rattle.std.specs.Prelude.{Ok}
use Rattle.poly.specs.Carrier.{gf64}
use Rattle.poly.specs.Polynomial.{All, Distinct, Zeros, evaluate, plus, scale, times_linear, vanishing_polynomial}
use Rattle.poly.proofs.AtField.{gf64_laws}
use Rattle.poly.proofs.Evaluation.{evaluate_zeros, padded_full}
use Rattle.poly.proofs.Interpolation.{interpolant-elements}
use Rattle.poly.proofs.Roots.{root_bound_degree}
use Rattle.coset.specs.Coset.{point, points, tabulated}
use Rattle.coset.specs.Span.{in_span, first_dependent_after, first_dependent, Independent}
use Rattle.coset.specs.Subspace.{next_offset, next_basis, image, subspace_polynomial}
use Rattle.coset.proofs.Points.{points-elements}
use Rattle.coset.proofs.Subspace.{next_offset-element, next_basis-elements, next_independent}
use lib.Pow.{pow_pos}
use Rattle.reed_solomon.specs.Codes.{encoded, interpolated, WordDegreeBelow}
use Rattle.reed_solomon.proofs.Theorems.{round_trips, encoding}
use Rattle.reed_solomon.proofs.Cases.{code_cases}
use Rattle.fold.specs.Fold.{folded}
use Rattle.fold.specs.Answers.{fold_outcome, fold_answer, next_basis_after}
use Rattle.fold.proofs.Outcomes.{accepted}
use Rattle.fold.specs.Halving.{line_at, halved_entries}
use Rattle.fold.specs.Exceptional.{Exceptional}
use Rattle.fold.specs.Theorems.{IsWord, FoldCases}
use Rattle.fold.proofs.Exceptional.{exceptional_bound}
use Rattle.fold.proofs.Lines.{halved-entries}

-- ---- case D

pub d_offset : next_offset 1 0x8 (1 ∷ 2 ∷ []) ≡ 0x48
unfolding next_offset image subspace_polynomial points tabulated point vanishing_polynomial times_linear plus scale evaluate
    product carryless carryless_in remainder remainder_in times_t
d_offset = refl

pub d_basis : next_basis 1 (1 ∷ 2 ∷ []) ≡ 6 ∷ []
unfolding next_basis image subspace_polynomial points tabulated point vanishing_polynomial times_linear plus scale evaluate
    product carryless carryless_in remainder remainder_in times_t
d_basis = refl

-- ---- folds over a basis whose first element is 1

inverse_of_one : 1 ≡ inverse 1
unfolding product carryless carryless_in remainder remainder_in times_t
inverse_of_one = inverse_unique 1 1 (omega arith) (omega arith) refl

by_lines : (offset : ℕ) (basis word : List ℕ) (x : ℕ) → length word ≡ 2 ^ length (1 ∷ basis)
    → folded 1 offset (1 ∷ basis) word x ≡ halved_entries 1 (2 ^ length basis) (points (sum offset x) (1 ∷ basis)) word
by_lines offset basis word x fits =
    sym (halved-entries offset 1 basis word fits x)
    ∙ ap (λ (i : ℕ). halved_entries i (2 ^ length basis) (points (sum offset x) (1 ∷ basis)) word) (sym inverse_of_one)

d_values : folded 1 0x8 (1 ∷ 2 ∷ []) (7 ∷ 4 ∷ 1 ∷ 2 ∷ []) 4 ≡ 0x13 ∷ 0x13 ∷ []
unfolding halved_entries line_at points tabulated point product carryless carryless_in remainder remainder_in times_t
d_values = by_lines 0x8 (2 ∷ []) (7 ∷ 4 ∷ 1 ∷ 2 ∷ []) 4 refl

f : folded 1 0 (1 ∷ 2 ∷ []) (7 ∷ 4 ∷ 1 ∷ 2 ∷ []) 4 ≡ 0xb ∷ 0xb ∷ []
unfolding halved_entries line_at points tabulated point product carryless carryless_in remainder remainder_in times_t
f = by_lines 0 (2 ∷ []) (7 ∷ 4 ∷ 1 ∷ 2 ∷ []) 4 refl

j_at_4 : folded 1 0 (1 ∷ 2 ∷ []) (0 ∷ 0 ∷ 0 ∷ 1 ∷ []) 4 ≡ 0 ∷ 6 ∷ []
unfolding halved_entries line_at points tabulated point product carryless carryless_in remainder remainder_in times_t
j_at_4 = by_lines 0 (2 ∷ []) (0 ∷ 0 ∷ 0 ∷ 1 ∷ []) 4 refl

j_at_2 : folded 1 0 (1 ∷ 2 ∷ []) (0 ∷ 0 ∷ 0 ∷ 1 ∷ []) 2 ≡ 0 ∷ 0 ∷ []
unfolding halved_entries line_at points tabulated point product carryless carryless_in remainder remainder_in times_t
j_at_2 = by_lines 0 (2 ∷ []) (0 ∷ 0 ∷ 0 ∷ 1 ∷ []) 2 refl

k : folded 1 0 (1 ∷ 2 ∷ 4 ∷ []) (0 ∷ 1 ∷ 4 ∷ 5 ∷ 0x10 ∷ 0x11 ∷ 0x14 ∷ 0x15 ∷ []) 2 ≡ 2 ∷ 4 ∷ 0x16 ∷ 0x10 ∷ []
unfolding halved_entries line_at points tabulated point product carryless carryless_in remainder remainder_in times_t
k = by_lines 0 (2 ∷ 4 ∷ []) (0 ∷ 1 ∷ 4 ∷ 5 ∷ 0x10 ∷ 0x11 ∷ 0x14 ∷ 0x15 ∷ []) 2 refl

-- ---- case J: the exceptional set

abbrev basis : List ℕ
basis = 1 ∷ 2 ∷ []

abbrev word : List ℕ
word = 0 ∷ 0 ∷ 0 ∷ 1 ∷ []

independent : Independent basis
unfolding in_span first_dependent_after first_dependent
independent = refl

is_word : IsWord 0 basis word
is_word =
    record {
      offset_element = omega arith;
      basis_elements = (omega arith, (omega arith, record {}));
      word_elements = (omega arith, (omega arith, (omega arith, (omega arith, record {}))));
      independent = independent;
      count = refl;
    }

P : List ℕ
P = interpolated 0 basis word

P-elements : All IsElement P
unfolding P interpolated
P-elements =
    interpolant-elements gf64 IsElement gf64_laws (points 0 basis) word
    (points-elements 0 basis (omega arith) is_word.basis_elements) is_word.word_elements

values : map (evaluate gf64 P) (points 0 basis) ≡ word
unfolding P encoded
values =
    round_trips.word 0 basis word (omega arith) is_word.basis_elements is_word.word_elements independent refl

-- the word is zero at 0 and 1 and not at 3, so that its degree is not below 2
not_low : WordDegreeBelow 2 0 basis word → ⊥
unfolding P points tabulated point
not_low z =
    let zeros : Zeros gf64 P =
    root_bound_degree gf64 IsElement gf64_laws 2 P (0 ∷ 1 ∷ []) P-elements (omega arith, (omega arith, record {}))
    (((λ (e : ◌≡◌ {A = ℕ} 1 0). omega arith), record {}), (record {}, record {}))
    (ap (λ (l : List ℕ). get_or l 0 0) values, (ap (λ (l : List ℕ). get_or l 1 0) values, record {})) z (omega arith)
    in
    let impossible : ◌≡◌ {A = ℕ} 0 1 = sym (evaluate_zeros gf64 IsElement gf64_laws P 3 zeros)
    ∙ ap (λ (l : List ℕ). get_or l 3 0) values in
    omega arith

zero_fold : folded 1 0 basis word 2 ≡ encoded (next_offset 1 0 basis) (next_basis 1 basis) (0 ∷ [])
unfolding encoded next_offset next_basis image subspace_polynomial points tabulated point vanishing_polynomial times_linear
    plus scale evaluate product carryless carryless_in remainder remainder_in times_t
zero_fold = j_at_2

two_is_in : Exceptional 1 1 0 basis word 2
two_is_in = (
  omega arith,
  not_low,
  subst (WordDegreeBelow 1 (next_offset 1 0 basis) (next_basis 1 basis)) (sym zero_fold)
      (encoding.degree (next_offset 1 0 basis) (next_basis 1 basis) (0 ∷ []) (next_offset-element 1 0 basis (omega arith))
      (next_basis-elements 1 basis is_word.basis_elements) (omega arith, record {})
      (next_independent 1 basis is_word.basis_elements independent)
      (omega (arith, pow_pos (length (next_basis 1 basis))))),
)

-- a second element would be one too many
no_other : (x : ℕ) (same : Bool) → eqb x 2 ≡ same → Exceptional 1 1 0 basis word x → x ≡ 2
no_other x true e h = eqb→eq x 2 (subst T (sym e) tt)
no_other x false e h =
    absurd (two_too_many
    (exceptional_bound 1 1 0 basis word is_word (omega arith) (x ∷ 2 ∷ []) (h, (two_is_in, record {})) distinct))
  where
    two_too_many : 2 ≤ 2 ^ 1 - 1 → ⊥
    two_too_many l = omega arith

    differs : 2 ≡ x → ⊥
    differs s =
        let impossible : ◌≡◌ {A = ℕ} 0 1 = ap (λ (t : Bool). cond t 0 1) (sym (eq-eqb x 2 (sym s)) ∙ e) in omega arith

    distinct : Distinct (x ∷ 2 ∷ [])
    distinct = ((differs, record {}), (record {}, record {}))

-- ---- coefficients, by the round trip: the word of given coefficients over a coset of two points has
-- them for its interpolant

two_back : (offset b : ℕ) (coefficients : List ℕ) → IsElement offset → IsElement b → Independent (b ∷ [])
    → All IsElement coefficients
    → length coefficients ≡ 2 → interpolated offset (b ∷ []) (encoded offset (b ∷ []) coefficients) ≡ coefficients
two_back offset b coefficients ho hb d hc l =
    round_trips.coefficients offset (b ∷ []) coefficients ho (hb, record {}) hc d (le_of_eq l)
    ∙ padded_full gf64 2 coefficients l

independent_6 : Independent (6 ∷ [])
unfolding in_span first_dependent_after first_dependent
independent_6 = refl

f_word : encoded 0 (6 ∷ []) (0xb ∷ 0 ∷ []) ≡ 0xb ∷ 0xb ∷ []
unfolding encoded points tabulated point evaluate product carryless carryless_in remainder remainder_in times_t
f_word = refl

j_word : encoded 0 (6 ∷ []) (0 ∷ 1 ∷ []) ≡ 0 ∷ 6 ∷ []
unfolding encoded points tabulated point evaluate product carryless carryless_in remainder remainder_in times_t
j_word = refl

j_zero_word : encoded 0 (6 ∷ []) (0 ∷ 0 ∷ []) ≡ 0 ∷ 0 ∷ []
unfolding encoded points tabulated point evaluate product carryless carryless_in remainder remainder_in times_t
j_zero_word = refl

zero_offset : next_offset 1 0 (1 ∷ 2 ∷ []) ≡ 0
unfolding next_offset image subspace_polynomial points tabulated point vanishing_polynomial times_linear plus scale evaluate
    product carryless carryless_in remainder remainder_in times_t
zero_offset = refl

back_over_6 : (coefficients values : List ℕ) → All IsElement coefficients → length coefficients ≡ 2
    → encoded 0 (6 ∷ []) coefficients ≡ values
    → interpolated (next_offset 1 0 (1 ∷ 2 ∷ [])) (next_basis 1 (1 ∷ 2 ∷ [])) values ≡ coefficients
back_over_6 coefficients values hc l e =
    ap₂ (λ (o : ℕ) (b : List ℕ). interpolated o b values) zero_offset d_basis
    ∙ ap (interpolated 0 (6 ∷ [])) (sym e) ∙ two_back 0 6 coefficients (omega arith) (omega arith) independent_6 hc l

-- ---- case K: the second fold, over the next coset

k_offset : next_offset 1 0 (1 ∷ 2 ∷ 4 ∷ []) ≡ 0
unfolding next_offset image subspace_polynomial points tabulated point vanishing_polynomial times_linear plus scale evaluate
    product carryless carryless_in remainder remainder_in times_t
k_offset = refl

k_basis : next_basis 1 (1 ∷ 2 ∷ 4 ∷ []) ≡ 6 ∷ 0x14 ∷ []
unfolding next_basis image subspace_polynomial points tabulated point vanishing_polynomial times_linear plus scale evaluate
    product carryless carryless_in remainder remainder_in times_t
k_basis = refl

-- the differences of both pairs are 6, which the inverse of 6 takes to 1
k_lines : (i : ℕ) → product 6 i ≡ 1
    → halved_entries i 2 (points 3 (6 ∷ 0x14 ∷ [])) (2 ∷ 4 ∷ 0x16 ∷ 0x10 ∷ []) ≡ 1 ∷ 1 ∷ []
unfolding halved_entries line_at points tabulated point
k_lines i e =
    ap (λ (s : ℕ). bit_xor 2 (product 3 s) ∷ bit_xor 0x16 (product 0x17 s) ∷ []) e ∙ computed
  where
    computed : ◌≡◌ {A = List ℕ} (bit_xor 2 (product 3 1) ∷ bit_xor 0x16 (product 0x17 1) ∷ []) (1 ∷ 1 ∷ [])
    computed =
        ap₂ (λ (s t : ℕ). bit_xor 2 s ∷ bit_xor 0x16 t ∷ []) (product_one_r 3 (omega arith))
        (product_one_r 0x17 (omega arith))

k_last : folded 1 0 (6 ∷ 0x14 ∷ []) (2 ∷ 4 ∷ 0x16 ∷ 0x10 ∷ []) 3 ≡ 1 ∷ 1 ∷ []
k_last =
    sym (halved-entries 0 6 (0x14 ∷ []) (2 ∷ 4 ∷ 0x16 ∷ 0x10 ∷ []) refl 3)
    ∙ k_lines (inverse 6) (inverse_right 6 (omega arith) (λ (e : ◌≡◌ {A = ℕ} 6 0). omega arith))

k_next_offset : next_offset 1 0 (6 ∷ 0x14 ∷ []) ≡ 0
unfolding next_offset image subspace_polynomial points tabulated point vanishing_polynomial times_linear plus scale evaluate
    product carryless carryless_in remainder remainder_in times_t
k_next_offset = refl

k_next_basis : next_basis 1 (6 ∷ 0x14 ∷ []) ≡ 0x168 ∷ []
unfolding next_basis image subspace_polynomial points tabulated point vanishing_polynomial times_linear plus scale evaluate
    product carryless carryless_in remainder remainder_in times_t
k_next_basis = refl

independent_k : Independent (0x168 ∷ [])
unfolding in_span first_dependent_after first_dependent
independent_k = refl

k_word : encoded 0 (0x168 ∷ []) (1 ∷ 0 ∷ []) ≡ 1 ∷ 1 ∷ []
unfolding encoded points tabulated point evaluate product carryless carryless_in remainder remainder_in times_t
k_word = refl

k_coefficient : interpolated (next_offset 1 0 (6 ∷ 0x14 ∷ [])) (next_basis 1 (6 ∷ 0x14 ∷ [])) (1 ∷ 1 ∷ []) ≡ 1 ∷ 0 ∷ []
k_coefficient =
    ap₂ (λ (o : ℕ) (l : List ℕ). interpolated o l (1 ∷ 1 ∷ [])) k_next_offset k_next_basis
    ∙ ap (interpolated 0 (0x168 ∷ [])) (sym k_word)
    ∙ two_back 0 0x168 (1 ∷ 0 ∷ []) (omega arith) (omega arith) independent_k
    (omega arith, (omega arith, record {})) refl

-- ---- case D as a call

d_done : fold_outcome 2 1 (1 ∷ 2 ∷ []) (0 ∷ 0 ∷ 0 ∷ 0 ∷ []) (0 ∷ 0 ∷ []) (0 ∷ []) ≡ Ok tt
d_done =
    (accepted.done 2 1 (1 ∷ 2 ∷ []) (0 ∷ 0 ∷ 0 ∷ 0 ∷ []) (0 ∷ 0 ∷ []) (0 ∷ [])).1
    ((omega arith, omega arith, omega arith, omega arith), omega arith, (refl, refl, refl, refl), independent)

d_call : (fold_answer 2 1 0x8 (1 ∷ 2 ∷ []) (0 ∷ 0 ∷ 0 ∷ 0 ∷ []) (0 ∷ 0 ∷ []) (0 ∷ []) ≡ Ok (record { 0 = 0x48 }))
    × (next_basis_after 2 1 (1 ∷ 2 ∷ []) (0 ∷ 0 ∷ 0 ∷ 0 ∷ []) (0 ∷ 0 ∷ []) (0 ∷ []) ≡ 6 ∷ [])
d_call =
    let a = accepted.answer 2 1 0x8 (1 ∷ 2 ∷ []) (0 ∷ 0 ∷ 0 ∷ 0 ∷ []) 4 (0 ∷ 0 ∷ []) (0 ∷ []) d_done in
    (a.0 ∙ ap (λ (o : ℕ). Ok (record { 0 = o })) d_offset, a.4 ∙ d_basis)

-- ---- case F: the word has low degree, so that no challenge is exceptional

f_low : WordDegreeBelow 2 0 basis (7 ∷ 4 ∷ 1 ∷ 2 ∷ [])
f_low =
    subst (WordDegreeBelow 2 0 basis) code_cases.e
    (encoding.degree 0 basis (7 ∷ 3 ∷ []) (omega arith) (omega arith, (omega arith, record {}))
    (omega arith, (omega arith, record {})) independent (omega arith))

f_none : (x : ℕ) → Exceptional 1 1 0 (1 ∷ 2 ∷ []) (7 ∷ 4 ∷ 1 ∷ 2 ∷ []) x → ⊥
f_none x h = h.1 f_low

pub fold_cases : FoldCases
fold_cases =
    record {
      d = d_call.0;
      d_basis = d_call.1;
      d_values = d_values;
      f = f;
      f_none = f_none;
      f_coefficient = back_over_6 (0xb ∷ 0 ∷ []) (0xb ∷ 0xb ∷ []) (omega arith, (omega arith, record {})) refl f_word;
      j_at_4 = j_at_4;
      j_degree_1 = back_over_6 (0 ∷ 1 ∷ []) (0 ∷ 6 ∷ []) (omega arith, (omega arith, record {})) refl j_word;
      j_at_2 = j_at_2;
      j_coefficient = back_over_6 (0 ∷ 0 ∷ []) (0 ∷ 0 ∷ []) (omega arith, (omega arith, record {})) refl j_zero_word;
      j = λ x. (no_other x (eqb x 2) refl, λ e. subst (Exceptional 1 1 0 basis word) (sym e) two_is_in);
      k_layer = k;
      k_offset = k_offset;
      k_basis = k_basis;
      k_last = k_last;
      k_coefficient = k_coefficient;
    }
