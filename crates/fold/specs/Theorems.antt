-- What is proved of the fold, as statements: Theorems.antt, Outcomes.antt and Cases.antt of
-- proofs/ have a value of each.
use Rattle.refusal.specs.Numbers.{number_of_outcome, place_of_outcome, round_of_outcome}
use Rattle.std.specs.Prelude.{◌≡◌, ◌≢◌, ◌⊎◌, ◌↔◌, List, [], ◌∷◌, map, ℕ, ◌+◌, ◌*◌, ◌-◌, ◌^◌, ◌≤◌, ◌<◌, length, get_or}
use Rattle.std.specs.Prelude.{Option, Some, None, Result, Ok}
use Rattle.refusal.specs.declared.Cause.{Cause}
use Rattle.field.specs.declared.Element.{Element}
use Rattle.gf64.specs.Field.{IsElement, sum, inverse}
use Rattle.poly.specs.Carrier.{gf64}
use Rattle.poly.specs.Polynomial.{All, Distinct, Zeros, evaluate, interpolant}
use Rattle.coset.specs.Coset.{point}
use Rattle.coset.specs.Span.{first_dependent, Independent}
use Rattle.coset.specs.Subspace.{image, next_offset, next_basis}
use Rattle.coset.specs.Steps.{step_elements}
use Rattle.reed_solomon.specs.Codes.{encoded, interpolated, WordDegreeBelow}
use Rattle.fold.specs.Fold.{coset_points, coset_entries, fold_entry, folded}
use Rattle.fold.specs.Halving.{value_at}
use Rattle.fold.specs.Rows.{high_rows, rows_at}
use Rattle.fold.specs.Exceptional.{FoldDegreeBelow, Exceptional}
use Rattle.fold.specs.Answers.{fold_outcome, fold_answer, fold_values_after, next_basis_after}
use Rattle.fold.specs.Answers.{value_of_folded}

-- a word of elements over a coset with an independent basis, whatever its entries
pub record IsWord (offset : ℕ) (basis word : List ℕ) : Type 0 where
  pub offset_element : IsElement offset
  pub basis_elements : All IsElement basis
  pub word_elements : All IsElement word
  pub independent : Independent basis
  pub count : length word ≡ 2 ^ length basis

-- the fold of a word at a challenge x
pub record Folds : Type 0 where
  -- entry j of the fold at x is the value at x of any polynomial p of 2^step coefficients that agrees with the word at
  -- the points that q sends to point j of the next coset
  pub entry : (step offset : ℕ) (basis word : List ℕ) → IsWord offset basis word → step ≤ length basis
      → (x j : ℕ) (p : List ℕ) → j < 2 ^ (length basis - step) → All IsElement p → length p ≡ 2 ^ step
      → ((i : ℕ) → i < 2 ^ length basis
      → image step basis (point offset basis i) ≡ point (next_offset step offset basis) (next_basis step basis) j
      → evaluate gf64 p (point offset basis i) ≡ get_or word i 0)
      → get_or (folded step offset basis word x) j 0 ≡ evaluate gf64 p x
  -- and the coset's interpolant is one
  pub agrees : (step offset : ℕ) (basis word : List ℕ) → IsWord offset basis word → step ≤ length basis → (i j : ℕ)
      → i < 2 ^ length basis → j < 2 ^ (length basis - step)
      → image step basis (point offset basis i) ≡ point (next_offset step offset basis) (next_basis step basis) j
      → evaluate gf64 (interpolant gf64 (coset_points step offset basis j) (coset_entries step word j))
      (point offset basis i) ≡ get_or word i 0
  -- the fold is a word over the next coset
  pub word : (step offset : ℕ) (basis word : List ℕ) → IsWord offset basis word → step ≤ length basis → (x : ℕ)
      → IsElement x → IsWord (next_offset step offset basis) (next_basis step basis) (folded step offset basis word x)
  -- that of the polynomial whose coefficients are the rows at x
  pub rows : (step offset : ℕ) (basis word : List ℕ) → IsWord offset basis word → step ≤ length basis → (x : ℕ)
      → folded step offset basis word x
      ≡ encoded (next_offset step offset basis) (next_basis step basis) (rows_at step offset basis word x)
  -- a word of degree below N · 2^step folds to degree below N, whatever the challenge
  pub degree : (step offset : ℕ) (basis word : List ℕ) → IsWord offset basis word → step ≤ length basis → (N x : ℕ)
      → IsElement x → WordDegreeBelow (N * 2 ^ step) offset basis word
      → FoldDegreeBelow N step offset basis word x
  -- the word's interpolant has at x the value that the interpolant of its fold at x has at q(x)
  pub value : (step offset : ℕ) (basis word : List ℕ) → IsWord offset basis word → step ≤ length basis → (x : ℕ)
      → IsElement x → evaluate gf64 (interpolated offset basis word) x
      ≡ evaluate gf64 (interpolated (next_offset step offset basis) (next_basis step basis)
      (folded step offset basis word x)) (image step basis x)

-- the exceptional set of a layer
pub record ExceptionalSets : Type 0 where
  -- x is exceptional exactly when some of the rows from 2^(m - rate - step) on is not zero and
  -- all of them are zero at x
  pub rows : (rate step offset : ℕ) (basis layer : List ℕ) → IsWord offset basis layer → rate + step ≤ length basis
      → (x : ℕ) → Exceptional rate step offset basis layer x
      ↔ (IsElement x × (All (Zeros gf64) (high_rows rate step offset basis layer) → ⊥)
      × All (λ row. evaluate gf64 row x ≡ 0) (high_rows rate step offset basis layer))
  -- the set has at most 2^step - 1 elements, whatever the layer holds: every list of distinct
  -- elements of it is that short
  pub bound : (rate step offset : ℕ) (basis layer : List ℕ) → IsWord offset basis layer → rate + step ≤ length basis
      → (xs : List ℕ) → All (Exceptional rate step offset basis layer) xs → Distinct xs → length xs ≤ 2 ^ step - 1

-- how the code computes an entry: the coset, its points moved by the challenge, is halved once for each map of the
-- step, with the inverse of its element
pub record Halvings : Type 0 where
  pub entry : (step offset : ℕ) (basis word : List ℕ) → IsWord offset basis word → step ≤ length basis → (x j : ℕ)
      → IsElement x → j < 2 ^ (length basis - step)
      → value_at (map inverse (step_elements step basis)) (map (sum x) (coset_points step offset basis j))
      (coset_entries step word j)
      ≡ fold_entry step offset basis word x j

-- cases D, F, J and K of Table A, as far as they speak of one fold at a time
pub record FoldCases : Type 0 where
  pub d : fold_answer 2 1 0x8 (1 ∷ 2 ∷ []) (0 ∷ 0 ∷ 0 ∷ 0 ∷ []) (0 ∷ 0 ∷ []) (0 ∷ []) ≡ Ok (record { 0 = 0x48 })
  pub d_basis : next_basis_after 2 1 (1 ∷ 2 ∷ []) (0 ∷ 0 ∷ 0 ∷ 0 ∷ []) (0 ∷ 0 ∷ []) (0 ∷ []) ≡ 6 ∷ []
  -- the word of case F over the coset of case D
  pub d_values : folded 1 0x8 (1 ∷ 2 ∷ []) (7 ∷ 4 ∷ 1 ∷ 2 ∷ []) 4 ≡ 0x13 ∷ 0x13 ∷ []
  pub f : folded 1 0 (1 ∷ 2 ∷ []) (7 ∷ 4 ∷ 1 ∷ 2 ∷ []) 4 ≡ 0xb ∷ 0xb ∷ []
  pub f_coefficient : interpolated (next_offset 1 0 (1 ∷ 2 ∷ [])) (next_basis 1 (1 ∷ 2 ∷ [])) (0xb ∷ 0xb ∷ [])
      ≡ 0xb ∷ 0 ∷ []
  -- a word of low degree has no exceptional challenge
  pub f_none : (x : ℕ) → Exceptional 1 1 0 (1 ∷ 2 ∷ []) (7 ∷ 4 ∷ 1 ∷ 2 ∷ []) x → ⊥
  pub j_at_4 : folded 1 0 (1 ∷ 2 ∷ []) (0 ∷ 0 ∷ 0 ∷ 1 ∷ []) 4 ≡ 0 ∷ 6 ∷ []
  pub j_degree_1 : interpolated (next_offset 1 0 (1 ∷ 2 ∷ [])) (next_basis 1 (1 ∷ 2 ∷ [])) (0 ∷ 6 ∷ []) ≡ 0 ∷ 1 ∷ []
  pub j_at_2 : folded 1 0 (1 ∷ 2 ∷ []) (0 ∷ 0 ∷ 0 ∷ 1 ∷ []) 2 ≡ 0 ∷ 0 ∷ []
  pub j_coefficient : interpolated (next_offset 1 0 (1 ∷ 2 ∷ [])) (next_basis 1 (1 ∷ 2 ∷ [])) (0 ∷ 0 ∷ []) ≡ 0 ∷ 0 ∷ []
  -- the exceptional set is 2 alone
  pub j : (x : ℕ) → Exceptional 1 1 0 (1 ∷ 2 ∷ []) (0 ∷ 0 ∷ 0 ∷ 1 ∷ []) x ↔ (x ≡ 2)
  pub k_layer : folded 1 0 (1 ∷ 2 ∷ 4 ∷ []) (0 ∷ 1 ∷ 4 ∷ 5 ∷ 0x10 ∷ 0x11 ∷ 0x14 ∷ 0x15 ∷ []) 2
      ≡ 2 ∷ 4 ∷ 0x16 ∷ 0x10 ∷ []
  pub k_offset : next_offset 1 0 (1 ∷ 2 ∷ 4 ∷ []) ≡ 0
  pub k_basis : next_basis 1 (1 ∷ 2 ∷ 4 ∷ []) ≡ 6 ∷ 0x14 ∷ []
  pub k_last : folded 1 0 (6 ∷ 0x14 ∷ []) (2 ∷ 4 ∷ 0x16 ∷ 0x10 ∷ []) 3 ≡ 1 ∷ 1 ∷ []
  pub k_coefficient : interpolated (next_offset 1 0 (6 ∷ 0x14 ∷ [])) (next_basis 1 (6 ∷ 0x14 ∷ [])) (1 ∷ 1 ∷ [])
      ≡ 1 ∷ 0 ∷ []

-- the parameters of a lone fold are in range
abbrev pub InRange : (k step : ℕ) → Type 0
InRange k step = (2 ≤ k) × (k ≤ 20) × (1 ≤ step) × (step ≤ 3)

-- the lists have the lengths due
abbrev pub FoldFits : (k step : ℕ) (basis word values next : List ℕ) → Type 0
FoldFits k step basis word values next =
    (length basis ≡ k) × (length word ≡ 2 ^ k) × (length values ≡ 2 ^ (k - step)) × (length next ≡ k - step)

-- an answer's number, place and round
abbrev pub FoldTells : (answer : Result Element Cause) (number : ℕ) (place round : Option ℕ) → Type 0
FoldTells answer number place round =
    (number_of_outcome answer ≡ number) × (place_of_outcome answer ≡ place) × (round_of_outcome answer ≡ round)

-- which calls are done, and what they answer and leave
pub record FoldAccepted : Type 0 where
  pub done : (k step : ℕ) (basis word values next : List ℕ)
      → (fold_outcome k step basis word values next ≡ Ok tt)
      ↔ (InRange k step × (step ≤ k) × FoldFits k step basis word values next × Independent basis)
  pub answer : (k step offset : ℕ) (basis word : List ℕ) (x : ℕ) (values next : List ℕ)
      → fold_outcome k step basis word values next ≡ Ok tt
      → (fold_answer k step offset basis word values next ≡ Ok (record { 0 = next_offset step offset basis }))
      × FoldTells (fold_answer k step offset basis word values next) 0 None None
      × ((none : ℕ)
      → value_of_folded (fold_answer k step offset basis word values next) none ≡ next_offset step offset basis)
      × (fold_values_after k step offset basis word x values next ≡ folded step offset basis word x)
      × (next_basis_after k step basis word values next ≡ next_basis step basis)

-- a call is refused with this number and place, no round and no value, and both lent lists are left as they were
abbrev pub Refuses : (k step : ℕ) (basis word values next : List ℕ) (number : ℕ) (place : Option ℕ) → Type 0
Refuses k step basis word values next number place =
    (offset x : ℕ)
    → FoldTells (fold_answer k step offset basis word values next) number place None
    × ((none : ℕ) → value_of_folded (fold_answer k step offset basis word values next) none ≡ none)
    × (fold_values_after k step offset basis word x values next ≡ values)
    × (next_basis_after k step basis word values next ≡ next)

-- the numbers of a lone fold: 0, 4, 6, 7, 8 and 13
abbrev pub FoldNumber : (n : ℕ) → Type 0
FoldNumber n = (n ≡ 0) ⊎ (n ≡ 4) ⊎ ((6 ≤ n) × (n ≤ 8)) ⊎ (n ≡ 13)

-- the refusals by the first check that fails
pub record FoldRefusals : Type 0 where
  pub dimension : (k step : ℕ) (basis word values next : List ℕ) → (k < 2) ⊎ (20 < k)
      → Refuses k step basis word values next 4 None
  pub step : (k step : ℕ) (basis word values next : List ℕ) → 2 ≤ k → k ≤ 20 → (step < 1) ⊎ (3 < step)
      → Refuses k step basis word values next 6 None
  pub too_small : (k step : ℕ) (basis word values next : List ℕ) → InRange k step → k < step
      → Refuses k step basis word values next 7 None
  pub list1 : (k step : ℕ) (basis word values next : List ℕ) → InRange k step → step ≤ k → length basis ≢ k
      → Refuses k step basis word values next 13 (Some 1)
  pub list3 : (k step : ℕ) (basis word values next : List ℕ) → InRange k step → step ≤ k → length basis ≡ k
      → length word ≢ 2 ^ k → Refuses k step basis word values next 13 (Some 3)
  pub list6 : (k step : ℕ) (basis word values next : List ℕ) → InRange k step → step ≤ k → length basis ≡ k
      → length word ≡ 2 ^ k → length values ≢ 2 ^ (k - step) → Refuses k step basis word values next 13 (Some 6)
  pub list7 : (k step : ℕ) (basis word values next : List ℕ) → InRange k step → step ≤ k → length basis ≡ k
      → length word ≡ 2 ^ k
      → length values ≡ 2 ^ (k - step) → length next ≢ k - step → Refuses k step basis word values next 13 (Some 7)
  pub dependent : (k step : ℕ) (basis word values next : List ℕ) (place : ℕ) → InRange k step → step ≤ k
      → FoldFits k step basis word values next
      → first_dependent basis ≡ Some place → Refuses k step basis word values next 8 (Some place)
  -- no number is given otherwise
  pub numbers : (k step offset : ℕ) (basis word values next : List ℕ)
      → FoldNumber (number_of_outcome (fold_answer k step offset basis word values next))
