-- What is proved of encoding and interpolation, as statements: proofs/Theorems.antt and
-- Cases.antt have a value of each.
use Rattle.std.specs.Prelude.{◌≡◌, ◌↔◌, Bool, true, false, List, [], ◌∷◌, ℕ, ◌^◌, ◌≤◌, ◌<◌, length, get_or}
use Rattle.gf64.specs.Field.{IsElement}
use Rattle.poly.specs.Carrier.{gf64}
use Rattle.poly.specs.Polynomial.{All, evaluate, padded}
use Rattle.coset.specs.Coset.{point}
use Rattle.coset.specs.Span.{first_dependent, Independent}
use Rattle.std.specs.Prelude.{Option, Some, None, Ok}
use Rattle.refusal.specs.Outcome.{Outcome}
use Rattle.refusal.specs.Numbers.{number_of_outcome, place_of_outcome}
use Rattle.reed_solomon.specs.Answers.{checked, encode_outcome, interpolate_outcome}
use Rattle.reed_solomon.specs.Codes.{encoded, interpolated, WordDegreeBelow}

-- encoding and interpolation invert one another, for every offset and every independent basis, of whatever dimension
pub record RoundTrips : Type 0 where
  -- the coefficients come back, zeros filled in
  pub coefficients : (offset : ℕ) (basis coefficients : List ℕ) → IsElement offset → All IsElement basis
      → All IsElement coefficients → Independent basis → length coefficients ≤ 2 ^ length basis
      → interpolated offset basis (encoded offset basis coefficients) ≡ padded gf64 (2 ^ length basis) coefficients
  -- interpolation gives 2^k coefficients
  pub count : (offset : ℕ) (basis word : List ℕ) → length word ≡ 2 ^ length basis
      → length (interpolated offset basis word) ≡ 2 ^ length basis
  -- the word comes back
  pub word : (offset : ℕ) (basis word : List ℕ) → IsElement offset → All IsElement basis → All IsElement word
      → Independent basis → length word ≡ 2 ^ length basis
      → encoded offset basis (interpolated offset basis word) ≡ word

-- which calls are done: those with k at most 20, lists that fit and an independent basis
pub record CodesAccepted : Type 0 where
  pub encode : (basis coefficients values : List ℕ)
      → (encode_outcome basis coefficients values ≡ Ok tt)
      ↔ ((length basis ≤ 20) × (length coefficients ≤ 2 ^ length basis) × (length values ≡ 2 ^ length basis)
      × Independent basis)
  pub interpolate : (basis word coefficients : List ℕ)
      → (interpolate_outcome basis word coefficients ≡ Ok tt)
      ↔ ((length basis ≤ 20) × (length word ≡ 2 ^ length basis) × (length coefficients ≡ 2 ^ length basis)
      × Independent basis)

-- an outcome's number and place
abbrev pub Told : (outcome : Outcome) (number : ℕ) (place : Option ℕ) → Type 0
Told outcome number place = (number_of_outcome outcome ≡ number) × (place_of_outcome outcome ≡ place)

-- the numbers and places of the refusals, by the first check that fails
pub record CodeRefusals : Type 0 where
  pub dimension : (basis : List ℕ) (fits3 fits6 : Bool) → 20 < length basis → Told (checked basis fits3 fits6) 4 None
  pub list3 : (basis : List ℕ) (fits3 fits6 : Bool) → length basis ≤ 20 → fits3 ≡ false
      → Told (checked basis fits3 fits6) 13 (Some 3)
  pub list6 : (basis : List ℕ) (fits3 fits6 : Bool) → length basis ≤ 20 → fits3 ≡ true → fits6 ≡ false
      → Told (checked basis fits3 fits6) 13 (Some 6)
  pub dependent : (basis : List ℕ) (fits3 fits6 : Bool) (place : ℕ) → length basis ≤ 20 → fits3 ≡ true → fits6 ≡ true
      → first_dependent basis ≡ Some place → Told (checked basis fits3 fits6) 8 (Some place)

-- encoding entry by entry
pub record Encoding : Type 0 where
  pub count : (offset : ℕ) (basis coefficients : List ℕ) → length (encoded offset basis coefficients) ≡ 2 ^ length basis
  -- value j is the polynomial's at point j
  pub values : (offset : ℕ) (basis coefficients : List ℕ) (j : ℕ) → j < 2 ^ length basis
      → get_or (encoded offset basis coefficients) j 0 ≡ evaluate gf64 coefficients (point offset basis j)
  -- coefficients that are left off are zero
  pub left_off : (offset : ℕ) (basis coefficients : List ℕ)
      → encoded offset basis (padded gf64 (2 ^ length basis) coefficients) ≡ encoded offset basis coefficients
  -- n coefficients give a word of degree below n
  pub degree : (offset : ℕ) (basis coefficients : List ℕ) → IsElement offset → All IsElement basis
      → All IsElement coefficients → Independent basis → length coefficients ≤ 2 ^ length basis
      → WordDegreeBelow (length coefficients) offset basis (encoded offset basis coefficients)

-- case E of Table A
pub record CodeCases : Type 0 where
  pub e_done : encode_outcome (1 ∷ 2 ∷ []) (7 ∷ 3 ∷ []) (0 ∷ 0 ∷ 0 ∷ 0 ∷ []) ≡ Ok tt
  pub e : encoded 0 (1 ∷ 2 ∷ []) (7 ∷ 3 ∷ []) ≡ 7 ∷ 4 ∷ 1 ∷ 2 ∷ []
  pub e_back_done : interpolate_outcome (1 ∷ 2 ∷ []) (7 ∷ 4 ∷ 1 ∷ 2 ∷ []) (0 ∷ 0 ∷ 0 ∷ 0 ∷ []) ≡ Ok tt
  pub e_back : interpolated 0 (1 ∷ 2 ∷ []) (7 ∷ 4 ∷ 1 ∷ 2 ∷ []) ≡ 7 ∷ 3 ∷ 0 ∷ 0 ∷ []
