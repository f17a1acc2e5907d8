-- What encoding and interpolation answer, and what the lent list holds afterwards.
-- The dimension k is the length of the basis.
use Rattle.std.specs.Prelude.{Bool, List, ℕ, ◌^◌, leb, eqb, length}
use Rattle.refusal.specs.declared.Cause.TheVariants.{DimensionOutOfRange, WrongLength}
use Rattle.refusal.specs.declared.Lent.TheVariants as lent
use Rattle.refusal.specs.Outcome.{Outcome}
use Rattle.refusal.specs.Checks.{refused_unless, afterwards}
use Rattle.coset.specs.Answers.{basis_outcome}
use Rattle.reed_solomon.specs.Codes.{encoded, interpolated}

-- the checks in the order of document 01: k over 20 (number 4); the lowest of lists 3 and 6 that does not fit (13);
-- a dependent basis (8)
abbrev pub checked : (basis : List ℕ) (fits3 fits6 : Bool) → Outcome
checked basis fits3 fits6 =
    refused_unless (leb (length basis) 20) DimensionOutOfRange
    (refused_unless fits3 (WrongLength lent.Word)
    (refused_unless fits6 (WrongLength lent.Values)
    (basis_outcome basis)))

-- what encoding answers: at most 2^k coefficients, exactly 2^k values
abbrev pub encode_outcome : (basis coefficients values : List ℕ) → Outcome
encode_outcome basis coefficients values =
    checked basis (leb (length coefficients) (2 ^ length basis)) (eqb (length values) (2 ^ length basis))

-- what interpolation answers: exactly 2^k entries of the word, exactly 2^k coefficients
abbrev pub interpolate_outcome : (basis word coefficients : List ℕ) → Outcome
interpolate_outcome basis word coefficients =
    checked basis (eqb (length word) (2 ^ length basis)) (eqb (length coefficients) (2 ^ length basis))

-- what the list of values holds after encoding
abbrev pub values_after : (offset : ℕ) (basis coefficients values : List ℕ) → List ℕ
values_after offset basis coefficients values =
    afterwards (encode_outcome basis coefficients values) (encoded offset basis coefficients) values

-- what the list of coefficients holds after interpolation
abbrev pub coefficients_after : (offset : ℕ) (basis word coefficients : List ℕ) → List ℕ
coefficients_after offset basis word coefficients =
    afterwards (interpolate_outcome basis word coefficients) (interpolated offset basis word) coefficients
