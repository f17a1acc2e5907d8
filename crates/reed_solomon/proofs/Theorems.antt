-- The statements of specs/Theorems.antt, proved. Assumes nothing.
use mathlib.Core.Path.{◌≡◌, refl, sym, ap, ◌∙◌, subst}
use mathlib.Core.Bool.{Bool, true}
use mathlib.Core.Logic.{◌↔◌}
use mathlib.Core.List.{List}
use Prim.Native.Nat.{ℕ, ◌-◌, ◌^◌, ◌≤◌}
use lib.ListN.{length, replicate}
use native.Mathlib.Omega.{arith}
use Rattle.gf64.specs.Field.{IsElement}
use Rattle.poly.specs.Carrier.{gf64}
use Rattle.poly.specs.Polynomial.{All, DegreeBelow, padded, Zeros}
use Rattle.poly.proofs.AtField.{at_field, gf64_laws}
use Rattle.coset.specs.Coset.{points}
use Rattle.coset.specs.Span.{Independent}
use Rattle.coset.proofs.Points.{length-points, points_distinct, points-elements}
use Rattle.reed_solomon.specs.Codes.{encoded, interpolated, WordDegreeBelow}
use Rattle.reed_solomon.specs.Theorems.{RoundTrips, CodesAccepted, Told, CodeRefusals, Encoding}
use Rattle.reed_solomon.specs.Answers.{checked}
use Rattle.coset.specs.Answers.{outcome_of_basis}
use Rattle.refusal.specs.declared.Cause.TheVariants.{DimensionOutOfRange, BasisDependent, WrongLength}
use Rattle.refusal.specs.declared.Lent.TheVariants as lent
use Rattle.std.specs.Prelude.{Ok, Err}
use Rattle.refusal.specs.Outcome.{Outcome}
use Rattle.refusal.specs.Numbers.{number_of_outcome, place_of_outcome}
use Rattle.reed_solomon.proofs.Checks.{dimension_refused, list3_refused}
use Rattle.reed_solomon.proofs.Checks.{list6_refused, basis_looked_at, passed, passes}
use Rattle.refusal.proofs.Checks.{equal_of_test, le_of_test}
use lib.Dec.{leb, eqb}
use borrow.Author.Tests.{le-leb, eq-eqb}
use Rattle.reed_solomon.proofs.Values.{length-encoded, encoded-get_or}
use Rattle.poly.proofs.Interpolation.{values_padded}
use Rattle.poly.proofs.Entries.{all_replicate}
use lib.Seq.{drop-append_seam}

coefficients_back : (offset : ℕ) (basis coefficients : List ℕ) → IsElement offset → All IsElement basis
    → All IsElement coefficients → Independent basis → length coefficients ≤ 2 ^ length basis
    → interpolated offset basis (encoded offset basis coefficients) ≡ padded gf64 (2 ^ length basis) coefficients
unfolding encoded interpolated
coefficients_back offset basis coefficients eo eb ec d h =
    at_field.interpolation.recovers coefficients (points offset basis) ec (points-elements offset basis eo eb)
    (points_distinct offset basis d) (omega (arith, length-points offset basis))
    ∙ ap (λ (n : ℕ). padded gf64 n coefficients) (length-points offset basis)

word_back : (offset : ℕ) (basis word : List ℕ) → IsElement offset → All IsElement basis → All IsElement word
    → Independent basis → length word ≡ 2 ^ length basis → encoded offset basis (interpolated offset basis word) ≡ word
unfolding encoded interpolated
word_back offset basis word eo eb ew d h =
    at_field.interpolation.agrees (points offset basis) word (points-elements offset basis eo eb) ew
    (points_distinct offset basis d) (length-points offset basis ∙ sym h)

left_off : (offset : ℕ) (basis coefficients : List ℕ)
    → encoded offset basis (padded gf64 (2 ^ length basis) coefficients) ≡ encoded offset basis coefficients
unfolding encoded
left_off offset basis coefficients =
    values_padded gf64 IsElement gf64_laws (2 ^ length basis) coefficients (points offset basis)

degree : (offset : ℕ) (basis coefficients : List ℕ) → IsElement offset → All IsElement basis
    → All IsElement coefficients → Independent basis → length coefficients ≤ 2 ^ length basis
    → WordDegreeBelow (length coefficients) offset basis (encoded offset basis coefficients)
unfolding padded
degree offset basis coefficients eo eb ec d h =
    subst (DegreeBelow gf64 (length coefficients)) (sym (coefficients_back offset basis coefficients eo eb ec d h))
    (subst (Zeros gf64) (sym (drop-append_seam coefficients (replicate n 0))) (all_replicate (λ c. c ≡ 0) n 0 refl))
  where
    n : ℕ
    n = 2 ^ length basis - length coefficients

pub encoding : Encoding
encoding = record { count = length-encoded; values = encoded-get_or; left_off = left_off; degree = degree }

interpolated-count : (offset : ℕ) (basis word : List ℕ) → length word ≡ 2 ^ length basis
    → length (interpolated offset basis word) ≡ 2 ^ length basis
unfolding interpolated
interpolated-count offset basis word h =
    at_field.interpolation.count (points offset basis) word (length-points offset basis ∙ sym h)
    ∙ length-points offset basis

pub round_trips : RoundTrips
round_trips = record { coefficients = coefficients_back; count = interpolated-count; word = word_back }

-- the checks pass exactly where k is at most 20, what the two tests stand for holds, and the basis is independent
accepted_by : (basis : List ℕ) (fits3 fits6 : Bool) (P Q : Type 0) → (fits3 ≡ true → P) → (P → fits3 ≡ true)
    → (fits6 ≡ true → Q) → (Q → fits6 ≡ true)
    → (checked basis fits3 fits6 ≡ Ok tt) ↔ ((length basis ≤ 20) × P × Q × Independent basis)
accepted_by basis fits3 fits6 P Q p p' q q' = (
  λ e. let all = passed basis fits3 fits6 e in (all.small, p all.list3, q all.list6, all.independent),
  λ a. passes basis fits3 fits6 a.0 (p' a.1) (q' a.2) a.3,
)

pub accepted : CodesAccepted
accepted =
    record {
      encode =
          λ basis coefficients values.
          accepted_by basis (leb (length coefficients) (2 ^ length basis)) (eqb (length values) (2 ^ length basis))
          (length coefficients ≤ 2 ^ length basis) (length values ≡ 2 ^ length basis)
          (le_of_test (length coefficients) (2 ^ length basis)) (le-leb (length coefficients) (2 ^ length basis))
          (equal_of_test (length values) (2 ^ length basis)) (eq-eqb (length values) (2 ^ length basis));
      interpolate =
          λ basis word coefficients.
          accepted_by basis (eqb (length word) (2 ^ length basis)) (eqb (length coefficients) (2 ^ length basis))
          (length word ≡ 2 ^ length basis) (length coefficients ≡ 2 ^ length basis)
          (equal_of_test (length word) (2 ^ length basis)) (eq-eqb (length word) (2 ^ length basis))
          (equal_of_test (length coefficients) (2 ^ length basis)) (eq-eqb (length coefficients) (2 ^ length basis));
    }

-- an outcome that is known has its number and its place
told : (outcome known : Outcome) → known ≡ outcome → Told outcome (number_of_outcome known) (place_of_outcome known)
told outcome known e = (ap number_of_outcome (sym e), ap place_of_outcome (sym e))

pub refusals : CodeRefusals
refusals =
    record {
      dimension = λ basis a b h. told (checked basis a b) (Err DimensionOutOfRange) (dimension_refused basis a b h);
      list3 = λ basis a b h e. told (checked basis a b) (Err (WrongLength lent.Word)) (list3_refused basis a b h e);
      list6 = λ basis a b h e f. told (checked basis a b) (Err (WrongLength lent.Values)) (list6_refused basis a b h e f);
      dependent =
          λ basis a b place h e f d. told (checked basis a b) (Err (BasisDependent place))
          (ap outcome_of_basis (sym d) ∙ basis_looked_at basis a b h e f);
    }
