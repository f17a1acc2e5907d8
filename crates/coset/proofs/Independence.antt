-- A basis that is not refused is independent, and which numbers its check gives. Assumes nothing.
use mathlib.Core.Path.{◌≡◌, refl}
use mathlib.Core.List.{List}
use Prim.Native.Nat.{ℕ}
use Rattle.refusal.specs.declared.Cause.TheVariants.{BasisDependent}
use Rattle.std.specs.Prelude.{Option, Some, None, Ok}
use Rattle.refusal.specs.Numbers.{number_of_outcome}
use Rattle.refusal.proofs.Checks.{refused_not_done}
use Rattle.coset.specs.Span.{first_dependent, Independent}
use Rattle.coset.specs.Answers.{outcome_of_basis, basis_outcome}

pub independent_of : (basis : List ℕ) → basis_outcome basis ≡ Ok tt → Independent basis
independent_of basis e = by (first_dependent basis) e
  where
    by : (p : Option ℕ) → outcome_of_basis p ≡ Ok tt → p ≡ None
    by (Some place) f = absurd (refused_not_done (BasisDependent place) f)
    by None f = refl

-- what holds of 0 and of 8 holds of its number
pub basis_number : (P : ℕ → Type 0) → P 0 → P 8 → (basis : List ℕ) → P (number_of_outcome (basis_outcome basis))
basis_number P p0 p8 basis = by (first_dependent basis)
  where
    by : (p : Option ℕ) → P (number_of_outcome (outcome_of_basis p))
    by (Some place) = p8
    by None = p0
