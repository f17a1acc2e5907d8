-- What is answered where a basis must be independent, by its first dependent place.
use Rattle.std.specs.Prelude.{List, ℕ}
use Rattle.refusal.specs.declared.Cause.TheVariants.{BasisDependent}
use Rattle.std.specs.Prelude.{Option, Some, None, Ok, Err}
use Rattle.refusal.specs.Outcome.{Outcome}
use Rattle.coset.specs.Span.{first_dependent}

-- a dependent basis is refused (8) at its first dependent place
abbrev pub outcome_of_basis : (dependent : Option ℕ) → Outcome
outcome_of_basis (Some place) = Err (BasisDependent place)
outcome_of_basis None = Ok tt

-- the check of a basis: no element may lie in the span of earlier ones (8)
abbrev pub basis_outcome : (basis : List ℕ) → Outcome
basis_outcome basis = outcome_of_basis (first_dependent basis)
