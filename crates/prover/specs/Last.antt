-- The degree check of an interpolant, from the interpolant and the number of last coefficients.
use Rattle.std.specs.Prelude.{List, ℕ, ◌-◌, leb, length, take}
use Rattle.refusal.specs.declared.Cause.TheVariants.{DegreeTooLarge}
use Rattle.std.specs.Prelude.{Ok}
use Rattle.refusal.specs.Outcome.{Outcome}
use Rattle.refusal.specs.Checks.{refused_unless, afterwards}
use Rattle.poly.specs.Degree.{degree_bound}

-- a degree of `count` or more is told (12)
abbrev pub last_outcome : (interpolant : List ℕ) (count : ℕ) → Outcome
last_outcome interpolant count =
    let bound = degree_bound interpolant in
    refused_unless (leb bound count) (DegreeTooLarge (bound - 1)) (Ok tt)

-- the first coefficients of the interpolant, as many as the list has, or what the list held
abbrev pub last_coefficients : (interpolant held : List ℕ) → List ℕ
last_coefficients interpolant held =
    let count = length held in
    afterwards (last_outcome interpolant count) (take count interpolant) held
