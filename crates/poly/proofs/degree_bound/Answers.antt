-- `poly::degree_bound` meets its contract: the place that is found is the degree. Assumes nothing.
use native.Mathlib.Omega.{arith}
use Rattle.std.proofs.lemmas.Grind.{common_steps}
use Rattle.poly.proofs.Degree.{bound_of_last, bound_of_none}
use Rattle.poly.proofs.degree_bound.Goals as goal

pub returns-in-Some : goal.returns-in-Some
returns-in-Some c =
    bound_of_last c.args.coefficients.now c.in-Some.last (grind (arith, common_steps)) (λ z. grind (arith, common_steps))
    (λ k l h. grind (arith, common_steps))

pub returns-in-None : goal.returns-in-None
returns-in-None c = bound_of_none c.args.coefficients.now (λ k h. grind (arith, common_steps))
