-- `next_coset::step_elements` meets its contract. Assumes nothing.
use mathlib.Core.Path.{◌≡◌, ap, ◌∙◌}
use Prim.Native.Nat.{ℕ, ◌≤◌}
use mathlib.Core.List.{List}
use lib.ListN.{length, take}
use lib.Seq.{length-take-le}
use Rattle.poly.specs.Carrier.{gf64}
use Rattle.poly.specs.Polynomial.{padded}
use Rattle.coset.specs.Steps.{step_elements}
use Rattle.coset.proofs.Steps.{elements_of_prefix}
use Rattle.coset.proofs.Subspace.{elements-padded}
use native.Mathlib.Omega.{arith}
use Rattle.next_coset.proofs.step_elements.Goals as goal

-- as many elements are handed on as the step says
counted : (step : ℕ) (basis : List ℕ) → step ≤ length basis → length (take step basis) ≡ step
counted step basis fits = length-take-le step basis fits

pub fill_elements-requires : goal.fill_elements-requires
fill_elements-requires c =
    omega (arith, counted c.args.step c.args.basis.now c.requires.1, c.requires.0)

pub returns : goal.returns
returns c =
    let step = c.args.step in
    let basis = c.args.basis.now in
    elements-padded 3 (take step basis) c.fill_elements.new.elements c.fill_elements.ensures
    ∙ ap (padded gf64 3)
    (ap (λ (n : ℕ). step_elements n (take step basis)) (counted c.args.step c.args.basis.now c.requires.1) ∙ elements_of_prefix step basis)
