-- `Parameters::last_count` meets its contract. Assumes nothing.
use Rattle.layout.proofs.Sizes.{rate_fits, dimension_most, last_count_is}
use Rattle.layout.specs.Parameters.{steps_by}
use Rattle.fri.specs.Layout.{dimension}
use Rattle.coset.proofs.Sizes.{size_shifted}
use lib.ListN.{length}
use Prim.Native.Nat.{ℕ, ◌-◌, ◌^◌}
use mathlib.Core.Path.{◌≡◌, ap, ◌∙◌}
use native.Mathlib.Omega.{arith}
use Rattle.layout.proofs.Shape.last_count.Goals as goal

pub overflow_sub-result : goal.overflow_sub-result
overflow_sub-result c =
    let p = c.args.self.parameters in
    let r = length (steps_by p) in
    -- the dimension is that of layer r
    let dim : c.dimension.result ≡ dimension p.k (steps_by p) r =
    c.dimension.ensures ∙ ap (dimension p.k (steps_by p)) c.rounds.ensures
    in
    omega (arith, dim, rate_fits p c.args.self.valid r (omega arith))

pub overflow_shl-result : goal.overflow_shl-result
overflow_shl-result c = omega (arith, c.dimension.ensures, dimension_most c.args.self.parameters c.args.self.valid c.rounds.result)

pub returns : goal.returns
returns c =
    let p = c.args.self.parameters in
    let r = length (steps_by p) in
    let dim : c.dimension.result ≡ dimension p.k (steps_by p) r =
    c.dimension.ensures ∙ ap (dimension p.k (steps_by p)) c.rounds.ensures
    in
    size_shifted (c.dimension.result - p.rate) (omega (arith, dim, dimension_most p c.args.self.valid r))
    ∙ ap (λ (n : ℕ). 2 ^ (n - p.rate)) dim ∙ last_count_is p.k p.rate (steps_by p)
