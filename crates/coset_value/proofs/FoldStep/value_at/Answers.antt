-- `FoldStep::value_at` meets its contract. Assumes nothing.
use Rattle.std.proofs.Common.{◌∙◌, ap, arith, ◌≤◌, length, map}
use lib.Pow.{pow_mono}
use Rattle.gf64.specs.Field.{sum}
use Rattle.fold.specs.Halving.{value_at}
use Rattle.coset_value.specs.declared.Coset.{Coset}
use Rattle.coset_value.specs.declared.FoldStep.{FoldStep}
use Rattle.coset_value.specs.Cosets.{numbers}
use Rattle.coset_value.proofs.Cosets.{value_read}
use Rattle.coset_value.proofs.FoldStep.value_at.Goals as goal

few_points : (h : FoldStep) → length h.span.now ≤ 8
few_points h = omega (arith, h.span_fits, pow_mono {i = length h.inverses.now} {j = 3} h.few)

pub read-requires : goal.read-requires
read-requires c = (few_points c.args.self, c.requires)

pub returns : goal.returns
returns c =
    let a = c.args in
    let h = a.self in
    c.value_at.ensures
    ∙ ap (λ (r : Coset). value_at h.inverses.now (map (sum a.challenge.0) (numbers r.points)) (numbers r.entries))
    c.read.ensures
    ∙ value_read h.inverses.now a.challenge.0 h.span.now a.first.0 a.part.now h.span_fits (few_points h)
