-- `coset_value::span_of` meets its contract. The loop's invariant: i points stand in the array, zeros follow. Assumes
-- nothing.
use mathlib.Core.Path.{sym, ap, ◌∙◌}
use mathlib.Core.List.{List}
use Prim.Native.Nat.{ℕ}
use lib.Pow.{pow_mono}
use lib.ListN.{length, set, replicate}
use Rattle.poly.specs.Carrier.{gf64}
use Rattle.poly.specs.Polynomial.{padded}
use Rattle.poly.proofs.Filling.{filled_start, padded_next, filled_padded}
use Rattle.coset.specs.Coset.{points}
use Rattle.coset.proofs.Points.{length-points, get_or-points}
use Rattle.coset.proofs.Sizes.{size_shifted}
use native.Mathlib.Omega.{arith}
use Rattle.coset_value.proofs.span_of.Goals as goal

pub loop-i-init : goal.loop-i-init
loop-i-init c =
    let start = c in
    let basis = start.args.basis.now in
    let shifted = size_shifted (length basis) (omega (arith, start.requires)) in (
      omega (arith, shifted, pow_mono {i = length basis} {j = 3} start.requires),
      shifted,
      filled_start (padded gf64 8 (points 0 basis)) (replicate 8 0),
    )

pub loop-i-preserved : goal.loop-i-preserved
loop-i-preserved c =
    let start = c in
    let basis = start.args.basis.now in
    let l = c.loop-i in
    let value = c.point.result.0 in
    let count = length-points 0 basis in (
      l.invariant.0,
      l.invariant.1,
      ap (λ (held : List ℕ). set held l.i value) l.invariant.2
          ∙ padded_next 8 (points 0 basis) l.i value (omega (arith, count, l.invariant.1))
          (omega (arith, count, pow_mono {i = length basis} {j = 3} start.requires))
          (c.point.ensures ∙ sym (get_or-points 0 basis l.i (omega (arith, l.invariant.1)))),
    )

pub returns : goal.returns
returns c =
    let start = c in
    let basis = start.args.basis.now in
    let l = c.loop-i in
    let count = length-points 0 basis in
    l.invariant.2
    ∙ filled_padded 8 (points 0 basis) l.i (omega (arith, count, l.invariant.1))
    (omega (arith, count, pow_mono {i = length basis} {j = 3} start.requires))
