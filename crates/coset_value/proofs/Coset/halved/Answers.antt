-- `Coset::halved` meets its contract. The loop's invariant: i points and i entries stand in the arrays, zeros follow.
-- Assumes nothing.
use mathlib.Core.Path.{refl, sym, ap, ap₂, ◌∙◌}
use Prim.Native.Nat.{ℕ, ◌+◌, ◌*◌, ◌/◌}
use native.Mathlib.Numerals.{add-one}
use lib.ListN.{get_or}
use Rattle.gf64.specs.Field.{product}
use Rattle.poly.specs.Carrier.{gf64}
use Rattle.poly.specs.Polynomial.{padded}
use Rattle.fold.specs.Halving.{halved_points, halved_entries}
use Rattle.coset_value.specs.Cosets.{elements, numbers}
use Rattle.coset_value.proofs.Arrays.{begun_start, begun_next, begun_all, number_at}
use Rattle.coset_value.proofs.Cosets.{coset_equal, length-halved_points, halved_points_at, length-halved_entries}
use Rattle.coset_value.proofs.Cosets.{halved_entries_at}
use native.Mathlib.Omega.{arith}
use Rattle.coset_value.proofs.Coset.halved.Goals as goal

pub loop-i-init : goal.loop-i-init
loop-i-init c =
    let a = c.args in
    let half = a.self.count / 2 in
    let points = numbers a.self.points in (
      refl,
      omega (arith, c.requires),
      begun_start (halved_points half points),
      begun_start (halved_entries a.inverse.0 half points (numbers a.self.entries)),
    )

pub loop-i-preserved : goal.loop-i-preserved
loop-i-preserved c =
    let a = c.args in
    let l = c.loop-i in
    let half = a.self.count / 2 in
    let points = numbers a.self.points in
    let entries = numbers a.self.entries in
    let count = length-halved_points half points in
    let count' = length-halved_entries a.inverse.0 half points entries in (
      l.invariant.0,
      l.invariant.1,
      begun_next (halved_points half points) l.points l.i c.product.result l.invariant.2
          (omega (arith, count)) (omega (arith, count, l.invariant.1))
          (c.product.ensures.value
          ∙ ap₂ product (number_at a.self.points (l.i * 2))
          (number_at a.self.points (l.i * 2 + 1) ∙ ap (λ (n : ℕ). get_or points n 0) (add-one (l.i * 2)))
          ∙ sym (halved_points_at half points l.i (omega arith))),
      begun_next (halved_entries a.inverse.0 half points entries) l.entries l.i c.line.result l.invariant.3
          (omega (arith, count')) (omega (arith, count', l.invariant.1))
          (c.line.ensures ∙ sym (halved_entries_at a.inverse.0 half points entries l.i (omega arith))),
    )

pub returns : goal.returns
returns c =
    let a = c.args in
    let l = c.loop-i in
    let half = a.self.count / 2 in
    let points = numbers a.self.points in
    let entries = numbers a.self.entries in
    let count = length-halved_points half points in
    let count' = length-halved_entries a.inverse.0 half points entries in
    let lines = halved_entries a.inverse.0 half points entries in
    coset_equal l.points (elements (padded gf64 8 (halved_points half points))) l.entries
    (elements (padded gf64 8 lines)) half half
    (begun_all (halved_points half points) l.points l.i l.invariant.2 (omega (arith, count))
    (omega (arith, count, l.invariant.1)))
    (begun_all lines l.entries l.i l.invariant.3 (omega (arith, count')) (omega (arith, count', l.invariant.1)))
    refl
