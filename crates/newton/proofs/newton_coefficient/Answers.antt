-- `newton::newton_coefficient` meets its contract. The loop's invariant: value and vanishing are those of the first j
-- points, and x is point j. Assumes nothing.
use mathlib.Core.Path.{◌≡◌, refl, sym, ap, ap₂, ◌∙◌}
use mathlib.Core.List.{List}
use Prim.Native.Nat.{ℕ, ◌+◌, ◌^◌, ◌<◌}
use lib.ListN.{length, get_or}
use lib.Count.{count_trailing_zeros}
use Rattle.gf64.specs.Field.{sum, product}
use Rattle.poly.specs.Newton.{newton_value, vanishing}
use Rattle.coset.specs.Coset.{points}
use Rattle.coset.proofs.Dependence.{point_first}
use Rattle.coset.proofs.Points.{length-points, get_or-points}
use Rattle.coset.proofs.Sequence.{point_stepped}
use Rattle.newton.proofs.NewtonSteps.{value_next, vanishing_next, not_passed, coefficient_end}
use borrow.Author.Rules.{rules}
use native.Mathlib.Omega.{arith}
use Rattle.newton.proofs.newton_coefficient.Goals as goal

pub loop-j-init : goal.loop-j-init
unfolding newton_value vanishing
loop-j-init c =
    let a = c.args in
    (refl, refl, λ h. sym (point_first a.offset.0 a.basis.now))

pub loop-j-preserved : goal.loop-j-preserved
loop-j-preserved c =
    let a = c.args in
    let l = c.loop-j in
    let all = points a.offset.0 a.basis.now in
    let inside : l.j < length a.known.now = omega arith in
    let below : l.j < 2 ^ length a.basis.now = omega (arith, c.requires.1) in
    let among : l.j < length all = omega (arith, length-points a.offset.0 a.basis.now) in
    let first = l.invariant.2 inside in
    let listed : l.x.0 ≡ get_or all l.j 0 = first
    ∙ sym (get_or-points a.offset.0 a.basis.now l.j below) in (
      c.sum-value.ensures ∙ ap (sum l.value.0) c.product.ensures.value
          ∙ value_next all a.known.now l.j a.z.0 l.value.0 l.vanishing.0 among inside
          (omega (arith, c.type_inv.known l.j)) l.invariant.0 l.invariant.1,
      c.product-vanishing.ensures.value
          ∙ ap (product l.vanishing.0) (c.sum.ensures ∙ ap (sum a.z.0) listed)
          ∙ vanishing_next all l.j a.z.0 l.vanishing.0 among l.invariant.1,
      λ h. c.stepped-x.ensures
          ∙ ap (λ (sums : List ℕ). sum l.x.0 (get_or sums (count_trailing_zeros 64 (l.j + 1)) 0))
          c.prefix_sums-sums.ensures
          ∙ point_stepped a.offset.0 a.basis.now l.j l.x.0 (omega (arith, c.requires.0)) first
          (omega (arith, c.requires.1)),
    )

pub inverse_of_nonzero-requires : goal.inverse_of_nonzero-requires
inverse_of_nonzero-requires c =
    let l = c.loop-j in
    not_passed c.args.offset.0 c.args.basis.now l.j (length c.args.known.now)
    c.args.z.0 l.vanishing.0 (search rules) (search rules)
    (λ i. omega (arith, c.type_inv.basis i)) (omega arith) c.requires.2
    l.invariant.1

pub returns : goal.returns
returns c =
    let a = c.args in
    let l = c.loop-j in
    c.product-2.ensures.value ∙ ap₂ product c.sum-2.ensures c.inverse_of_nonzero.ensures
    ∙ coefficient_end (points a.offset.0 a.basis.now) a.known.now l.j a.z.0 a.y.0 l.value.0
    l.vanishing.0
    (omega arith) (omega arith) l.invariant.0 l.invariant.1
