-- `Coset::value_at` meets its contract. The loop's invariant: what is left of the halvings gives the value from the
-- coset so far. Assumes nothing.
use mathlib.Core.Path.{◌≡◌, refl, sym, ap, ◌∙◌}
use mathlib.Core.List.{List, map}
use Prim.Native.Nat.{ℕ, suc, ◌+◌, ◌-◌, ◌/◌, ◌^◌, ◌≤◌}
use native.Mathlib.Numerals.{add-one}
use lib.Pow.{pow_mono}
use lib.ListN.{length, get_or, drop}
use borrow.Author.Rules.{rules}
use Rattle.gf64.specs.Field.{sum}
use Rattle.field.specs.declared.Element.{Element}
use Rattle.fold.specs.Halving.{line_at, value_at}
use Rattle.coset_value.specs.declared.Coset.{Coset}
use Rattle.coset_value.specs.Cosets.{numbers}
use Rattle.coset_value.proofs.Arrays.{length-numbers}
use Rattle.coset_value.proofs.Cosets.{value_next, value_last, value_moved, halved_count}
use native.Mathlib.Omega.{arith}
use Rattle.coset_value.proofs.Coset.value_at.Goals as goal

pub moved-coset-requires : goal.moved-coset-requires
moved-coset-requires c =
    omega (arith, c.requires.2, pow_mono {i = length c.args.inverses.now} {j = 3} c.requires.1)

pub loop-t-init : goal.loop-t-init
loop-t-init c =
    let start = c in
    let n = length start.args.inverses.now in
    let whole : n ≡ n - 0 = omega arith in (
      refl,
      c.moved-coset.ensures.others.1 ∙ start.requires.2 ∙ ap (λ (m : ℕ). 2 ^ m) whole,
      refl,
    )

pub halved-coset-requires : goal.halved-coset-requires
halved-coset-requires c =
    let start = c in
    let l = c.loop-t in
    let left = length start.args.inverses.now - l.t in
    omega (arith, l.invariant.1, pow_mono {i = left} {j = 3} (omega (arith, start.requires.1)))

pub loop-t-preserved : goal.loop-t-preserved
loop-t-preserved c =
    let start = c in
    let l = c.loop-t in
    let inverses = start.args.inverses.now in
    let n = l.coset.count / 2 in
    let count : n ≡ 2 ^ (length inverses - suc l.t) =
    halved_count (length inverses) l.t l.coset.count (omega (arith, l.invariant.0, start.requires.0)) l.invariant.1 in (
      l.invariant.0,
      ap (λ (r : Coset). r.count) c.halved-coset.ensures ∙ count
          ∙ ap (λ (m : ℕ). 2 ^ (length inverses - m)) (sym (add-one l.t)),
      ap (λ (r : Coset). value_at (drop (l.t + 1) inverses) (numbers r.points) (numbers r.entries))
          c.halved-coset.ensures
          ∙ value_next inverses l.t n (numbers l.coset.points) (numbers l.coset.entries)
          (omega (arith, l.invariant.0, start.requires.0)) count
          ∙ l.invariant.2,
    )

pub returns : goal.returns
returns c =
    let start = c in
    let a = start.args in
    let l = c.loop-t in
    let inverses = a.inverses.now in
    let points = numbers l.coset.points in
    let entries = numbers l.coset.entries in
    let end : suc l.t ≡ length inverses = omega (arith, l.invariant.0, start.requires.0) in
    let most = pow_mono {i = length inverses} {j = 3} start.requires.1 in
    let eight : length a.self.points ≡ 8 = search rules in
    let fits : a.self.count ≤ length (numbers a.self.points) =
    omega (arith, eight, length-numbers a.self.points, start.requires.2, most) in
    c.line.ensures
    ∙ ap (λ (n : ℕ). line_at (get_or inverses n 0) (get_or points 0 0) (get_or entries 0 0) (get_or entries 1 0))
    (omega (arith, end))
    ∙ value_last inverses l.t points entries end
    ∙ l.invariant.2
    ∙ value_moved inverses a.challenge.0 (numbers a.self.points) (numbers c.moved-coset.result.points)
    (numbers c.moved-coset.result.entries) a.self.count start.requires.2 fits c.moved-coset.ensures.points
    ∙ ap (λ (es : List Element). value_at inverses (map (sum a.challenge.0) (numbers a.self.points)) (numbers es))
    c.moved-coset.ensures.others.0
