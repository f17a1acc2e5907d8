-- `Coset::moved` meets its contract. Assumes nothing.
use Rattle.std.proofs.Common.{rules, ◌≡◌, ◌∙◌, sym, ap, arith, ℕ, List, map, length, get_or, ◌<◌}
use native.Mathlib.Nat.{le_refl}
use lib.ListN.{length-map, set}
use Rattle.gf64.specs.Field.{sum}
use Rattle.poly.proofs.Filling.{filled, filled_start, filled_next, filled_rest, get_d_map}
use Rattle.coset_value.specs.Cosets.{numbers}
use Rattle.coset_value.proofs.Arrays.{length-numbers, number_at, numbers_set}
use Rattle.coset_value.proofs.Coset.moved.Goals as goal

pub loop-i-init : goal.loop-i-init
loop-i-init c =
    let points = numbers c.args.self.points in
    filled_start (map (sum c.args.challenge.0) points) points

pub loop-i-preserved : goal.loop-i-preserved
loop-i-preserved c =
    let points = numbers c.args.self.points in
    let move : ℕ → ℕ = sum c.args.challenge.0 in
    let l = c.loop-i in
    let i = l.i in
    let moved = c.sum.result in
    let eight : length c.args.self.points ≡ 8 = search rules in
    let inside : i < length points = omega (arith, eight, length-numbers c.args.self.points, c.requires) in
    numbers_set l.points i moved
    ∙ ap (λ (held : List ℕ). set held i moved.0) l.invariant
    ∙ filled_next (map move points) points i moved.0 inside (length-map points move)
    (c.sum.ensures
    ∙ ap move
    (number_at l.points i
    ∙ ap (λ (held : List ℕ). get_or held i 0) l.invariant
    ∙ filled_rest (map move points) points i i (le_refl i) (length-map points move))
    ∙ sym (get_d_map move points i inside))

pub returns-clause-points : goal.returns-clause-points
unfolding filled
returns-clause-points c =
    let points = numbers c.args.self.points in
    let l = c.loop-i in
    l.invariant ∙ ap (filled (map (sum c.args.challenge.0) points) points) (omega arith)
