-- `next_coset::fill_images` meets its contract. The loop's invariant: i images are filled in, the others as they
-- were. Assumes nothing.
use mathlib.Core.Path.{sym, ap, ◌∙◌}
use mathlib.Core.List.{List, map, ◌++◌}
use Prim.Native.Nat.{ℕ}
use lib.ListN.{length, drop, set, length-map}
use Rattle.poly.proofs.Filling.{filled_start, front_next, front_done, get_d_map}
use Rattle.coset.specs.Steps.{composed_maps}
use native.Mathlib.Omega.{arith}
use Rattle.next_coset.proofs.fill_images.Goals as goal

pub loop-i-init : goal.loop-i-init
loop-i-init c =
    let a = c.args in
    let front = map (composed_maps a.elements.now) a.xs.now in
    (filled_start (front ++ drop (length front) a.images.now) a.images.now)

pub loop-i-preserved : goal.loop-i-preserved
loop-i-preserved c =
    let a = c.args in
    let l = c.loop-i in
    let image = c.composed_maps.result.0 in
    let front = map (composed_maps a.elements.now) a.xs.now in
    let count = length-map a.xs.now (composed_maps a.elements.now) in
    ap (λ (held : List ℕ). set held l.i image) l.invariant
    ∙ front_next front a.images.now l.i image (omega (arith, count)) (omega (arith, count, c.requires))
    (c.composed_maps.ensures
    ∙ sym (get_d_map (composed_maps a.elements.now) a.xs.now l.i (omega arith)))

pub returns : goal.returns
returns c =
    let a = c.args in
    let l = c.loop-i in
    let front = map (composed_maps a.elements.now) a.xs.now in
    let count = length-map a.xs.now (composed_maps a.elements.now) in
    l.invariant
    ∙ front_done front a.images.now l.i (omega (arith, count)) (omega (arith, count, c.requires))
    ∙ ap (λ (n : ℕ). front ++ drop n a.images.now) count
