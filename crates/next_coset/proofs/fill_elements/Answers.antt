-- `next_coset::fill_elements` meets its contract. The loop's invariant: t elements are filled in, the others as they
-- were. Assumes nothing.
use mathlib.Core.Path.{◌≡◌, ap, ◌∙◌}
use mathlib.Core.List.{List, ◌++◌}
use Prim.Native.Nat.{ℕ}
use native.Mathlib.Nat.{le_refl}
use lib.ListN.{length, take, drop, get_or, set}
use Rattle.poly.proofs.Filling.{filled_start, front_next, front_taken, front_done}
use Rattle.coset.specs.Steps.{composed_maps}
use Rattle.coset.proofs.Steps.{length-elements, element_at}
use native.Mathlib.Omega.{arith}
use Rattle.next_coset.proofs.fill_elements.Invariants.{whole}
use Rattle.next_coset.proofs.fill_elements.Goals as goal

length_whole : (basis : List ℕ) → length (whole basis) ≡ length basis
length_whole basis = length-elements (length basis) basis (le_refl (length basis))

pub loop-t-init : goal.loop-t-init
loop-t-init c =
    let a = c.args in
    let front = whole a.basis.now in
    (filled_start (front ++ drop (length front) a.elements.now) a.elements.now)

pub loop-t-preserved : goal.loop-t-preserved
loop-t-preserved c =
    let basis = c.args.basis.now in
    let held = c.args.elements.now in
    let l = c.loop-t in
    let element = c.composed_maps.result.0 in
    let count = length_whole basis in
    ap (λ (now : List ℕ). set now l.t element) l.invariant
    ∙ front_next (whole basis) held l.t element (omega (arith, count)) (omega (arith, count, c.requires))
    (c.composed_maps.ensures
    ∙ ap (λ (now : List ℕ). composed_maps now (get_or basis l.t 0))
    (ap (take l.t) l.invariant
    ∙ front_taken (whole basis) held l.t (omega (arith, count)) (omega (arith, count, c.requires)))
    ∙ element_at (length basis) basis l.t (omega arith) (le_refl (length basis)))

pub returns : goal.returns
returns c =
    let basis = c.args.basis.now in
    let held = c.args.elements.now in
    let l = c.loop-t in
    let count = length_whole basis in
    l.invariant ∙ front_done (whole basis) held l.t (omega (arith, count)) (omega (arith, count, c.requires))
    ∙ ap (λ (n : ℕ). whole basis ++ drop n held) count
