-- `independence::clear` meets its contract. Assumes nothing.
use Rattle.std.proofs.Common.{◌∙◌, sym, ap, arith, ℕ, List, map, length, get_or, ◌<◌}
use native.Mathlib.Nat.{le_refl}
use lib.ListN.{length-map, set}
use Rattle.poly.proofs.Filling.{filled_start, filled_next, filled_all, filled_rest, get_d_map}
use Rattle.coset.specs.Elimination.{cleared}
use Rattle.independence.proofs.clear.Goals as goal

pub loop-a-init : goal.loop-a-init
loop-a-init c = filled_start (map (cleared c.args.row) c.args.rows.now) c.args.rows.now

pub loop-a-preserved : goal.loop-a-preserved
loop-a-preserved c =
    let rows = c.args.rows.now in
    let row = c.args.row in
    let l = c.loop-a in
    let i = l.a-index in
    let inside : i < length rows = omega arith in
    ap (λ (held : List ℕ). set held i c.cleared.result) l.invariant
    ∙ filled_next (map (cleared row) rows) rows i c.cleared.result inside (length-map rows (cleared row))
    (c.cleared.ensures
    ∙ ap (cleared row)
    (ap (λ (held : List ℕ). get_or held i 0) l.invariant
    ∙ filled_rest (map (cleared row) rows) rows i i (le_refl i) (length-map rows (cleared row)))
    ∙ sym (get_d_map (cleared row) rows i inside))

pub returns : goal.returns
returns c =
    let rows = c.args.rows.now in
    let row = c.args.row in
    let l = c.loop-a in
    l.invariant ∙ filled_all (map (cleared row) rows) rows l.a-index (omega arith) (length-map rows (cleared row))
