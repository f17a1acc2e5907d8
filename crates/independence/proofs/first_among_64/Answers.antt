-- `independence::first_among_64` meets its contract. The loop's invariant: the definition from place on, over what is
-- left of the rows, is the definition over the first 64 elements. Assumes nothing.
use mathlib.Core.Path.{◌≡◌, sym, ap, ◌∙◌}
use mathlib.Core.List.{List}
use Prim.Native.Nat.{ℕ, ◌+◌, ◌-◌, min}
use lib.ListN.{length, take, get_or, length-take, length-map}
use lib.Seq.{length-take-le, get_or-take}
use borrow.Rule.Slice.PartMut.{mid_of, same_len_mid}
use native.Mathlib.Omega.{arith}
use Rattle.poly.specs.Carrier.{gf64}
use Rattle.poly.specs.Polynomial.{padded}
use Rattle.poly.proofs.Evaluation.{length-padded}
use Rattle.poly.proofs.Filling.{padded_taken}
use Rattle.coset.specs.Span.{first_dependent}
use Rattle.coset.specs.Elimination.{cleared}
use Rattle.independence.proofs.FirstPlace.{row_zero, row_next, rows_end}
use Rattle.independence.proofs.first_among_64.Goals as goal

-- the first `count` rows are the first 64 elements
take-rows : (basis rows : List ℕ) (count : ℕ) → count ≡ min (length basis) 64 → rows ≡ padded gf64 64 (take 64 basis)
    → take count rows ≡ take 64 basis
take-rows basis rows count many copied = padded_taken 64 count (take 64 basis) rows copied
    (omega (arith, length-take 64 basis))

pub loop-place-init : goal.loop-place-init
unfolding first_dependent
loop-place-init c =
    let basis = c.args.basis.now in (
      ap length c.first_64-rows.ensures ∙ length-padded gf64 64 (take 64 basis) (omega (arith, length-take 64 basis)),
      ap first_dependent (take-rows basis c.first_64-rows.result c.min-count.result
          c.min-count.ensures c.first_64-rows.ensures),
    )

pub returns-then-row-eq0 : goal.returns-then-row-eq0
returns-then-row-eq0 c =
    let l = c.loop-place in
    let count = c.min-count.result in
    sym
    (row_zero (take count l.rows) l.place (omega (arith, length-take-le count l.rows (omega arith)))
    (get_or-take count l.rows l.place 0 (omega arith) ∙ c.if-row-eq0.true))
    ∙ l.invariant.1

pub loop-place-preserved : goal.loop-place-preserved
loop-place-preserved c =
    let l = c.loop-place in
    let count = c.min-count.result in
    let changed = c.clear.new.rows in (
      same_len_mid (l.place + 1) (count - (l.place + 1)) l.rows changed
          (ap length c.clear.ensures
          ∙ length-map (mid_of (l.place + 1) (count - (l.place + 1)) l.rows)
          (cleared (get_or l.rows l.place 0)))
          ∙ l.invariant.0,
      row_next l.rows count l.place changed (omega arith) (omega arith) c.if-row-eq0.false
          c.clear.ensures ∙ l.invariant.1,
    )

pub returns : goal.returns
returns c =
    let l = c.loop-place in
    let count = c.min-count.result in
    sym (rows_end (take count l.rows) l.place (omega (arith, length-take-le count l.rows (omega arith))))
    ∙ l.invariant.1
