-- `sheet::answer` meets its contract: the sheet is that of the bytes read, which is that of the whole input, and the
-- lent list has room for the largest. Assumes nothing.
use mathlib.Core.Path.{◌≡◌, sym, ap, ap₂, subst, ◌∙◌}
use mathlib.Core.List.{List, []}
use Prim.Native.Nat.{ℕ, ◌≤◌}
use native.Mathlib.Omega.{arith}
use lib.ListN.{length, take, drop, length-take}
use lib.Seq.{take-append_seam}
use Rattle.sheet_text.specs.Sheet.{sheet_of, in_front}
use Rattle.sheet_text.proofs.Theorems.{sheets}
use Rattle.sheet_text.proofs.Fronts.{in-front}
use Rattle.input.proofs.Printed.{prints_whole}
use Rattle.std.specs.Prelude.{Option}
use Rattle.input.specs.Reading.{Prints}
use Rattle.sheet.proofs.answer.Goals as goal
use Rattle.sheet.proofs.answer.Goals.{in-Some, in-None}

-- ---- a text at the front of a list that has room for it

-- it is what the list then begins with
front : (text held : List ℕ) → length text ≤ length held → take (length text) (in_front text held) ≡ text
front text held room =
    ap (take (length text)) (in-front text held room) ∙ take-append_seam text (drop (length text) held)

-- a list of which n entries can be taken has them
counted : (n : ℕ) (list : List ℕ) → n ≡ length (take n list) → n ≤ length list
counted n list e = let least = e ∙ length-take n list in omega arith

-- so for a call that put it there and counted its bytes
placed : (text held list : List ℕ) (n : ℕ) → n ≡ length text → list ≡ in_front text held → length text ≤ length held
    → (take n list ≡ text) × ((n ≤ length list) × (n ≡ length (take n list)))
placed text held list n count e room =
    let same : take n list ≡ text = ap₂ take count e ∙ front text held room in
    let whole : n ≡ length (take n list) = count ∙ sym (ap length same) in
    (same, (counted n list whole, whole))

-- nothing of a list
none_taken : (n : ℕ) (list : List ℕ) → n ≡ 0 → take n list ≡ []
none_taken n list e = ap (λ (m : ℕ). take m list) e

-- ---- the goals

pub slice_bounds-result-end : goal.slice_bounds-result-end
slice_bounds-result-end c =
    let out = c.match-reading.out in
    let n = c.match-reading.length in
    elim c.match-reading.branch [
      | in-Some w ↦
          let read = take w.in-Some.count c.args.input.now in
          let room : length (sheet_of read) ≤ length c.args.out.now =
          subst (λ (m : ℕ). length (sheet_of read) ≤ m) (sym c.requires.room) (sheets.program.largest read) in
          (placed _ c.args.out.now out n (w.length-is ∙ w.sheet_input-length.ensures.length)
          (w.out-is ∙ w.sheet_input-length.ensures.list) room).1.1
      | in-None w ↦ w.length-is ∙ sym (ap length (none_taken n out w.length-is))
    ]

pub returns-clause-text : goal.returns-clause-text
returns-clause-text c =
    let out = c.match-reading.out in
    let n = c.match-reading.length in
    elim c.match-reading.branch [
      | in-Some w ↦
          let read = take w.in-Some.count c.args.input.now in
          let first : (whole : List ℕ) → sheet_of (take (length c.args.input.now) whole) ≡ sheet_of whole =
          λ whole. sheets.whole whole (length c.args.input.now) (omega (arith, c.requires.size)) in
          let room : length (sheet_of read) ≤ length c.args.out.now =
          subst (λ (m : ℕ). length (sheet_of read) ≤ m) (sym c.requires.room) (sheets.program.largest read) in
          prints_whole sheet_of _ _ c.args.input.now _ first w.in-Some.is
          (placed _ c.args.out.now out n (w.length-is ∙ w.sheet_input-length.ensures.length)
          (w.out-is ∙ w.sheet_input-length.ensures.list) room).0
      | in-None w ↦
          subst (λ (at : Option ℕ). Prints sheet_of at c.args.input.now (take n out)) (sym w.in-None.is)
          (none_taken n out w.length-is)
    ]

-- no more bytes than the list has
pub returns-clause-few : goal.returns-clause-few
returns-clause-few c =
    let out = c.match-reading.out in
    let n = c.match-reading.length in
    elim c.match-reading.branch [
      | in-Some w ↦
          let read = take w.in-Some.count c.args.input.now in
          let count = w.length-is ∙ w.sheet_input-length.ensures.length in
          let room : length (sheet_of read) ≤ length c.args.out.now =
          subst (λ (m : ℕ). length (sheet_of read) ≤ m) (sym c.requires.room) (sheets.program.largest read) in
          let whole = (placed _ c.args.out.now out n count (w.out-is ∙ w.sheet_input-length.ensures.list) room).1.1 in
          omega (arith, whole, count, room)
      | in-None w ↦ omega (arith, ap length (none_taken n out w.length-is))
    ]
