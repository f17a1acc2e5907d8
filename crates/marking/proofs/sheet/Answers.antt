-- `marking::sheet` meets its contract. Assumes nothing.
use mathlib.Core.Path.{◌≡◌, sym, ap, ◌∙◌}
use mathlib.Core.List.{List}
use Prim.Native.Nat.{ℕ}
use borrow.Author.Rules.{rules}
use lib.ListN.{length}
use Rattle.std.specs.Prelude.{Err}
use Rattle.transcript.specs.Checks.{transcript_outcome}
use Rattle.sheet_text.specs.Sheet.{in_front}
use Rattle.sheet_text.proofs.Sheets.{sheet_refused}
use Rattle.marking.proofs.Fronts.{nothing}
use Rattle.marking.proofs.sheet.Goals as goal

-- a transcript that its sections refuse has no lines
pub returns-in-Err-clause-length : goal.returns-in-Err-clause-length
returns-in-Err-clause-length c =
    let refused : transcript_outcome c.args.bytes.now ≡ Err c.in-Err.field-0 = search rules in
    sym (ap length (sheet_refused c.args.bytes.now c.in-Err.field-0 refused))

pub returns-in-Err-clause-list : goal.returns-in-Err-clause-list
returns-in-Err-clause-list c =
    let held = c.args.out.now in
    let refused : transcript_outcome c.args.bytes.now ≡ Err c.in-Err.field-0 = search rules in
    let none = sheet_refused c.args.bytes.now c.in-Err.field-0 refused in
    sym (ap (λ (text : List ℕ). in_front text held) none ∙ nothing held)
