-- `report::lines` meets its contract: the line follows the header, at the front of zeros. Assumes nothing.
use mathlib.Core.Path.{refl}
use borrow.Author.Rules.{rules}
use Rattle.line_text.specs.Digits.{bytes}
use Rattle.line_text.specs.Lines.{lines_of}
use Rattle.placing.proofs.Puts.{puts_append, zeros_after}
use Rattle.report.proofs.lines.Goals as goal

pub invariant_of-result : goal.invariant_of-result
invariant_of-result c =
    let zeros = zeros_after 128 (puts_append c.put.ensures c.put_line.ensures) refl refl in
    (search rules, search (rules, zeros))

pub returns : goal.returns
unfolding bytes lines_of
returns c = let text = puts_append c.put.ensures c.put_line.ensures in search (rules, text)
