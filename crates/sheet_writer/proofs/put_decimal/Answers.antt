-- `sheet_writer::put_decimal` meets its contract: spaces, the digits, a space. Assumes nothing.
use native.Mathlib.Omega.{arith}
use Rattle.line_text.specs.Digits.{bytes}
use Rattle.placing.proofs.Puts.{puts_append, puts_same}
use Rattle.sheet_writer.proofs.Padding.{padded}
use Rattle.sheet_writer.proofs.put_decimal.Goals as goal

pub returns-clause-text : goal.returns-clause-text
unfolding bytes
returns-clause-text c =
    puts_same (puts_append (puts_append c.put.ensures c.put_digits.ensures) c.put-2.ensures)
    (padded c.args.n c.args.width c.places-count.result (omega arith) c.places-count.ensures.0)
