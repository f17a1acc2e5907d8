-- `report::put_numbers` meets its contract: one text after the other. Assumes nothing.
use Rattle.line_text.specs.Digits.{bytes}
use Rattle.line_text.specs.Lines.{numbers_text}
use Rattle.placing.proofs.Puts.{puts_append}
use Rattle.report.proofs.put_numbers.Goals as goal

pub returns : goal.returns
unfolding bytes numbers_text
returns c =
    puts_append
    (puts_append
    (puts_append
    (puts_append c.put_number.ensures.text c.put_position.ensures.text)
    c.put_position-2.ensures.text)
    c.put_number-2.ensures.text)
    c.put.ensures
