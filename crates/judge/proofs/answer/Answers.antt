-- `judge::answer` meets its contract: the verdict is that on the bytes read, which is that on the whole input, and the
-- text has its lines. Assumes nothing.
use Rattle.std.proofs.Common.{◌≡◌, ap, ◌∙◌, List, ℕ, length, take, arith}
use Rattle.transcript.proofs.LongInputs.{long_inputs}
use Rattle.line_text.specs.Lines.{lines_of}
use Rattle.input.proofs.Printed.{prints_whole}
use Rattle.judge.specs.Printed.{verdict_lines}
use Rattle.judge.proofs.answer.Goals as goal

pub returns : goal.returns
returns c =
    let first : (whole : List ℕ) → verdict_lines (take (length c.args.input.now) whole) ≡ verdict_lines whole =
    λ whole. ap lines_of (long_inputs.first whole (length c.args.input.now) (omega (arith, c.requires.size))) in
    record {
      text =
          prints_whole verdict_lines _ _ c.args.input.now _ first c.in-Some.is
          (c.lines.ensures.text ∙ ap lines_of c.judge_input.ensures);
      few = c.lines.ensures.few;
    }
