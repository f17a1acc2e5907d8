-- What the program prints of an input. Assumes nothing.
use Rattle.std.specs.Prelude.{List, ℕ}
use Rattle.transcript.specs.Judge.{input_verdict}
use Rattle.line_text.specs.Lines.{lines_of}

-- the lines of the verdict
abbrev pub verdict_lines : (input : List ℕ) → List ℕ
verdict_lines input = lines_of (input_verdict input)
