-- The sheet of a transcript whose sections pass, and its length. Assumes nothing.
use mathlib.Core.Path.{◌≡◌, sym, ap₂, ◌∙◌}
use mathlib.Core.List.{List}
use Prim.Native.Nat.{ℕ, ◌*◌, ◌≤◌}
use native.Mathlib.Nat.{mul-le-mul, mul_comm}
use lib.ListN.{length}
use Rattle.std.specs.Prelude.{Ok}
use Rattle.fri.specs.Run.{Run}
use Rattle.transcript.specs.Sections.{run_in, queries_in, transcript_rounds}
use Rattle.transcript.specs.Checks.{transcript_outcome}
use Rattle.sheet_text.specs.Sheet.{line_length, sheet_lines, transcript_sheet}
use Rattle.sheet_text.proofs.Sheets.{passed_fits, length_sheet, sheet_passed}

module _ (bytes : List ℕ) (done : transcript_outcome bytes ≡ Ok tt) where
  -- 256 queries of 19 rounds
  pub lines_few : length (queries_in bytes) * transcript_rounds bytes ≤ 4864
  lines_few =
      let fits = passed_fits bytes done in
      mul-le-mul fits.queries_few fits.rounds_few

  pub length_is : length (queries_in bytes) * transcript_rounds bytes * line_length ≡ length (transcript_sheet bytes)
  length_is = mul_comm (length (queries_in bytes) * transcript_rounds bytes) line_length ∙ sym (length_sheet bytes done)

  -- the lines of what was sent are the sheet
  pub lines_are : {run : Run} {queries : List ℕ} → run ≡ run_in bytes → queries ≡ queries_in bytes
      → sheet_lines run queries 0 ≡ transcript_sheet bytes
  lines_are r q =
      ap₂ (λ (run : Run) (queries : List ℕ). sheet_lines run queries 0) r q ∙ sym (sheet_passed bytes done)
