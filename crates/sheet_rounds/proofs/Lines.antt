-- The lines of one query more, and the room for them. Assumes nothing.
use mathlib.Core.Path.{◌≡◌, sym, ap, ap₂, ◌∙◌}
use mathlib.Core.List.{List, ◌++◌}
use Prim.Native.Nat.{ℕ, suc, ◌+◌, ◌*◌, ◌≤◌, ◌<◌, ◌^◌}
use native.Mathlib.Nat.{mul-le-mul_right, suc-mul}
use native.Mathlib.Numerals.{add-one}
use native.Mathlib.Omega.{arith}
use lib.ListN.{length, get_or, take}
use Rattle.std.specs.Prelude.{Ok}
use Rattle.fri.specs.Run.{Run, rounds_in}
use Rattle.fri.specs.Judge.{checks_outcome}
use Rattle.sheet_text.specs.Sheet.{query_lines, sheet_lines, line_length}
use Rattle.sheet_text.proofs.Sheets.{Fits, checked_fits, sheet_lines_next, length_sheet_lines, length_all_lines}

module _ (run : Run) (queries : List ℕ) (done : checks_outcome run queries ≡ Ok tt) {query : ℕ}
    (within : query < length queries) where
  fits : Fits run queries
  fits = checked_fits run queries done

  pub query_narrow : (query < 10 ^ 5) × (get_or queries query 0 < 10 ^ 8)
  query_narrow = (omega (arith, within, fits.queries_few), omega (arith, fits.indices query))

  -- the lines of this query end where all lines do, or before
  pub room_left : length (sheet_lines run (take query queries) 0) + line_length * rounds_in run
      ≤ length (sheet_lines run queries 0)
  room_left =
      let before = length_sheet_lines fits query (omega (arith, within)) in
      let most : suc query * rounds_in run ≤ length queries * rounds_in run = mul-le-mul_right (rounds_in run) within in
      omega (arith, before, length_all_lines fits, most, suc-mul query (rounds_in run))

-- by the run and the number of rounds that the code has
pub query_after : {run judged : Run} (queries : List ℕ) (query : ℕ) {count : ℕ} → judged ≡ run
    → count ≡ rounds_in judged → query < length queries
    → sheet_lines run (take query queries) 0 ++ query_lines judged query (get_or queries query 0) 0 count
    ≡ sheet_lines run (take (query + 1) queries) 0
query_after {run} {judged} queries query {count} same count_is h =
    ap₂
    (λ (r : Run) (n : ℕ). sheet_lines run (take query queries) 0 ++ query_lines r query (get_or queries query 0) 0 n)
    same (count_is ∙ ap rounds_in same)
    ∙ sym (sheet_lines_next run queries query h)
    ∙ ap (λ (n : ℕ). sheet_lines run (take n queries) 0) (sym (add-one query))
