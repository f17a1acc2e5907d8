-- The sheet of a whole input: none over the limit, else the transcript's. Assumes nothing.
use mathlib.Core.Path.{◌≡◌}
use mathlib.Core.List.{List, []}
use Prim.Native.Nat.{ℕ, ◌≤◌, ◌<◌}
use lib.ListN.{length}
use Rattle.sheet_text.specs.Sheet.{sheet_of, transcript_sheet}
use Rattle.sheet_text.proofs.Theorems.{sheets}

module _ (input : List ℕ) where
  pub over : 65536 < length input → sheet_of input ≡ []
  over h = sheets.long input h

  pub within : length input ≤ 65536 → sheet_of input ≡ transcript_sheet input
  within h = sheets.short input h
