-- A text at the front of a lent list, by whether there is room for it. Assumes nothing.
use mathlib.Core.Path.{◌≡◌, ap}
use mathlib.Core.Bool.{Bool, cond}
use mathlib.Core.List.{List, ◌++◌}
use Prim.Native.Nat.{ℕ, ◌≤◌, ◌<◌}
use lib.ListN.{length, drop}
use borrow.Author.Tests.{le-leb, lt-leb}
use Rattle.sheet_text.specs.Sheet.{in_front}

module _ (text held : List ℕ) where
  abbrev by_room : Bool → List ℕ
  by_room room = cond room (text ++ drop (length text) held) held

  pub in-front : length text ≤ length held → in_front text held ≡ text ++ drop (length text) held
  in-front h = ap by_room (le-leb (length text) (length held) h)

  pub no_room : length held < length text → in_front text held ≡ held
  no_room h = ap by_room (lt-leb (length text) (length held) h)
