-- What is printed, by how reading ended. Assumes nothing.
use mathlib.Core.Path.{◌≡◌, sym, ap, subst, ◌∙◌}
use mathlib.Core.List.{List, ◌++◌}
use Prim.Native.Nat.{ℕ}
use native.Mathlib.Omega.{arith}
use lib.ListN.{length, take, length-take}
use lib.Seq.{take_all, take-append_seam}
use Rattle.std.specs.Prelude.{Option, Some}
use Rattle.input.specs.Reading.{Prints, PrintsOfRead, PrintsOfWhole}

pub prints_of_whole : PrintsOfWhole
prints_of_whole text list rest printed prints =
    prints (list ++ rest) (take_all (length list) list (omega arith) ∙ sym (take-append_seam list rest))

-- the text of the whole input, where it is, if the first bytes have the same
pub prints_whole : (text : List ℕ → List ℕ) (reading : Option ℕ) (count : ℕ) (list printed : List ℕ)
    → ((input : List ℕ) → text (take (length list) input) ≡ text input)
    → reading ≡ Some count → printed ≡ text (take count list) → Prints text reading list printed
prints_whole text reading count list printed first e is =
    subst (λ (at : Option ℕ). Prints text at list printed) (sym e) (λ input read. is ∙ ap text read ∙ first input)

pub prints_of_read : PrintsOfRead
prints_of_read text count list printed prints =
    prints (take count list)
    (sym (take_all (length list) (take count list) (omega (arith, length-take count list))))
