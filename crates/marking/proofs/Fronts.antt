-- What the lent list holds after a text was put at its front, or none. Assumes nothing.
use mathlib.Core.Path.{◌≡◌, sym, ap₂, ◌∙◌}
use mathlib.Core.List.{List, [], ◌++◌}
use Prim.Native.Nat.{ℕ, ◌+◌}
use native.Mathlib.Omega.{arith}
use lib.ListN.{length, take, drop}
use Rattle.placing.specs.declared.Cursor.{Cursor}
use Rattle.placing.specs.Put.{Puts}
use Rattle.placing.proofs.Puts.{list_after, puts_same, ends, same_size}
use Rattle.sheet_text.specs.Sheet.{in_front}
use Rattle.sheet_text.proofs.Fronts.{in-front}

pub nothing : (held : List ℕ) → in_front [] held ≡ held
nothing held = in-front [] held (omega arith)

pub put_in_front : {old new : Cursor} {lines text : List ℕ} → Puts old lines new → lines ≡ text → old.at ≡ 0
    → new.out.now ≡ in_front text old.out.now
put_in_front {old} {new} {lines} {text} put is first =
    let put = puts_same put is in
    let from : old.at + length text ≡ length text = omega (arith, first) in
    list_after put
    ∙ ap₂ (λ (m n : ℕ). take m old.out.now ++ (text ++ drop n old.out.now)) first from
    ∙ sym (in-front text old.out.now (omega (arith, put.room, ends put, same_size put)))
