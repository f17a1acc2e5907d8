-- `writing::put_digits` meets its contract. The loop's invariant: the digits from `place` on are filled in, and before
-- them are to come those of what is left of the number. Assumes nothing.
use mathlib.Core.Path.{◌≡◌}
use mathlib.Core.List.{◌++◌}
use Prim.Native.Nat.{◌-◌, ◌≤◌}
use lib.ListN.{length, take, drop}
use Rattle.line_text.specs.Digits.{digits}
use Rattle.writing.proofs.put_digits.Given as goal

abbrev pub invariant-loop-place : goal.invariant-loop-place
invariant-loop-place l =
    let held = l.initial.cursor in
    let out = l.cursor.out.now in
    (held.at ≤ l.place)
    × (digits l.base (l.place - held.at) l.rest ++ take (l.end - l.place) (drop l.place out) ≡ digits l.base l.width l.n)
    × (take held.at out ≡ take held.at held.out.now)
    × (drop l.end out ≡ drop l.end held.out.now)
    × (length out ≡ length held.out.now)
    × (l.cursor.at ≡ held.at)
    × (l.cursor.out.ghost_name ≡ held.out.ghost_name)
