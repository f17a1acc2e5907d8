-- The first dependent place, row by row: what the test of independence does to the rows that are left. Assumes nothing.
use mathlib.Core.Path.{◌≡◌, sym, ap, ap₂, ◌∙◌}
use mathlib.Core.Logic.{◌≢◌}
use mathlib.Core.List.{List, [], ◌∷◌, ◌++◌, map, append_assoc}
use Prim.Native.Nat.{ℕ, zero, suc, ◌+◌, ◌-◌, ◌≤◌, ◌<◌}
use native.Mathlib.Numerals.{add-one}
use native.Mathlib.Omega.{arith}
use lib.ListN.{length, get_or, take, drop, drop_of_length-le, length-map, length-append}
use lib.Seq.{drop-cons, drop_at, take_at, take-nil, length-take-le, get_or-take}
use native.Mathlib.Nat.{zero-add, suc-add, le_trans}
use borrow.Rule.Slice.PartMut.{mid_of, post_of, put_mid, mid_len}
use Rattle.std.specs.Prelude.{Option, Some, None}
use Rattle.coset.specs.Span.{first_dependent_after}
use Rattle.coset.specs.Elimination.{cleared}
use Rattle.coset.proofs.Points.{first_taken, first_zero}

-- the first dependent place from `place` on, over the rows that are left
abbrev pub from : List ℕ → ℕ → Option ℕ
from rows place = first_dependent_after [] (drop place rows) place

pub row_zero : (rows : List ℕ) (place : ℕ) → place < length rows → get_or rows place 0 ≡ 0 → from rows place ≡ Some place
row_zero rows place h z =
    ap (λ (l : List ℕ). first_dependent_after [] l place) (drop-cons rows place 0 h)
    ∙ first_zero (get_or rows place 0) (drop (suc place) rows) place z

row_taken : (rows : List ℕ) (place : ℕ) → place < length rows → get_or rows place 0 ≢ 0
    → first_dependent_after [] (map (cleared (get_or rows place 0)) (drop (place + 1) rows)) (place + 1) ≡ from rows place
row_taken rows place h nz =
    ap (λ (n : ℕ). first_dependent_after [] (map (cleared (get_or rows place 0)) (drop n rows)) n) (add-one place)
    ∙ sym (first_taken (get_or rows place 0) (drop (suc place) rows) place nz)
    ∙ ap (λ (l : List ℕ). first_dependent_after [] l place) (sym (drop-cons rows place 0 h))

-- ---- the rows are the first `count` of a longer list

drop-take : (p n : ℕ) (l : List ℕ) → drop p (take (p + n) l) ≡ take n (drop p l)
drop-take zero n l = ap (λ (m : ℕ). take m l) (zero-add n)
drop-take (suc p) n [] = ap (λ (m : ℕ). drop (suc p) (take m [])) (suc-add p n) ∙ sym (take-nil n)
drop-take (suc p) n (x ∷ l) = ap (λ (m : ℕ). drop (suc p) (take m (x ∷ l))) (suc-add p n) ∙ drop-take p n l

-- a part of the rows that ends with them, and the rows after it was changed
part_of_rows : (rows : List ℕ) (count p : ℕ) → p ≤ count → mid_of p (count - p) rows ≡ drop p (take count rows)
part_of_rows rows count p h = sym (ap (λ (n : ℕ). drop p (take n rows)) whole ∙ drop-take p (count - p) rows)
  where
    whole : count ≡ p + (count - p)
    whole = omega arith

rows_changed : (rows : List ℕ) (count p : ℕ) (changed : List ℕ) → p ≤ count → count ≤ length rows
    → length changed ≡ count - p
    → drop p (take count (put_mid p (count - p) rows changed)) ≡ changed
rows_changed rows count p changed h m l =
    ap (drop p)
    (ap (take count) (sym (append_assoc (take p rows) changed (post_of p (count - p) rows)))
    ∙ take_at (take p rows ++ changed) (post_of p (count - p) rows) count
    (length-append (take p rows) changed ∙ omega (arith, length-take-le p rows (le_trans h m))))
    ∙ drop_at (take p rows) changed p (length-take-le p rows (le_trans h m))

-- with the row's highest bit cleared from the rows after it
pub row_next : (rows : List ℕ) (count place : ℕ) (changed : List ℕ) → place < count → count ≤ length rows
    → get_or rows place 0 ≢ 0
    → changed ≡ map (cleared (get_or rows place 0)) (mid_of (place + 1) (count - (place + 1)) rows)
    → from (take count (put_mid (place + 1) (count - (place + 1)) rows changed)) (place + 1)
    ≡ from (take count rows) place
row_next rows count place changed h m nz e =
    ap (λ (l : List ℕ). first_dependent_after [] l (place + 1))
    (rows_changed rows count (place + 1) changed (omega arith) m
    (ap length e ∙ length-map (mid_of (place + 1) (count - (place + 1)) rows) (cleared (get_or rows place 0))
    ∙ mid_len (place + 1) count rows m)
    ∙ e ∙ ap₂ (λ (b : ℕ) (l : List ℕ). map (cleared b) l) (sym same)
    (part_of_rows rows count (place + 1) (omega arith)))
    ∙ row_taken (take count rows) place (omega (arith, length-take-le count rows m)) (λ z. nz (sym same ∙ z))
  where
    same : get_or (take count rows) place 0 ≡ get_or rows place 0
    same = get_or-take count rows place 0 h

pub rows_end : (rows : List ℕ) (place : ℕ) → length rows ≤ place → from rows place ≡ None
unfolding first_dependent_after
rows_end rows place h = ap (λ (l : List ℕ). first_dependent_after [] l place) (drop_of_length-le rows h)
