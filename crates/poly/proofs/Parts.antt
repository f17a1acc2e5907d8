-- A part of a list that reaches to its end: what is lent, and the list after it is given back. Assumes nothing.
use mathlib.Core.Path.{◌≡◌, ap, ◌∙◌}
use mathlib.Core.List.{List, ◌++◌, append-nil}
use Prim.Native.Nat.{ℕ, ◌-◌, ◌≤◌}
use native.Mathlib.Nat.{le_of_eq}
use lib.ListN.{length, take, drop, length-drop}
use lib.Seq.{take_all, drop-length}
use borrow.Rule.Slice.PartMut.{mid_of, put_mid, Post-is}

pub mid_suffix : (p : ℕ) (xs : List ℕ) → mid_of p (length xs - p) xs ≡ drop p xs
mid_suffix p xs = take_all (length xs - p) (drop p xs) (le_of_eq (length-drop p xs))

pub put_suffix : (p : ℕ) (xs ys : List ℕ) → p ≤ length xs → put_mid p (length xs - p) xs ys ≡ take p xs ++ ys
put_suffix p xs ys h =
    ap (λ (rest : List ℕ). take p xs ++ (ys ++ rest)) (Post-is p (length xs) xs h ∙ drop-length xs)
    ∙ ap (λ (l : List ℕ). take p xs ++ l) (append-nil ys)
