-- From Newton's form to the polynomial, from the last point to the first in the list itself. Assumes nothing.
use mathlib.Core.Path.{◌≡◌, sym, ap, ap₂, ◌∙◌, subst}
use mathlib.Core.List.{List, [], ◌∷◌, ◌++◌, append_assoc, append-nil}
use Prim.Native.Nat.{ℕ, zero, suc, ◌-◌, ◌≤◌, ◌<◌}
use native.Mathlib.Nat.{le_of_lt}
use native.Mathlib.Omega.{arith}
use lib.ListN.{length, get_or, take, drop, length-drop, length-append}
use lib.Seq.{drop-cons, drop-length, take-length, take-suc, take_at, drop_at, length-take-le}
use borrow.Rule.Slice.PartMut.{mid_of, put_mid}
use Rattle.poly.specs.Carrier.{gf64}
use Rattle.poly.specs.Newton.{horner_step, expanded}
use Rattle.poly.proofs.Parts.{mid_suffix, put_suffix}
use Rattle.poly.proofs.Newton.{length-expanded}

-- the first i coefficients of the form, and those from i on expanded
unfoldable pub expanded_from : List ℕ → List ℕ → ℕ → List ℕ
expanded_from points cs i = take i cs ++ expanded gf64 (drop i points) (drop i cs)

pub expanded_start : (points cs : List ℕ) → length points ≡ length cs → cs ≡ expanded_from points cs (length cs)
unfolding expanded_from expanded
expanded_start points cs h =
    sym
    (ap₂ (λ (a b : List ℕ). take (length cs) cs ++ expanded gf64 a b)
    (ap (λ (n : ℕ). drop n points) (sym h) ∙ drop-length points) (drop-length cs)
    ∙ append-nil (take (length cs) cs) ∙ take-length cs)

module _ (points cs now : List ℕ) (j : ℕ) (same : length points ≡ length cs) (inside : j < length cs)
    (inv : now ≡ expanded_from points cs (suc j)) where
  rest : List ℕ
  rest = expanded gf64 (drop (suc j) points) (drop (suc j) cs)

  parted : now ≡ take j cs ++ get_or cs j 0 ∷ rest
  unfolding expanded_from rest
  parted =
      inv ∙ ap (λ (l : List ℕ). l ++ expanded gf64 (drop (suc j) points) (drop (suc j) cs)) (take-suc cs j 0 inside)
      ∙ append_assoc (take j cs) (get_or cs j 0 ∷ []) (expanded gf64 (drop (suc j) points) (drop (suc j) cs))

  front : take j now ≡ take j cs
  front = ap (take j) parted ∙ take_at (take j cs) (get_or cs j 0 ∷ rest) j (length-take-le j cs (le_of_lt inside))

  back : drop j now ≡ get_or cs j 0 ∷ rest
  back = ap (drop j) parted ∙ drop_at (take j cs) (get_or cs j 0 ∷ rest) j (length-take-le j cs (le_of_lt inside))

  from_here : (x : ℕ) → x ≡ get_or points j 0
      → horner_step gf64 x (get_or cs j 0 ∷ rest) ≡ expanded gf64 (drop j points) (drop j cs)
  unfolding expanded rest
  from_here x at =
      ap (λ (z : ℕ). horner_step gf64 z (get_or cs j 0 ∷ expanded gf64 (drop (suc j) points) (drop (suc j) cs))) at
      ∙ sym (ap₂ (expanded gf64) (drop-cons points j 0 (omega arith)) (drop-cons cs j 0 inside))

  now_length : j ≤ length now
  now_length =
      subst (λ (n : ℕ). j ≤ n)
      (sym (ap length parted ∙ length-append (take j cs) (get_or cs j 0 ∷ rest)))
      (omega (arith, length-take-le j cs (le_of_lt inside)))

  expanded-suc : (x : ℕ) (changed : List ℕ) → x ≡ get_or points j 0
      → changed ≡ horner_step gf64 x (mid_of j (length now - j) now)
      → put_mid j (length now - j) now changed ≡ expanded_from points cs j
  unfolding expanded_from
  expanded-suc x changed at e =
      put_suffix j now changed now_length
      ∙ ap₂ ◌++◌ front (e ∙ ap (horner_step gf64 x) (mid_suffix j now ∙ back) ∙ from_here x at)

-- the point before joins
pub expanded_next : (points cs now : List ℕ) (i x : ℕ) (changed : List ℕ) → length points ≡ length cs → 0 < i
    → i ≤ length cs
    → now ≡ expanded_from points cs i → x ≡ get_or points (i - 1) 0
    → changed ≡ horner_step gf64 x (mid_of (i - 1) (length now - (i - 1)) now)
    → put_mid (i - 1) (length now - (i - 1)) now changed ≡ expanded_from points cs (i - 1)
expanded_next points cs now i x changed same pos h inv at e = by (i - 1) (omega arith) at e
  where
    by : (j : ℕ) → suc j ≡ i → x ≡ get_or points j 0 → changed ≡ horner_step gf64 x (mid_of j (length now - j) now)
        → put_mid j (length now - j) now changed ≡ expanded_from points cs j
    by j s at e =
        expanded-suc points cs now j same (omega arith) (inv ∙ ap (expanded_from points cs) (sym s)) x changed at e

pub expanded_end : (points cs now : List ℕ) (i : ℕ) → i ≤ 0 → now ≡ expanded_from points cs i
    → now ≡ expanded gf64 points cs
unfolding expanded_from
expanded_end points cs now zero h inv = inv
expanded_end points cs now (suc i) h inv = absurd (omega arith)

pub length_expanded_from : (points cs : List ℕ) (i : ℕ) → length points ≡ length cs → i ≤ length cs
    → length (expanded_from points cs i) ≡ length cs
unfolding expanded_from
length_expanded_from points cs i same h =
    length-append (take i cs) (expanded gf64 (drop i points) (drop i cs))
    ∙ omega (
      arith,
      length-take-le i cs h,
      length-expanded gf64 (drop i points) (drop i cs)
          (length-drop i points ∙ ap (λ (n : ℕ). n - i) same ∙ sym (length-drop i cs)),
      length-drop i points,
    )
