-- A point from the bits of its index, one after the other: an element whose bit is set joins the offset. Assumes
-- nothing.
use mathlib.Core.Path.{◌≡◌, refl, sym, ap, ◌∙◌}
use mathlib.Core.Logic.{◌≢◌}
use mathlib.Core.List.{List, ◌∷◌}
use Prim.Native.Nat.{ℕ, ◌+◌, ◌*◌, ◌/◌, ◌%◌, ◌≤◌, ◌<◌}
use native.Mathlib.Nat.{zero-mul, one-mul}
use native.Mathlib.Numerals.{add-one}
use native.Mathlib.Omega.{arith}
use lib.ListN.{length, get_or, drop, drop_of_length-le}
use lib.Seq.{drop-cons}
use lib.Bits.{bit_xor}
use Rattle.coset.specs.Coset.{point}
use Rattle.coset.proofs.Dependence.{point_moved}

point-cons : (p b : ℕ) (basis : List ℕ) (j : ℕ) → bit_xor (j % 2 * b) (point p basis (j / 2)) ≡ point p (b ∷ basis) j
unfolding point
point-cons p b basis j = refl

from_here : (p : ℕ) (basis : List ℕ) (t j : ℕ) → t < length basis
    → point p (get_or basis t 0 ∷ drop (t + 1) basis) j ≡ point p (drop t basis) j
from_here p basis t j h =
    ap (λ (l : List ℕ). point p l j)
    (ap (λ (n : ℕ). get_or basis t 0 ∷ drop n basis) (add-one t) ∙ sym (drop-cons basis t 0 h))

pub bit_set : (p : ℕ) (basis : List ℕ) (t j : ℕ) → t < length basis → j % 2 ≡ 1
    → point (bit_xor p (get_or basis t 0)) (drop (t + 1) basis) (j / 2) ≡ point p (drop t basis) j
bit_set p basis t j h odd =
    point_moved p b rest (j / 2)
    ∙ ap (λ (s : ℕ). bit_xor s (point p rest (j / 2))) (sym (ap (λ (r : ℕ). r * b) odd ∙ one-mul b))
    ∙ point-cons p b rest j ∙ from_here p basis t j h
  where
    b : ℕ
    b = get_or basis t 0

    rest : List ℕ
    rest = drop (t + 1) basis

pub bit_clear : (p : ℕ) (basis : List ℕ) (t j : ℕ) → t < length basis → j % 2 ≢ 1
    → point p (drop (t + 1) basis) (j / 2) ≡ point p (drop t basis) j
bit_clear p basis t j h even =
    ap (λ (s : ℕ). bit_xor s (point p rest (j / 2))) (sym (ap (λ (r : ℕ). r * b) zero_bit ∙ zero-mul b))
    ∙ point-cons p b rest j ∙ from_here p basis t j h
  where
    b : ℕ
    b = get_or basis t 0

    rest : List ℕ
    rest = drop (t + 1) basis

    zero_bit : j % 2 ≡ 0
    zero_bit = omega arith

pub bits_end : (p : ℕ) (basis : List ℕ) (t j : ℕ) → length basis ≤ t → p ≡ point p (drop t basis) j
unfolding point
bits_end p basis t j h = ap (λ (l : List ℕ). point p l j) (sym (drop_of_length-le basis h))
