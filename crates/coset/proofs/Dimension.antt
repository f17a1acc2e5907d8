-- An independent basis has at most 64 elements: its points are distinct numbers below 2^64.
-- So the first dependent place of any list is found among its first 65 elements. Assumes nothing.
use mathlib.Core.Path.{◌≡◌, refl, sym, ap, ap₂, ◌∙◌, subst}
use mathlib.Core.Logic.{◌≢◌, ◌⊎◌, inl, inr, ⊎_elim}
use mathlib.Core.Bool.{Bool, true, false, cond}
use mathlib.Core.List.{List, [], ◌∷◌, ◌++◌}
use Prim.Native.Nat.{ℕ, zero, suc, ◌^◌, ◌≤◌, ◌<◌}
use native.Mathlib.Nat.{eq-or-lt_of_le, le_of_suc-le-suc, not-suc-le-zero}
use native.Mathlib.Nat.{not-le_of_lt, lt_of_not-le, le_of_lt, le_refl}
use native.Mathlib.Omega.{arith}
use lib.Arith.{lt_of_le-ne}
use lib.Pow.{pow-lt}
use lib.ListN.{length, get_or, take}
use lib.Seq.{take-take, get_or-take, length-take-le}
use Rattle.gf64.specs.Field.{IsElement}
use Rattle.poly.specs.Polynomial.{All, Distinct}
use Rattle.std.specs.Prelude.{Option, Some, None}
use Rattle.coset.specs.Coset.{points}
use Rattle.coset.specs.Span.{in_span, first_dependent_after, first_dependent, Independent}
use Rattle.coset.proofs.Points.{length-points, points_distinct, points-elements}
use Rattle.coset.proofs.Dependence.{first_found, none_dependent}
use Rattle.coset.proofs.Span.{at_not_absent}
use Rattle.poly.proofs.Entries.{all_take}

-- ---- distinct numbers below n are at most n

-- xs without m: below m, distinct, at most one shorter, and what holds of all of xs holds of all of it
record Without (m : ℕ) (xs : List ℕ) : Type 1 where
  others : List ℕ
  below : All (λ x. x < m) others
  distinct : Distinct others
  shorter : length xs ≤ suc (length others)
  keeps : (P : ℕ → Type 0) → All P xs → All P others

below_and_not : (m : ℕ) (xs : List ℕ) → All (λ x. x < suc m) xs → All (λ x. x ≢ m) xs → All (λ x. x < m) xs
below_and_not m [] b n = record {}
below_and_not m (x ∷ xs) b n = (lt_of_le-ne (le_of_suc-le-suc b.0) n.0, below_and_not m xs b.1 n.1)

with_first : (m x : ℕ) (xs : List ℕ) → x < m → All (λ y. y ≢ x) xs → Without m xs → Without m (x ∷ xs)
with_first m x xs l n w =
    record {
      others = x ∷ w.others;
      below = (l, w.below);
      distinct = (w.keeps (λ y. y ≢ x) n, w.distinct);
      shorter = omega (arith, w.shorter);
      keeps = λ P h. (h.0, w.keeps P h.1);
    }

first_out : (m : ℕ) (xs : List ℕ) → All (λ x. x < suc m) xs → All (λ x. x ≢ m) xs → Distinct xs → Without m (m ∷ xs)
first_out m xs b n d =
    record {
      others = xs;
      below = below_and_not m xs b n;
      distinct = d;
      shorter = le_refl (suc (length xs));
      keeps = λ P h. h.1;
    }

without : (m : ℕ) (xs : List ℕ) → All (λ x. x < suc m) xs → Distinct xs → Without m xs
without m [] b d =
    record { others = []; below = record {}; distinct = record {}; shorter = omega arith; keeps = λ P h. h }
without m (x ∷ xs) b d =
    ⊎_elim (λ (e : x ≡ m). equal e b d) (λ l. with_first m x xs l d.0 (without m xs b.1 d.1))
    (eq-or-lt_of_le (le_of_suc-le-suc b.0))
  where
    equal : x ≡ m → All (λ y. y < suc m) (x ∷ xs) → Distinct (x ∷ xs) → Without m (x ∷ xs)
    equal e b d =
        subst (λ (y : ℕ). Without m (y ∷ xs)) (sym e)
        (first_out m xs b.1 (subst (λ (y : ℕ). All (λ z. z ≢ y) xs) e d.0) d.1)

pub distinct_bound : (n : ℕ) (xs : List ℕ) → All (λ x. x < n) xs → Distinct xs → length xs ≤ n
distinct_bound zero [] b d = omega arith
distinct_bound zero (x ∷ xs) b d = absurd (not-suc-le-zero b.0)
distinct_bound (suc m) xs b d =
    let w = without m xs b d in
    omega (arith, w.shorter, distinct_bound m w.others w.below w.distinct)

-- ---- the dimension

pub independent_short : (basis : List ℕ) → All IsElement basis → Independent basis → length basis ≤ 64
independent_short basis e d = le_of_suc-le-suc (lt_of_not-le too_long)
  where
    fits : length (points 0 basis) ≤ 2 ^ 64
    fits =
        distinct_bound (2 ^ 64) (points 0 basis) (points-elements 0 basis (omega arith) e) (points_distinct 0 basis d)

    too_long : 65 ≤ length basis → ⊥
    too_long h = not-le_of_lt (pow-lt h) (subst (λ (n : ℕ). n ≤ 2 ^ 64) (length-points 0 basis) fits)

-- ---- the first dependent place of a list by that of its first elements

prefix_found : (n : ℕ) (earlier elements : List ℕ) (place i : ℕ)
    → first_dependent_after earlier (take n elements) place ≡ Some i
    → first_dependent_after earlier elements place ≡ Some i
unfolding first_dependent_after
prefix_found zero earlier elements place i e = absurd (at_not_absent i (sym e))
prefix_found (suc n) earlier [] place i e = e
prefix_found (suc n) earlier (b ∷ elements) place i e =
    by_test (in_span earlier b) e (prefix_found n (earlier ++ (b ∷ [])) elements (suc place) i)
  where
    by_test : (t : Bool)
        → cond t (Some place) (first_dependent_after (earlier ++ (b ∷ [])) (take n elements) (suc place)) ≡ Some i
        → (first_dependent_after (earlier ++ (b ∷ [])) (take n elements) (suc place) ≡ Some i
        → first_dependent_after (earlier ++ (b ∷ [])) elements (suc place) ≡ Some i)
        → cond t (Some place) (first_dependent_after (earlier ++ (b ∷ [])) elements (suc place)) ≡ Some i
    by_test true h later = h
    by_test false h later = later h

pub found_in_prefix : (n : ℕ) (basis : List ℕ) (i : ℕ) → first_dependent (take n basis) ≡ Some i
    → first_dependent basis ≡ Some i
unfolding first_dependent
found_in_prefix n basis i e = prefix_found n [] basis 0 i e

pub independent_prefix : (n : ℕ) (basis : List ℕ) → Independent basis → Independent (take n basis)
independent_prefix n basis d = by (first_dependent (take n basis)) refl
  where
    by : (q : Option ℕ) → first_dependent (take n basis) ≡ q → first_dependent (take n basis) ≡ None
    by None f = f
    by (Some i) f = absurd (at_not_absent i (sym (found_in_prefix n basis i f) ∙ d))

-- a place of a prefix is the same place of the list
same_test : (n : ℕ) (basis : List ℕ) (t : ℕ) → t < n
    → in_span (take t (take n basis)) (get_or (take n basis) t 0) ≡ in_span (take t basis) (get_or basis t 0)
same_test n basis t h = ap₂ in_span (take-take t n basis (le_of_lt h)) (get_or-take n basis t 0 h)

-- where the first 64 of more elements are independent the next is dependent
pub sixty_fifth : (basis : List ℕ) → All IsElement basis → 64 < length basis → Independent (take 64 basis)
    → first_dependent basis ≡ Some 64
sixty_fifth basis e h d = by (first_dependent (take 65 basis)) refl
  where
    both : (t : Bool) → t ≡ true → t ≡ false → ⊥
    both t p q = let impossible : ◌≡◌ {A = ℕ} 0 1 = cc in omega arith

    at : (i : ℕ) → first_dependent (take 65 basis) ≡ Some i → i < 65 → (i ≡ 64) ⊎ (i < 64) → first_dependent basis ≡ Some 64
    at i f l (inl s) = found_in_prefix 65 basis i f ∙ ap Some s
    at i f l (inr s) =
        absurd
        (both (in_span (take i basis) (get_or basis i 0))
        (sym (same_test 65 basis i l) ∙ (first_found (take 65 basis) i f).1)
        (sym (same_test 64 basis i s)
        ∙ none_dependent (take 64 basis) i d (omega (arith, length-take-le 64 basis (le_of_lt h)))))

    by : (q : Option ℕ) → first_dependent (take 65 basis) ≡ q → first_dependent basis ≡ Some 64
    by None f =
        absurd
        (omega (arith, independent_short (take 65 basis) (all_take IsElement 65 basis e) f, length-take-le 65 basis h))
    by (Some i) f =
        let l : i < 65 = omega (arith, (first_found (take 65 basis) i f).0, length-take-le 65 basis h) in
        at i f l (eq-or-lt_of_le (le_of_suc-le-suc l))
