-- A list that is being filled from the front: j entries of the target, and after them those it held
-- before. Assumes nothing.
use mathlib.Core.Path.{◌≡◌, refl, sym, ap, ap₂, ◌∙◌}
use mathlib.Core.List.{List, [], ◌∷◌, ◌++◌, map, append-nil, append_assoc}
use mathlib.Core.Logic.{◌⊎◌, inl, inr, ⊎_elim}
use Prim.Native.Nat.{ℕ, zero, suc, ◌+◌, ◌-◌, ◌≤◌, ◌<◌, min}
use native.Mathlib.Nat.{le_trans}
use native.Mathlib.Numerals.{add-one}
use native.Mathlib.Omega.{arith}
use lib.ListN.{length, get_or, take, drop, set, replicate, length-replicate, length-append, length-map}
use lib.ListN.{length-drop, drop_of_length-le, get_or-eq_default, get_or-append}
use lib.Seq.{ext_get_or, take-append_seam, take_at, take-append-le, length-take-le, get_or-append-add, get_or-drop}
use lib.Seq.{drop_at, take-add, drop-drop}
use borrow.Rule.Slice.PartMut.{mid_of, put_mid}
use Rattle.poly.specs.Carrier.{gf64}
use Rattle.poly.specs.Polynomial.{padded}
use Rattle.poly.proofs.Evaluation.{length-padded}
use Rattle.poly.proofs.Entries.{get_or_replicated, map-take, map-drop}

unfoldable pub filled : List ℕ → List ℕ → ℕ → List ℕ
filled target held j = take j target ++ drop j held

pub filled_start : (target held : List ℕ) → held ≡ filled target held 0
unfolding filled
filled_start target held = refl

filled_suc : (target held : List ℕ) (j : ℕ) → j < length held → length target ≡ length held
    → set (filled target held j) j (get_or target j 0) ≡ filled target held (suc j)
unfolding filled
filled_suc [] [] j h e = absurd (omega arith)
filled_suc [] (b ∷ held) j h e = absurd (omega arith)
filled_suc (a ∷ target) [] j h e = absurd (omega arith)
filled_suc (a ∷ target) (b ∷ held) zero h e = refl
filled_suc (a ∷ target) (b ∷ held) (suc j) h e =
    ap {B = List ℕ} (λ l. a ∷ l) (filled_suc target held j (omega arith) (omega arith))

-- the next entry of the target is stored
pub filled_next : (target held : List ℕ) (j v : ℕ) → j < length held → length target ≡ length held → v ≡ get_or target j 0
    → set (filled target held j) j v ≡ filled target held (j + 1)
filled_next target held j v h e s =
    ap (set (filled target held j) j) s ∙ filled_suc target held j h e ∙ ap (filled target held) (sym (add-one j))

-- what is filled is the target's
pub take_filled : (target held : List ℕ) (j : ℕ) → j ≤ length target → take j (filled target held j) ≡ take j target
unfolding filled
take_filled target held j h = take_at (take j target) (drop j held) j (length-take-le j target h)

-- what is not filled yet is as it was
pub filled_rest : (target held : List ℕ) (j i : ℕ) → j ≤ i → length target ≡ length held
    → get_or (filled target held j) i 0 ≡ get_or held i 0
unfolding filled
filled_rest [] [] zero i h e = refl
filled_rest [] [] (suc j) i h e = refl
filled_rest [] (b ∷ held) j i h e = absurd (omega arith)
filled_rest (a ∷ target) [] j i h e = absurd (omega arith)
filled_rest (a ∷ target) (b ∷ held) zero i h e = refl
filled_rest (a ∷ target) (b ∷ held) (suc j) zero h e = absurd (omega arith)
filled_rest (a ∷ target) (b ∷ held) (suc j) (suc i) h e = filled_rest target held j i (omega arith) (omega arith)

pub length_filled : (target held : List ℕ) (j : ℕ) → length target ≡ length held
    → length (filled target held j) ≡ length held
unfolding filled
length_filled [] [] zero e = refl
length_filled [] [] (suc j) e = refl
length_filled [] (b ∷ held) j e = absurd (omega arith)
length_filled (a ∷ target) [] j e = absurd (omega arith)
length_filled (a ∷ target) (b ∷ held) zero e = refl
length_filled (a ∷ target) (b ∷ held) (suc j) e = ap suc (length_filled target held j (omega arith))

pub get_d_map : (f : ℕ → ℕ) (l : List ℕ) (j : ℕ) → j < length l → get_or (map f l) j 0 ≡ f (get_or l j 0)
get_d_map f [] j h = absurd (omega arith)
get_d_map f (a ∷ l) zero h = refl
get_d_map f (a ∷ l) (suc j) h = get_d_map f l j (omega arith)

-- an entry that is filled is the target's
filled_get_or : (target held : List ℕ) (j i : ℕ) → i < j → length target ≡ length held
    → get_or (filled target held j) i 0 ≡ get_or target i 0
unfolding filled
filled_get_or [] [] zero i h e = absurd (omega arith)
filled_get_or [] [] (suc j) i h e = refl
filled_get_or [] (b ∷ held) j i h e = absurd (omega arith)
filled_get_or (a ∷ target) [] j i h e = absurd (omega arith)
filled_get_or (a ∷ target) (b ∷ held) zero i h e = absurd (omega arith)
filled_get_or (a ∷ target) (b ∷ held) (suc j) zero h e = refl
filled_get_or (a ∷ target) (b ∷ held) (suc j) (suc i) h e = filled_get_or target held j i (omega arith) (omega arith)

le_or_lt : (j i : ℕ) → (j ≤ i) ⊎ (i < j)
le_or_lt zero i = inl (omega arith)
le_or_lt (suc j) zero = inr (omega arith)
le_or_lt (suc j) (suc i) = ⊎_elim (λ l. inl (omega arith)) (λ l. inr (omega arith)) (le_or_lt j i)

-- where the target's other entries are those that the list held, it is filled
pub filled_done : (target held : List ℕ) (j : ℕ) → length target ≡ length held
    → ((i : ℕ) → j ≤ i → get_or target i 0 ≡ get_or held i 0)
    → filled target held j ≡ target
filled_done target held j e same =
    ext_get_or 0 (filled target held j) target (length_filled target held j e ∙ sym e) (λ i h. at i (le_or_lt j i))
  where
    at : (i : ℕ) → (j ≤ i) ⊎ (i < j) → get_or (filled target held j) i 0 ≡ get_or target i 0
    at i (inl l) = filled_rest target held j i l e ∙ sym (same i l)
    at i (inr l) = filled_get_or target held j i l e

pub filled_all : (target held : List ℕ) (j : ℕ) → length held ≤ j → length target ≡ length held
    → filled target held j ≡ target
filled_all target held j h e =
    filled_done target held j e
    (λ i l. get_or-eq_default target 0 (omega arith) ∙ sym (get_or-eq_default held 0 (le_trans h l)))

-- it is filled as far as its end where more is asked
pub filled_within : (target held : List ℕ) (j k : ℕ) → length target ≡ length held → j ≡ min (length held) k
    → filled target held j ≡ filled target held k
filled_within target held j k e h = by (le_or_lt (length held) k)
  where
    by : (length held ≤ k) ⊎ (k < length held) → filled target held j ≡ filled target held k
    by (inl l) = filled_all target held j (omega arith) e ∙ sym (filled_all target held k l e)
    by (inr l) = ap (filled target held) (omega arith)

-- a part of a list that is being filled, and the list with the target's part in its place
module _ (target held : List ℕ) (p n : ℕ) (same : length target ≡ length held) (inside : p + n ≤ length held) where
  taken : length (take p target) ≡ p
  taken = length-take-le p target (omega arith)

  pub part_held : mid_of p n (filled target held p) ≡ take n (drop p held)
  unfolding filled
  part_held = ap (take n) (drop_at (take p target) (drop p held) p taken)

  pub part_filled : put_mid p n (filled target held p) (take n (drop p target)) ≡ filled target held (p + n)
  unfolding filled
  part_filled =
      ap₂ (λ (x y : List ℕ). x ++ (take n (drop p target) ++ drop n y)) (take_at (take p target)
      (drop p held) p taken)
      (drop_at (take p target) (drop p held) p taken)
      ∙ sym (append_assoc (take p target) (take n (drop p target)) (drop n (drop p held)))
      ∙ ap₂ (λ (x y : List ℕ). x ++ y) (sym (take-add p n target)) (drop-drop n p held)

-- the same where the target is that of f, entry by entry
pub mapped_next : (f : ℕ → ℕ) (held now changed : List ℕ) (at end : ℕ) → at ≤ end → end ≤ length held
    → now ≡ filled (map f held) held at → changed ≡ map f (mid_of at (end - at) now)
    → put_mid at (end - at) now changed ≡ filled (map f held) held end
mapped_next f held now changed at end up inside inv e =
    ap₂ (put_mid at (end - at)) inv
    (e ∙ ap (λ (l : List ℕ). map f (mid_of at (end - at) l)) inv
    ∙ ap (map f) (part_held (map f held) held at (end - at) (length-map held f) (omega arith))
    ∙ map-take f (end - at) (drop at held) ∙ ap (take (end - at)) (map-drop f at held))
    ∙ part_filled (map f held) held at (end - at) (length-map held f) (omega arith)
    ∙ ap (filled (map f held) held) (omega arith)

-- ---- zeros at the end

get_or_followed : (p : List ℕ) (n i : ℕ) → get_or (p ++ replicate n 0) i 0 ≡ get_or p i 0
get_or_followed [] n i = get_or_replicated n i 0
get_or_followed (a ∷ p) n zero = refl
get_or_followed (a ∷ p) n (suc i) = get_or_followed p n i

pub get_or-padded : (n : ℕ) (p : List ℕ) (i : ℕ) → get_or (padded gf64 n p) i 0 ≡ get_or p i 0
unfolding padded
get_or-padded n p i = get_or_followed p (n - length p) i

-- a list of zeros in which p is filled in
pub filled_padded : (n : ℕ) (p : List ℕ) (j : ℕ) → length p ≤ j → length p ≤ n
    → filled (padded gf64 n p) (replicate n 0) j ≡ padded gf64 n p
filled_padded n p j h l =
    filled_done (padded gf64 n p) (replicate n 0) j (length-padded gf64 n p l ∙ sym (length-replicate n 0))
    (λ i k. get_or-padded n p i ∙ get_or-eq_default p 0 (le_trans h k) ∙ sym (get_or_replicated n i 0))

pub take-padded : (n : ℕ) (p : List ℕ) → take (length p) (padded gf64 n p) ≡ p
unfolding padded
take-padded n p = take-append_seam p (replicate (n - length p) 0)

-- the entries before the zeros
pub padded_taken : (n m : ℕ) (p held : List ℕ) → held ≡ padded gf64 n p → length p ≡ m → take m held ≡ p
padded_taken n m p held e l = ap₂ take (sym l) e ∙ take-padded n p

pub padded_next : (n : ℕ) (p : List ℕ) (j v : ℕ) → j < length p → length p ≤ n → v ≡ get_or p j 0
    → set (filled (padded gf64 n p) (replicate n 0) j) j v ≡ filled (padded gf64 n p) (replicate n 0) (j + 1)
padded_next n p j v h l e =
    filled_next (padded gf64 n p) (replicate n 0) j v (omega (arith, length-replicate {A = ℕ} n 0))
    (length-padded gf64 n p l ∙ sym (length-replicate n 0)) (e ∙ sym (get_or-padded n p j))

drop_zeros : (m n l : ℕ) → n - m ≡ l → drop m (replicate {A = ℕ} n 0) ≡ replicate l 0
drop_zeros zero n l e = let same : n ≡ l = omega arith in ap (λ (x : ℕ). replicate x 0) same
drop_zeros (suc m) zero l e = let none : 0 ≡ l = omega arith in ap (λ (x : ℕ). replicate x 0) none
drop_zeros (suc m) (suc n) l e = drop_zeros m n l (omega arith)

-- a list in the front of zeros
pub padded_front : (n : ℕ) (front : List ℕ) → front ++ drop (length front) (replicate n 0) ≡ padded gf64 n front
unfolding padded
padded_front n front = ap {B = List ℕ} (λ l. front ++ l) (drop_zeros (length front) n (n - length front) refl)

pub padded_mapped : (n : ℕ) (f : ℕ → ℕ) (l : List ℕ)
    → map f l ++ drop (length l) (replicate n 0) ≡ padded gf64 n (map f l)
padded_mapped n f l =
    ap (λ (m : ℕ). map f l ++ drop m (replicate n 0)) (sym (length-map l f)) ∙ padded_front n (map f l)

-- ---- the front of a list that may be longer

length_front : (front held : List ℕ) → length front ≤ length held
    → length (front ++ drop (length front) held) ≡ length held
length_front front held h =
    length-append front (drop (length front) held) ∙ omega (arith, length-drop (length front) held)

pub front_next : (front held : List ℕ) (i v : ℕ) → i < length front → length front ≤ length held → v ≡ get_or front i 0
    → set (filled (front ++ drop (length front) held) held i) i v
    ≡ filled (front ++ drop (length front) held) held (i + 1)
front_next front held i v h l e =
    filled_next (front ++ drop (length front) held) held i v (omega arith) (length_front front held l)
    (e ∙ sym (get_or-append front (drop (length front) held) 0 i h))

pub front_taken : (front held : List ℕ) (i : ℕ) → i ≤ length front → length front ≤ length held
    → take i (filled (front ++ drop (length front) held) held i) ≡ take i front
front_taken front held i h l =
    take_filled (front ++ drop (length front) held) held i (omega (arith, length_front front held l))
    ∙ take-append-le i front (drop (length front) held) h

pub front_done : (front held : List ℕ) (i : ℕ) → length front ≤ i → length front ≤ length held
    → filled (front ++ drop (length front) held) held i ≡ front ++ drop (length front) held
front_done front held i h l =
    filled_done (front ++ drop (length front) held) held i (length_front front held l) (λ n k. at n (le_trans h k))
  where
    at : (n : ℕ) → length front ≤ n → get_or (front ++ drop (length front) held) n 0 ≡ get_or held n 0
    at n k =
        ap (λ (m : ℕ). get_or (front ++ drop (length front) held) m 0) (sym whole)
        ∙ get_or-append-add front (drop (length front) held) (n - length front) 0
        ∙ get_or-drop (length front) held (n - length front) 0 ∙ ap (λ (m : ℕ). get_or held m 0) whole
      where
        whole : length front + (n - length front) ≡ n
        whole = omega arith

pub front_whole : (front held : List ℕ) → length held ≤ length front → front ++ drop (length front) held ≡ front
front_whole front held h = ap {B = List ℕ} (λ l. front ++ l) (drop_of_length-le held h) ∙ append-nil front
