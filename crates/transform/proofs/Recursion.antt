-- The recursions as the code goes: on halves of a slice of known length. Assumes nothing.
use mathlib.Core.Path.{◌≡◌, refl, sym, ap, ap₂, ◌∙◌, subst}
use mathlib.Core.List.{List, [], ◌∷◌, ◌++◌}
use mathlib.Core.Logic.{◌⊎◌, inl, inr, ⊎_elim}
use Prim.Native.Nat.{ℕ, zero, suc, ◌+◌, ◌-◌, ◌/◌, ◌%◌, ◌^◌, ◌≤◌, ◌<◌}
use native.Mathlib.Nat.{le_of_eq, le_of_lt, le_trans}
use native.Mathlib.Omega.{arith}
use lib.Pow.{pow_mono}
use lib.ListN.{length, get_or, take, drop, length-drop, drop_of_length-le, take-append-drop}
use lib.Seq.{take_at, drop_at, length-take-le}
use lib.Bits.{xor_zero_r}
use borrow.Rule.Slice.PartMut.{mid_of, put_mid}
use Rattle.gf64.specs.Field.{sum, product}
use Rattle.gf64.proofs.Ring.{product-zero_r}
use Rattle.poly.specs.Carrier.{gf64}
use Rattle.poly.specs.Polynomial.{Zeros, DegreeBelow, plus, scale}
use Rattle.poly.proofs.Entries.{all_take, all_drop}
use Rattle.transform.specs.Transform.{second_added, first_added, quarters, quarters_back, on_part}
use Rattle.transform.specs.Transform.{regrouped, regrouped_back, split_in_halves, joined_from_halves}

-- ---- lengths

pub half_power : (n l : ℕ) → 0 < n → l ≡ 2 ^ n → l / 2 ≡ 2 ^ (n - 1)
half_power zero l h e = absurd (omega arith)
half_power (suc n) l h e = by l n e ∙ ap (λ (m : ℕ). 2 ^ m) less
  where
    by : (l n : ℕ) → l ≡ 2 ^ suc n → l / 2 ≡ 2 ^ n
    by l n e = omega arith

    less : n ≡ suc n - 1
    less = omega arith

-- ---- regrouping

pub regrouped_few : (lower upper : ℕ) (s : List ℕ) → upper < 2 → s ≡ regrouped lower upper s
unfolding regrouped
regrouped_few lower zero s h = refl
regrouped_few lower (suc zero) s h = refl
regrouped_few lower (suc (suc upper)) s h = absurd (omega arith)

pub regrouped_back_few : (lower upper : ℕ) (s : List ℕ) → upper < 2 → s ≡ regrouped_back lower upper s
unfolding regrouped_back
regrouped_back_few lower zero s h = refl
regrouped_back_few lower (suc zero) s h = refl
regrouped_back_few lower (suc (suc upper)) s h = absurd (omega arith)

-- 2^(upper + lower) entries in quarters and halves
quarter_of : (upper lower l : ℕ) → l ≡ 2 ^ (suc (suc upper) + lower) → l / 4 ≡ 2 ^ (upper + lower)
quarter_of upper lower l e = by (upper + lower) (e ∙ ap (λ (n : ℕ). 2 ^ n) (omega arith))
  where
    by : (n : ℕ) → l ≡ 2 ^ suc (suc n) → l / 4 ≡ 2 ^ n
    by n e = omega arith

half_of : (upper lower l : ℕ) → l ≡ 2 ^ (suc (suc upper) + lower) → l / 2 ≡ 2 ^ (suc upper + lower)
half_of upper lower l e = by (suc upper + lower) (e ∙ ap (λ (n : ℕ). 2 ^ n) (omega arith))
  where
    by : (n : ℕ) → l ≡ 2 ^ suc n → l / 2 ≡ 2 ^ n
    by n e = omega arith

-- what the code asks of the lengths
pub four_divides : (lower upper : ℕ) (l : ℕ) → 2 ≤ upper → l ≡ 2 ^ (upper + lower) → l % 4 ≡ 0
four_divides lower zero l h e = absurd (omega arith)
four_divides lower (suc zero) l h e = absurd (omega arith)
four_divides lower (suc (suc upper)) l h e = by (upper + lower) (e ∙ ap (λ (n : ℕ). 2 ^ n) (omega arith))
  where
    by : (n : ℕ) → l ≡ 2 ^ suc (suc n) → l % 4 ≡ 0
    by n e = omega arith

pub half_length : (lower upper : ℕ) (l : ℕ) → 2 ≤ upper → l ≡ 2 ^ (upper + lower) → l / 2 ≡ 2 ^ (upper - 1 + lower)
half_length lower zero l h e = absurd (omega arith)
half_length lower (suc zero) l h e = absurd (omega arith)
half_length lower (suc (suc upper)) l h e = half_of upper lower l e ∙ ap (λ (n : ℕ). 2 ^ (n + lower)) less
  where
    less : suc upper ≡ suc (suc upper) - 1
    less = omega arith

pub even_length : (lower upper : ℕ) (l : ℕ) → 2 ≤ upper → l ≡ 2 ^ (upper + lower) → l ≡ l / 2 + l / 2
even_length lower upper l h e = omega (arith, four_divides lower upper l h e)

pub regrouped_next : (lower upper : ℕ) (s : List ℕ) → 2 ≤ upper → length s ≡ 2 ^ (upper + lower)
    → let half = length s / 2 in
    let t = quarters (length s / 4) s in
    regrouped lower (upper - 1) (take half t) ++ regrouped lower (upper - 1) (drop half t) ≡ regrouped lower upper s
unfolding regrouped
regrouped_next lower zero s h e = absurd (omega arith)
regrouped_next lower (suc zero) s h e = absurd (omega arith)
regrouped_next lower (suc (suc upper)) s h e =
    ap (λ (n : ℕ). regrouped lower n (take (length s / 2) (quarters (length s / 4) s))
    ++ regrouped lower n (drop (length s / 2) (quarters (length s / 4) s))) less
    ∙ ap₂ (λ (m q : ℕ). regrouped lower (suc upper) (take m (quarters q s))
    ++ regrouped lower (suc upper) (drop m (quarters q s))) (half_of upper lower (length s) e)
    (quarter_of upper lower (length s) e)
  where
    less : suc (suc upper) - 1 ≡ suc upper
    less = omega arith

pub regrouped_back_next : (lower upper : ℕ) (s : List ℕ) → 2 ≤ upper → length s ≡ 2 ^ (upper + lower)
    → let half = length s / 2 in
    quarters_back (length s / 4)
    (regrouped_back lower (upper - 1) (take half s) ++ regrouped_back lower (upper - 1) (drop half s))
    ≡ regrouped_back lower upper s
unfolding regrouped_back
regrouped_back_next lower zero s h e = absurd (omega arith)
regrouped_back_next lower (suc zero) s h e = absurd (omega arith)
regrouped_back_next lower (suc (suc upper)) s h e =
    ap (λ (n : ℕ). quarters_back (length s / 4)
    (regrouped_back lower n (take (length s / 2) s) ++ regrouped_back lower n (drop (length s / 2) s))) less
    ∙ ap₂ (λ (m q : ℕ). quarters_back q
    (regrouped_back lower (suc upper) (take m s) ++ regrouped_back lower (suc upper) (drop m s)))
    (half_of upper lower (length s) e) (quarter_of upper lower (length s) e)
  where
    less : suc (suc upper) - 1 ≡ suc upper
    less = omega arith

-- ---- splitting and joining

pub split_none : (z : ℕ → ℕ → ℕ) (basis : List ℕ) (n offset : ℕ) (s : List ℕ) → n ≡ 0
    → s ≡ split_in_halves z basis n offset s
unfolding split_in_halves
split_none z basis zero offset s h = refl
split_none z basis (suc n) offset s h = absurd (omega arith)

pub join_none : (z : ℕ → ℕ → ℕ) (basis : List ℕ) (n offset : ℕ) (s : List ℕ) → n ≡ 0
    → s ≡ joined_from_halves z basis n offset s
unfolding joined_from_halves
join_none z basis zero offset s h = refl
join_none z basis (suc n) offset s h = absurd (omega arith)

pub two_of_power : (n l : ℕ) → 0 < n → l ≡ 2 ^ n → l ≡ 2 ^ (n - 1) + 2 ^ (n - 1)
two_of_power zero l h e = absurd (omega arith)
two_of_power (suc n) l h e = by l n e ∙ ap (λ (m : ℕ). 2 ^ m + 2 ^ m) less
  where
    by : (l n : ℕ) → l ≡ 2 ^ suc n → l ≡ 2 ^ n + 2 ^ n
    by l n e = omega arith

    less : n ≡ suc n - 1
    less = omega arith

pub split_next : (z : ℕ → ℕ → ℕ) (basis : List ℕ) (n offset half : ℕ) (s : List ℕ) → 0 < n → half ≡ 2 ^ (n - 1)
    → let t = first_added (2 ^ (n - 1)) (second_added (z (n - 1) offset) (2 ^ (n - 1)) s) in
    split_in_halves z basis (n - 1) offset (take half t)
    ++ split_in_halves z basis (n - 1) (sum offset (get_or basis (n - 1) 0)) (drop half t)
    ≡ split_in_halves z basis n offset s
unfolding split_in_halves
split_next z basis zero offset half s h e = absurd (omega arith)
split_next z basis (suc n) offset half s h e =
    ap (at half) less ∙ ap (λ (m : ℕ). at m n) (e ∙ ap (λ (j : ℕ). 2 ^ j) less)
  where
    at : (m j : ℕ) → List ℕ
    at m j =
        split_in_halves z basis j offset (take m (first_added (2 ^ j) (second_added (z j offset) (2 ^ j) s)))
        ++ split_in_halves z basis j (sum offset (get_or basis j 0))
        (drop m (first_added (2 ^ j) (second_added (z j offset) (2 ^ j) s)))

    less : suc n - 1 ≡ n
    less = omega arith

pub join_next : (z : ℕ → ℕ → ℕ) (basis : List ℕ) (n offset half : ℕ) (s : List ℕ) → 0 < n → half ≡ 2 ^ (n - 1)
    → second_added (z (n - 1) offset) (2 ^ (n - 1)) (first_added (2 ^ (n - 1))
    (joined_from_halves z basis (n - 1) offset (take half s)
    ++ joined_from_halves z basis (n - 1) (sum offset (get_or basis (n - 1) 0)) (drop half s)))
    ≡ joined_from_halves z basis n offset s
unfolding joined_from_halves
join_next z basis zero offset half s h e = absurd (omega arith)
join_next z basis (suc n) offset half s h e =
    ap (at half) less ∙ ap (λ (m : ℕ). at m n) (e ∙ ap (λ (j : ℕ). 2 ^ j) less)
  where
    at : (m j : ℕ) → List ℕ
    at m j =
        second_added (z j offset) (2 ^ j) (first_added (2 ^ j)
        (joined_from_halves z basis j offset (take m s)
        ++ joined_from_halves z basis j (sum offset (get_or basis j 0)) (drop m s)))

    less : suc n - 1 ≡ n
    less = omega arith

-- ---- where the second half is zero

le_or_lt : (j i : ℕ) → (j ≤ i) ⊎ (i < j)
le_or_lt zero i = inl (omega arith)
le_or_lt (suc j) zero = inr (omega arith)
le_or_lt (suc j) (suc i) = ⊎_elim (λ l. inl (omega arith)) (λ l. inr (omega arith)) (le_or_lt j i)

plus_zeros : (a z : List ℕ) → Zeros gf64 z → length z ≡ length a → plus gf64 a z ≡ a
unfolding plus
plus_zeros [] [] h e = refl
plus_zeros [] (c ∷ z) h e = absurd (omega arith)
plus_zeros (x ∷ a) [] h e = absurd (omega arith)
plus_zeros (x ∷ a) (c ∷ z) h e =
    ap₂ (λ (b : ℕ) (l : List ℕ). b ∷ l) (ap (sum x) h.0 ∙ xor_zero_r x) (plus_zeros a z h.1 (omega arith))

scale_zeros : (c : ℕ) (z : List ℕ) → Zeros gf64 z → scale gf64 c z ≡ z
unfolding scale
scale_zeros c [] h = refl
scale_zeros c (x ∷ z) h =
    ap₂ (λ (b : ℕ) (l : List ℕ). b ∷ l) (ap (product c) h.0 ∙ product-zero_r c
    ∙ sym h.0) (scale_zeros c z h.1)

-- nothing from 2^used on, and 2^n or more
below_half : (used n : ℕ) (s : List ℕ) → used ≤ n → DegreeBelow gf64 (2 ^ used) s → Zeros gf64 (drop (2 ^ n) s)
below_half used n s h z = later (2 ^ used) (2 ^ n) s (pow_mono h) z
  where
    later : (i j : ℕ) (l : List ℕ) → i ≤ j → Zeros gf64 (drop i l) → Zeros gf64 (drop j l)
    later zero j l le z = all_drop (λ c. c ≡ 0) j l z
    later (suc i) zero l le z = absurd (omega arith)
    later (suc i) (suc j) [] le z = record {}
    later (suc i) (suc j) (x ∷ l) le z = later i j l (omega arith) z

pub second_none : (used n c : ℕ) (s : List ℕ) → used ≤ n → DegreeBelow gf64 (2 ^ used) s
    → length s ≡ 2 ^ n + 2 ^ n → second_added c (2 ^ n) s ≡ s
unfolding second_added
second_none used n c s h z e =
    ap (λ (l : List ℕ). plus gf64 (take (2 ^ n) s) l ++ drop (2 ^ n) s) (scale_zeros c (drop (2 ^ n) s) nothing)
    ∙ ap (λ (l : List ℕ). l ++ drop (2 ^ n) s) (plus_zeros (take (2 ^ n) s) (drop (2 ^ n) s) nothing
    (length-drop (2 ^ n) s ∙ omega (arith, length-take-le (2 ^ n) s (omega arith))))
    ∙ take-append-drop (2 ^ n) s
  where
    nothing : Zeros gf64 (drop (2 ^ n) s)
    nothing = below_half used n s h z

-- the entries from 2^used on stay zero in both halves
short_below : (n used : ℕ) (l : List ℕ) → n ≤ used → length l ≡ 2 ^ n → DegreeBelow gf64 (2 ^ used) l
short_below n used l h e =
    subst (λ (r : List ℕ). Zeros gf64 r) (sym (drop_of_length-le l (le_trans (le_of_eq e) (pow_mono h)))) (record {})

below_taken : (i m : ℕ) (l : List ℕ) → Zeros gf64 (drop i l) → Zeros gf64 (drop i (take m l))
below_taken zero m l z = all_take (λ c. c ≡ 0) m l z
below_taken (suc i) zero l z = record {}
below_taken (suc i) (suc m) [] z = record {}
below_taken (suc i) (suc m) (x ∷ l) z = below_taken i m l z

module _ (used n c half : ℕ) (s t : List ℕ) (at : half ≡ 2 ^ n) (counted : length s ≡ 2 ^ n + 2 ^ n)
    (below : DegreeBelow gf64 (2 ^ used) s)
    (stepped : t ≡ first_added (2 ^ n) (second_added c (2 ^ n) s)) (same : length t ≡ length s) where
  a : List ℕ
  a = take (2 ^ n) s

  copied : used ≤ n → t ≡ a ++ a
  unfolding first_added a
  copied h =
      stepped ∙ ap (first_added (2 ^ n)) (second_none used n c s h below counted)
      ∙ ap (λ (l : List ℕ). a ++ l)
      (plus_zeros a (drop (2 ^ n) s) (below_half used n s h below)
      (length-drop (2 ^ n) s ∙ omega (arith, length-take-le (2 ^ n) s (omega arith))))

  length_a : length a ≡ 2 ^ n
  unfolding a
  length_a = length-take-le (2 ^ n) s (omega arith)

  pub first_below : DegreeBelow gf64 (2 ^ used) (take half t)
  unfolding a
  first_below = ⊎_elim
      (λ h. subst (λ (l : List ℕ). DegreeBelow gf64 (2 ^ used) l)
      (sym (ap₂ take at (copied h) ∙ take_at a a (2 ^ n) length_a)) (below_taken (2 ^ used) (2 ^ n) s below))
      (λ h. short_below n used (take half t) (le_of_lt h)
      (ap (λ (m : ℕ). length (take m t)) at ∙ length-take-le (2 ^ n) t (omega arith)))
      (le_or_lt used n)

  pub second_below : DegreeBelow gf64 (2 ^ used) (drop half t)
  unfolding a
  second_below = ⊎_elim
      (λ h. subst (λ (l : List ℕ). DegreeBelow gf64 (2 ^ used) l)
      (sym (ap₂ drop at (copied h) ∙ drop_at a a (2 ^ n) length_a)) (below_taken (2 ^ used) (2 ^ n) s below))
      (λ h. short_below n used (drop half t) (le_of_lt h)
      (ap (λ (m : ℕ). length (drop m t)) at ∙ length-drop (2 ^ n) t ∙ omega arith))
      (le_or_lt used n)

-- ---- quarters, part by part

-- a lent part whose first half got the second one added
pub part_put : (p q n : ℕ) (s changed : List ℕ) → n ≡ q + q → p + (q + q) ≤ length s
    → changed ≡ second_added 1 (length (mid_of p n s) / 2) (mid_of p n s)
    → put_mid p n s changed ≡ on_part p (q + q) (second_added 1 q) s
unfolding on_part
part_put p q n s changed e h r =
    ap (λ (l : List ℕ). take p s ++ (l ++ drop n (drop p s))) r
    ∙ ap (λ (m : ℕ). take p s
    ++ (second_added 1 (length (take m (drop p s)) / 2) (take m (drop p s)) ++ drop m (drop p s))) e
    ∙ ap (λ (m : ℕ). take p s ++ (second_added 1 m (take (q + q) (drop p s)) ++ drop (q + q) (drop p s))) halved
  where
    inside : q + q ≤ length (drop p s)
    inside = omega (arith, length-drop p s)

    halved : length (take (q + q) (drop p s)) / 2 ≡ q
    halved = omega (arith, length-take-le (q + q) (drop p s) inside)

pub part_length : (p q n : ℕ) (s : List ℕ) → n ≡ q + q → p + (q + q) ≤ length s → length (mid_of p n s) % 2 ≡ 0
part_length p q n s e h =
    ap (λ (m : ℕ). length (take m (drop p s)) % 2) e
    ∙ omega (arith, length-take-le (q + q) (drop p s) (omega (arith, length-drop p s)))
