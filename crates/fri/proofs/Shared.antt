-- Queries that share a first-layer coset: the place that is told is the first one, and none is told exactly where no
-- two share one. Assumes nothing.
use mathlib.Core.Path.{◌≡◌, refl, sym, ap, ◌∙◌, subst}
use mathlib.Core.Logic.{◌≢◌, ◌⊎◌, inl, inr, ◌↔◌}
use mathlib.Core.Bool.{Bool, true, false, cond, ◌||◌}
use mathlib.Core.List.{List, [], ◌∷◌, ◌++◌, append_assoc, append-nil}
use Prim.Native.Nat.{ℕ, zero, suc, ◌+◌, ◌-◌, ◌/◌, ◌^◌, ◌≤◌, ◌<◌}
use native.Mathlib.Nat.{add-zero, add-suc, suc-add, sub-add_cancel, eq-or-lt_of_le, le_of_suc-le-suc}
use native.Mathlib.Omega.{arith}
use lib.Dec.{eqb}
use lib.ListN.{length, get_or, take, length-map, get_or-map}
use lib.Seq.{get_or-take, length-take-le}
use lib.Pow.{shr_lt}
use borrow.Author.Tests.{eq-eqb, ne_eqb}
use Rattle.poly.specs.Polynomial.{All, Distinct}
use Rattle.poly.proofs.Entries.{all_append}
use Rattle.std.specs.Prelude.{Option, Some, None}
use Rattle.refusal.proofs.Checks.{equal_of_test}
use Rattle.fri.specs.Checks.{among, first_repeated_after, visited_cosets, first_shared}
use Rattle.fri.specs.Demand.{ValidQueries, Apart}

-- ---- one of the entries, or none

-- x is entry t of the list
abbrev Entry : List ℕ → ℕ → ℕ → Type 0
Entry ys x d = (t : ℕ) × (t < length ys) × (get_or ys t d ≡ x)

entry_step : (y x d : ℕ) (ys : List ℕ) (test : Bool) → eqb y x ≡ test → (among ys x ≡ true → Entry ys x d)
    → (test || among ys x) ≡ true → Entry (y ∷ ys) x d
entry_step y x d ys true same rest e = (0, omega arith, equal_of_test y x same)
entry_step y x d ys false same rest e = let (t, l, f) = rest e in (suc t, omega arith, f)

entry_of : (ys : List ℕ) (x d : ℕ) → among ys x ≡ true → Entry ys x d
unfolding among
entry_of [] x d e = absurd (let impossible : ◌≡◌ {A = ℕ} 0 1 = cc in omega arith)
entry_of (y ∷ ys) x d e = entry_step y x d ys (eqb y x) refl (entry_of ys x d) e

other_step : (y x : ℕ) (ys : List ℕ) (test : Bool) → eqb y x ≡ test → (test || among ys x) ≡ false
    → (x ≢ y) × (among ys x ≡ false)
other_step y x ys true same e = absurd (let impossible : ◌≡◌ {A = ℕ} 0 1 = cc in omega arith)
other_step y x ys false same e = (differ, e)
  where
    differ : x ≢ y
    differ q =
        let one : eqb y x ≡ true = eq-eqb y x (sym q) in
        let impossible : ◌≡◌ {A = ℕ} 0 1 = cc in
        omega arith

-- a new entry at the end
distinct_more : (ys : List ℕ) (x : ℕ) → Distinct ys → among ys x ≡ false → Distinct (ys ++ (x ∷ []))
unfolding among
distinct_more [] x d e = (record {}, record {})
distinct_more (y ∷ ys) x d e =
    let both = other_step y x ys (eqb y x) refl e in (
      all_append (λ z. z ≢ y) ys (x ∷ []) d.0 (both.0, record {}),
      distinct_more ys x d.1 both.1,
    )

-- entries at different places differ
distinct_places : (xs : List ℕ) (d : ℕ) → Distinct xs → (t u : ℕ) → t < u → u < length xs
    → get_or xs t d ≢ get_or xs u d
distinct_places [] d h t u l m = absurd (omega arith)
distinct_places (x ∷ xs) d h t zero l m = absurd (omega arith)
distinct_places (x ∷ xs) d h zero (suc u) l m = λ e. first xs u h.0 (omega arith) (sym e)
  where
    first : (ys : List ℕ) (v : ℕ) → All (λ y. y ≢ x) ys → v < length ys → get_or ys v d ≢ x
    first [] v a b = absurd (omega arith)
    first (y ∷ ys) zero a b = a.0
    first (y ∷ ys) (suc v) a b = first ys v a.1 (omega arith)
distinct_places (x ∷ xs) d h (suc t) (suc u) l m = distinct_places xs d h.1 t u (omega arith) (omega arith)

-- ---- different numbers below n are at most n

-- the entries other than n
without : ℕ → List ℕ → List ℕ
without n [] = []
without n (x ∷ xs) = cond (eqb x n) (without n xs) (x ∷ without n xs)

module _ (n : ℕ) where
  without_none : (xs : List ℕ) → All (λ y. y ≢ n) xs → without n xs ≡ xs
  unfolding without
  without_none [] h = refl
  without_none (x ∷ xs) h =
      ap (λ (t : Bool). cond t (without n xs) (x ∷ without n xs)) (ne_eqb x n h.0)
      ∙ ap (λ (ys : List ℕ). x ∷ ys) (without_none xs h.1)

  all_step : (P : ℕ → Type 0) (x : ℕ) (ys : List ℕ) (test : Bool) → P x → All P ys → All P (cond test ys (x ∷ ys))
  all_step P x ys true p h = h
  all_step P x ys false p h = (p, h)

  all_without : (P : ℕ → Type 0) (xs : List ℕ) → All P xs → All P (without n xs)
  unfolding without
  all_without P [] h = record {}
  all_without P (x ∷ xs) h = all_step P x (without n xs) (eqb x n) h.0 (all_without P xs h.1)

  distinct_step : (x : ℕ) (ys : List ℕ) (test : Bool) → All (λ y. y ≢ x) ys → Distinct ys
      → Distinct (cond test ys (x ∷ ys))
  distinct_step x ys true o d = d
  distinct_step x ys false o d = (o, d)

  distinct_without : (xs : List ℕ) → Distinct xs → Distinct (without n xs)
  unfolding without
  distinct_without [] d = record {}
  distinct_without (x ∷ xs) d =
      distinct_step x (without n xs) (eqb x n) (all_without (λ y. y ≢ x) xs d.0) (distinct_without xs d.1)

  below_step : (x : ℕ) (ys : List ℕ) (test : Bool) → eqb x n ≡ test → x < suc n → All (λ y. y < n) ys
      → All (λ y. y < n) (cond test ys (x ∷ ys))
  below_step x ys true e l h = h
  below_step x ys false e l h = (by (eq-or-lt_of_le (le_of_suc-le-suc l)), h)
    where
      by : (x ≡ n) ⊎ (x < n) → x < n
      by (inl same) =
          let one : eqb x n ≡ true = eq-eqb x n same in
          let impossible : ◌≡◌ {A = ℕ} 0 1 = cc in
          absurd (omega arith)
      by (inr less) = less

  below_without : (xs : List ℕ) → All (λ y. y < suc n) xs → All (λ y. y < n) (without n xs)
  unfolding without
  below_without [] h = record {}
  below_without (x ∷ xs) h = below_step x (without n xs) (eqb x n) refl h.0 (below_without xs h.1)

  length_step : (x : ℕ) (xs : List ℕ) (test : Bool) → eqb x n ≡ test → All (λ y. y ≢ x) xs
      → length xs ≤ suc (length (without n xs))
      → suc (length xs) ≤ suc (length (cond test (without n xs) (x ∷ without n xs)))
  length_step x xs true e o h =
      let others = subst (λ (m : ℕ). All (λ y. y ≢ m) xs) (equal_of_test x n e) o in
      omega (arith, ap length (without_none xs others))
  length_step x xs false e o h = omega arith

  length_without : (xs : List ℕ) → Distinct xs → length xs ≤ suc (length (without n xs))
  unfolding without
  length_without [] d = omega arith
  length_without (x ∷ xs) d = length_step x xs (eqb x n) refl d.0 (length_without xs d.1)

few_distinct : (n : ℕ) (xs : List ℕ) → Distinct xs → All (λ y. y < n) xs → length xs ≤ n
few_distinct zero [] d h = omega arith
few_distinct zero (x ∷ xs) d h = absurd (omega (arith, h.0))
few_distinct (suc n) xs d h =
    let rest = few_distinct n (without n xs) (distinct_without n xs d) (below_without n xs h) in
    omega (arith, length_without n xs d)

-- ---- what the first repeated entry tells

abbrev Told : ℕ → List ℕ → List ℕ → ℕ → Option ℕ → Type 0
Told d earlier xs place None = Distinct (earlier ++ xs)
Told d earlier xs place (Some query) =
    (t : ℕ) × (query ≡ place + t) × (t < length xs) × (among (earlier ++ take t xs) (get_or xs t d) ≡ true)
    × Distinct (earlier ++ take t xs)

one_more : (d : ℕ) (earlier : List ℕ) (x : ℕ) (xs : List ℕ) (place : ℕ) (p : Option ℕ)
    → Told d (earlier ++ (x ∷ [])) xs (suc place) p → Told d earlier (x ∷ xs) place p
one_more d earlier x xs place None told = subst Distinct (append_assoc earlier (x ∷ []) xs) told
one_more d earlier x xs place (Some query) (t, e, l, a, before) = (
  suc t,
  e ∙ suc-add place t ∙ sym (add-suc place t),
  omega arith,
  subst (λ (ys : List ℕ). among ys (get_or xs t d) ≡ true) (append_assoc earlier (x ∷ []) (take t xs)) a,
  subst Distinct (append_assoc earlier (x ∷ []) (take t xs)) before,
)

told_step : (d : ℕ) (earlier : List ℕ) (x : ℕ) (xs : List ℕ) (place : ℕ) (rest : Option ℕ) → Distinct earlier
    → (Distinct (earlier ++ (x ∷ [])) → Told d (earlier ++ (x ∷ [])) xs (suc place) rest)
    → (test : Bool) → among earlier x ≡ test → Told d earlier (x ∷ xs) place (cond test (Some place) rest)
told_step d earlier x xs place rest h next true e =
    let none : earlier ≡ earlier ++ [] = sym (append-nil earlier) in (
      0,
      sym (add-zero place),
      omega arith,
      subst (λ (ys : List ℕ). among ys x ≡ true) none e,
      subst Distinct none h,
    )
told_step d earlier x xs place rest h next false e =
    one_more d earlier x xs place rest (next (distinct_more earlier x h e))

told_of : (d : ℕ) (earlier xs : List ℕ) (place : ℕ) → Distinct earlier
    → Told d earlier xs place (first_repeated_after earlier xs place)
unfolding first_repeated_after
told_of d earlier [] place h = subst Distinct (sym (append-nil earlier)) h
told_of d earlier (x ∷ xs) place h =
    told_step d earlier x xs place (first_repeated_after (earlier ++ (x ∷ [])) xs (suc place)) h
    (told_of d (earlier ++ (x ∷ [])) xs (suc place)) (among earlier x) refl

-- ---- of queries

module _ (first : ℕ) (queries : List ℕ) where
  abbrev cosets : List ℕ
  cosets = visited_cosets first queries

  abbrev coset_of : ℕ → ℕ
  coset_of t = get_or queries t 0 / 2 ^ first

  coset_at : (t : ℕ) → get_or cosets t (0 / 2 ^ first) ≡ coset_of t
  coset_at t = get_or-map (λ (j : ℕ). j / 2 ^ first) queries t 0

  told : (p : Option ℕ) → first_shared first queries ≡ p → Told (0 / 2 ^ first) [] cosets 0 p
  unfolding first_shared
  told p e = subst (Told (0 / 2 ^ first) [] cosets 0) e (told_of (0 / 2 ^ first) [] cosets 0 (record {}))

  module _ (query : ℕ) (e : first_shared first queries ≡ Some query) where
    -- the place counted from 0
    at_query : (query < length cosets) × (among (take query cosets) (get_or cosets query (0 / 2 ^ first)) ≡ true)
        × Distinct (take query cosets)
    at_query = by (told (Some query) e)
      where
        by : Told (0 / 2 ^ first) [] cosets 0 (Some query)
            → (query < length cosets)
            × (among (take query cosets) (get_or cosets query (0 / 2 ^ first)) ≡ true)
            × Distinct (take query cosets)
        by (t, s, l, a, before) =
            let same : t ≡ query = omega (arith, s) in
            subst (λ (q : ℕ). (q < length cosets) × (among (take q cosets) (get_or cosets q (0 / 2 ^ first)) ≡ true)
            × Distinct (take q cosets)) same (l, a, before)

    taken : length (take query cosets) ≡ query
    taken = length-take-le query cosets (omega (arith, at_query.0))

    at_place : (t : ℕ) → t < query → get_or (take query cosets) t (0 / 2 ^ first) ≡ coset_of t
    at_place t l = get_or-take query cosets t (0 / 2 ^ first) l ∙ coset_at t

    pub shared_found : (query < length queries) × ((t : ℕ) × (t < query) × (coset_of t ≡ coset_of query))
    shared_found = (
      subst (λ (n : ℕ). query < n) (length-map queries (λ (j : ℕ). j / 2 ^ first)) at_query.0,
      by (entry_of (take query cosets) (get_or cosets query (0 / 2 ^ first)) (0 / 2 ^ first) at_query.1),
    )
      where
        by : Entry (take query cosets) (get_or cosets query (0 / 2 ^ first)) (0 / 2 ^ first)
            → (t : ℕ) × (t < query) × (coset_of t ≡ coset_of query)
        by (t, l, same) =
            let before : t < query = subst (λ (n : ℕ). t < n) taken l in
            (t, before, sym (at_place t before) ∙ same ∙ coset_at query)

    pub shared_earliest : (t u : ℕ) → t < u → u < query → coset_of t ≢ coset_of u
    shared_earliest t u l m same =
        distinct_places (take query cosets) (0 / 2 ^ first) at_query.2 t u l
        (subst (λ (n : ℕ). u < n) (sym taken) m)
        (at_place t (omega arith) ∙ same ∙ sym (at_place u m))

  none_told : Apart first queries → (p : Option ℕ) → first_shared first queries ≡ p → p ≡ None
  none_told apart None e = refl
  none_told apart (Some query) e = by (shared_found query e)
    where
      by : (query < length queries) × ((t : ℕ) × (t < query) × (coset_of t ≡ coset_of query)) → Some query ≡ None
      by (l, (t, m, same)) =
          absurd
          (distinct_places cosets (0 / 2 ^ first) apart t query m
          (subst (λ (n : ℕ). query < n) (sym (length-map queries (λ (j : ℕ). j / 2 ^ first))) l)
          (coset_at t ∙ same ∙ sym (coset_at query)))

  -- none is told exactly where no two queries share one
  pub none_shared : (first_shared first queries ≡ None) ↔ Apart first queries
  none_shared = (λ e. told None e, λ apart. none_told apart (first_shared first queries) refl)

cosets_below : (k first : ℕ) (queries : List ℕ) → first ≤ k → All (λ j. j < 2 ^ k) queries
    → All (λ coset. coset < 2 ^ (k - first)) (visited_cosets first queries)
cosets_below k first [] h w = record {}
cosets_below k first (j ∷ queries) h w = (
  shr_lt {n = j} (k - first) first (subst (λ (n : ℕ). j < 2 ^ n) (sym (sub-add_cancel h)) w.0),
  cosets_below k first queries h w.1,
)

pub apart_few : (k first : ℕ) (queries : List ℕ) → first ≤ k → ValidQueries k queries → Apart first queries
    → length queries ≤ 2 ^ (k - first)
apart_few k first queries h v apart =
    subst (λ (n : ℕ). n ≤ 2 ^ (k - first)) (length-map queries (λ (j : ℕ). j / 2 ^ first))
    (few_distinct (2 ^ (k - first)) (visited_cosets first queries) apart (cosets_below k first queries h v.within))
