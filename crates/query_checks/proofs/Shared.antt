-- The queries one after the other, up to the first that visits the first-layer coset of an earlier one. Assumes
-- nothing.
use mathlib.Core.Path.{◌≡◌, sym, ap, ◌∙◌}
use mathlib.Core.Bool.{Bool, true, false, cond}
use mathlib.Core.List.{List, [], ◌∷◌, ◌++◌, map-append}
use Prim.Native.Nat.{ℕ, suc, ◌+◌, ◌/◌, ◌^◌, ◌≤◌, ◌<◌}
use native.Mathlib.Numerals.{add-one}
use lib.ListN.{length, get_or, take, drop, drop_of_length-le}
use lib.Seq.{drop-cons, take-suc}
use Rattle.std.specs.Prelude.{Option, Some, None}
use Rattle.fri.specs.Checks.{among, first_repeated_after, visited_cosets}

module _ (step : ℕ) (queries : List ℕ) (query : ℕ) where
  abbrev coset_here : ℕ
  coset_here = get_or queries query 0 / 2 ^ step

  -- the cosets of the queries before it, of those from it on, and of those after it
  abbrev before : List ℕ
  before = visited_cosets step (take query queries)

  abbrev from : List ℕ
  from = visited_cosets step (drop query queries)

  abbrev after : List ℕ
  after = visited_cosets step (drop (suc query) queries)

  from_none : length queries ≤ query → from ≡ []
  from_none h = ap (visited_cosets step) (drop_of_length-le queries h)

  from_one : query < length queries → from ≡ coset_here ∷ after
  from_one h = ap (visited_cosets step) (drop-cons queries query 0 h)

  abbrev left : Option ℕ
  left = first_repeated_after before from query

  abbrev later : Option ℕ
  later = first_repeated_after (before ++ (coset_here ∷ [])) after (suc query)

  pub shared_none : length queries ≤ query → None ≡ left
  unfolding first_repeated_after
  shared_none h = sym (ap (λ (l : List ℕ). first_repeated_after before l query) (from_none h))

  one_by_one : query < length queries → left ≡ cond (among before coset_here) (Some query) later
  unfolding first_repeated_after
  one_by_one h = ap (λ (l : List ℕ). first_repeated_after before l query) (from_one h)

  pub shared_here : query < length queries → among before coset_here ≡ true → Some query ≡ left
  shared_here h e = sym (one_by_one h ∙ ap (λ (t : Bool). cond t (Some query) later) e)

  before_next : query < length queries → visited_cosets step (take (suc query) queries) ≡ before ++ (coset_here ∷ [])
  before_next h =
      ap (visited_cosets step) (take-suc queries query 0 h)
      ∙ map-append (λ (j : ℕ). j / 2 ^ step) (take query queries) (get_or queries query 0 ∷ [])

  pub shared_next : query < length queries → among before coset_here ≡ false
      → first_repeated_after (visited_cosets step (take (query + 1) queries))
      (visited_cosets step (drop (query + 1) queries)) (query + 1)
      ≡ left
  shared_next h e =
      ap
      (λ (m : ℕ). first_repeated_after (visited_cosets step (take m queries)) (visited_cosets step (drop m queries)) m)
      (add-one query)
      ∙ ap (λ (l : List ℕ). first_repeated_after l after (suc query)) (before_next h)
      ∙ sym (one_by_one h ∙ ap (λ (t : Bool). cond t (Some query) later) e)
