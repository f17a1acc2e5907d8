-- The fold at x is the word, on the next coset, of the polynomial whose coefficients are the
-- rows at x. Assumes nothing.
use mathlib.Core.Path.{◌≡◌, sym, ap, ◌∙◌, subst}
use mathlib.Core.List.{List, [], ◌∷◌, map}
use Prim.Native.Nat.{ℕ, ◌+◌, ◌*◌, ◌-◌, ◌%◌, ◌^◌, ◌<◌, ◌≤◌}
use native.Mathlib.Nat.{mod-lt, zero-add, suc-mul, mul-le-mul_right, le_of_eq}
use native.Mathlib.Omega.{arith}
use lib.Pow.{pow_pos, split}
use lib.ListN.{length, get_or, take, drop, drop_of_length-le, length-map, length-drop}
use lib.Seq.{ext_get_or, get_or-take, get_or-drop, length-take-le}
use Rattle.poly.proofs.Filling.{get_d_map}
use Rattle.gf64.specs.Field.{IsElement}
use Rattle.poly.specs.Carrier.{gf64}
use Rattle.poly.specs.Polynomial.{All, Distinct, Zeros, DegreeBelow, evaluate, interpolant}
use Rattle.poly.proofs.AtField.{gf64_laws}
use Rattle.poly.proofs.Entries.{all_map, map_agree, map-take, map-drop}
use Rattle.poly.proofs.Interpolation.{length-interpolant, interpolant-elements}
use Rattle.poly.proofs.Interpolation.{interpolant_agrees, interpolant_unique, values_elements}
use Rattle.poly.proofs.Evaluation.{evaluate_zeros, padded_full}
use Rattle.poly.proofs.Rows.{length-rows, rows_lengths, rows-evaluate, rows_degree, degree_of_rows}
use Rattle.poly.proofs.Combined.{combined, length_combined, combined_elements}
use Rattle.poly.proofs.Combined.{evaluate_combined, rows-elements, rows_values_elements}
use Rattle.coset.specs.Coset.{point, tabulated, points}
use Rattle.coset.specs.Subspace.{lower_coefficients, image, next_offset, next_basis}
use Rattle.coset.proofs.Points.{point-element, point_injective, points_distinct, points-elements}
use Rattle.coset.proofs.Points.{length-points, length-tabulated, get_or-tabulated, all_tabulated}
use Rattle.coset.proofs.Points.{distinct_tabulated, tabulated_agree, map-tabulated, tabulated_part}
use Rattle.coset.proofs.Subspace.{length-lower_coefficients, lower_coefficients-elements, subspace_monic}
use Rattle.coset.proofs.Subspace.{length-next_basis, next_basis-elements, next_offset-element}
use Rattle.coset.proofs.Subspace.{next_independent, image_of_coset, image_only, cosets_of}
use Rattle.reed_solomon.specs.Codes.{encoded, interpolated, WordDegreeBelow}
use Rattle.reed_solomon.proofs.Theorems.{round_trips}
use Rattle.fold.specs.Fold.{coset_points, coset_entries, fold_entry, folded}
use Rattle.fold.specs.Rows.{word_rows, rows_at}
use Rattle.fold.specs.Theorems.{IsWord}

-- coset j lies within n cosets of m
pub coset_within : (j n m : ℕ) → j < n → j * m + m ≤ n * m
coset_within j n m h = subst (λ (s : ℕ). s ≤ n * m) (suc-mul j m) (mul-le-mul_right m h)

length-coset_points : (step offset : ℕ) (basis : List ℕ) (j : ℕ) → length (coset_points step offset basis j) ≡ 2 ^ step
unfolding coset_points
length-coset_points step offset basis j = length-tabulated (point offset basis) (j * 2 ^ step) (2 ^ step)

pub length-folded : (step offset : ℕ) (basis word : List ℕ) (x : ℕ)
    → length (folded step offset basis word x) ≡ 2 ^ (length basis - step)
unfolding folded
length-folded step offset basis word x =
    length-tabulated (fold_entry step offset basis word x) 0 (2 ^ (length basis - step))

encoded-elements : (offset : ℕ) (basis p : List ℕ) → IsElement offset → All IsElement basis → All IsElement p
    → All IsElement (encoded offset basis p)
unfolding encoded
encoded-elements offset basis p ho hb hp =
    values_elements gf64 IsElement gf64_laws p (points offset basis) hp (points-elements offset basis ho hb)

-- a list, and so a part of it, as a table of its entries
list_tabulated : (xs : List ℕ) → tabulated (λ i. get_or xs i 0) 0 (length xs) ≡ xs
list_tabulated xs =
    ext_get_or 0 (tabulated (λ i. get_or xs i 0) 0 (length xs)) xs (length-tabulated (λ i. get_or xs i 0) 0 (length xs))
    (λ i l. get_or-tabulated (λ n. get_or xs n 0) 0 (length xs) i
    (omega (arith, length-tabulated (λ i. get_or xs i 0) 0 (length xs))) ∙ ap (λ (n : ℕ). get_or xs n 0) (zero-add i))

entries_tabulated : (xs : List ℕ) (from count : ℕ) → from + count ≤ length xs
    → tabulated (λ i. get_or xs i 0) from count ≡ take count (drop from xs)
entries_tabulated xs from count h =
    sym (tabulated_part (λ i. get_or xs i 0) from count (length xs) h)
    ∙ ap (λ (l : List ℕ). take count (drop from l)) (list_tabulated xs)

module _ (step offset : ℕ) (basis word : List ℕ) (w : IsWord offset basis word) (fits : step ≤ length basis) where
  -- the word's interpolant
  P : List ℕ
  P = interpolated offset basis word

  P-elements : All IsElement P
  unfolding P interpolated
  P-elements =
      interpolant-elements gf64 IsElement gf64_laws (points offset basis) word
      (points-elements offset basis w.offset_element w.basis_elements) w.word_elements

  length-P : length P ≡ 2 ^ length basis
  unfolding P interpolated
  length-P =
      length-interpolant gf64 (points offset basis) word (length-points offset basis ∙ sym w.count)
      ∙ length-points offset basis

  cosets : 2 ^ (length basis - step) * 2 ^ step ≡ 2 ^ length basis
  cosets = cosets_of step (length basis) fits

  inside : (j : ℕ) → j < 2 ^ (length basis - step) → j * 2 ^ step + 2 ^ step ≤ 2 ^ length basis
  inside j h =
      subst (λ (s : ℕ). j * 2 ^ step + 2 ^ step ≤ s) cosets (coset_within j (2 ^ (length basis - step)) (2 ^ step) h)

  whole : DegreeBelow gf64 (2 ^ (length basis - step) * length (lower_coefficients step basis)) P
  whole = subst (Zeros gf64) (sym (drop_of_length-le P (le_of_eq (length-P ∙ sym cosets ∙ same)))) (record {})
    where
      same : 2 ^ (length basis - step) * 2 ^ step ≡ 2 ^ (length basis - step) * length (lower_coefficients step basis)
      same = ap (λ (s : ℕ). 2 ^ (length basis - step) * s) (sym (length-lower_coefficients step basis fits))

  -- ---- one coset of the fold

  part_of_points : (j : ℕ) → j < 2 ^ (length basis - step)
      → take (2 ^ step) (drop (j * 2 ^ step) (points offset basis)) ≡ coset_points step offset basis j
  unfolding coset_points points
  part_of_points j h = tabulated_part (point offset basis) (j * 2 ^ step) (2 ^ step) (2 ^ length basis) (inside j h)

  -- the word's entries are the values of P
  entries_of_coset : (j : ℕ) → j < 2 ^ (length basis - step)
      → coset_entries step word j ≡ map (evaluate gf64 P) (coset_points step offset basis j)
  unfolding coset_entries P interpolated
  entries_of_coset j h =
      ap (λ (l : List ℕ). take (2 ^ step) (drop (j * 2 ^ step) l)) (sym agrees)
      ∙ ap (take (2 ^ step)) (sym (map-drop (evaluate gf64 P) (j * 2 ^ step) (points offset basis)))
      ∙ sym (map-take (evaluate gf64 P) (2 ^ step) (drop (j * 2 ^ step) (points offset basis)))
      ∙ ap (map (evaluate gf64 P)) (part_of_points j h)
    where
      agrees : map (evaluate gf64 P) (points offset basis) ≡ word
      agrees =
          interpolant_agrees gf64 IsElement gf64_laws (points offset basis) word
          (points-elements offset basis w.offset_element w.basis_elements) w.word_elements
          (points_distinct offset basis w.independent) (length-points offset basis ∙ sym w.count)

  coset_elements : (j : ℕ) → All IsElement (coset_points step offset basis j)
  unfolding coset_points
  coset_elements j =
      all_tabulated IsElement (point offset basis) (j * 2 ^ step) (2 ^ step)
      (λ i l u. point-element offset basis i w.offset_element w.basis_elements)

  entries_elements : (j : ℕ) → j < 2 ^ (length basis - step) → All IsElement (coset_entries step word j)
  entries_elements j h =
      subst (All IsElement) (sym (entries_of_coset j h))
      (values_elements gf64 IsElement gf64_laws P (coset_points step offset basis j) P-elements (coset_elements j))

  coset_distinct : (j : ℕ) → j < 2 ^ (length basis - step) → Distinct (coset_points step offset basis j)
  unfolding coset_points
  coset_distinct j h =
      distinct_tabulated (point offset basis) (j * 2 ^ step) (2 ^ step)
      (λ a b ha hb e.
      point_injective offset basis a b w.independent (omega (arith, inside j h)) (omega (arith, inside j h)) e)

  -- the rows of P, joined at the next coset's point j
  joined_at : ℕ → List ℕ
  joined_at j =
      combined gf64 (2 ^ step) (point (next_offset step offset basis) (next_basis step basis) j)
      (word_rows step offset basis word)

  pub rows_are_elements : All (All IsElement) (word_rows step offset basis word)
  unfolding word_rows P
  rows_are_elements =
      rows-elements gf64 IsElement gf64_laws (lower_coefficients step basis) (2 ^ (length basis - step)) P
      (lower_coefficients-elements step basis fits w.basis_elements) P-elements

  pub rows_are_short : All (λ row. length row ≡ 2 ^ step) (word_rows step offset basis word)
  unfolding word_rows
  rows_are_short =
      subst (λ (m : ℕ). All (λ row. length row ≡ m) (word_rows step offset basis word))
      (length-lower_coefficients step basis fits)
      (rows_lengths gf64 (lower_coefficients step basis) (2 ^ (length basis - step)) (interpolated offset basis word))

  -- P(x) is the value at q(x) of the polynomial whose coefficients are the rows at x
  value_by_rows : (x : ℕ) → evaluate gf64 P x ≡ evaluate gf64 (rows_at step offset basis word x) (image step basis x)
  unfolding word_rows rows_at image P
  value_by_rows x =
      rows-evaluate gf64 IsElement gf64_laws (lower_coefficients step basis) (2 ^ (length basis - step)) P x
      (lower_coefficients-elements step basis fits w.basis_elements) P-elements whole
      ∙ ap (λ (q : List ℕ). evaluate gf64 (rows_at step offset basis word x) (evaluate gf64 q x))
      (sym (subspace_monic step basis fits))

  -- the points of coset j go to point j
  image_in_coset : (j i : ℕ) → j * 2 ^ step ≤ i → i < j * 2 ^ step + 2 ^ step
      → image step basis (point offset basis i) ≡ point (next_offset step offset basis) (next_basis step basis) j
  image_in_coset j i l u =
      ap (λ (n : ℕ). image step basis (point offset basis n)) (omega arith)
      ∙ image_of_coset step offset basis j (i - j * 2 ^ step) w.offset_element w.basis_elements (omega arith)

  joined_agrees : (j : ℕ) → map (evaluate gf64 P) (coset_points step offset basis j)
      ≡ map (evaluate gf64 (joined_at j)) (coset_points step offset basis j)
  unfolding coset_points joined_at rows_at
  joined_agrees j =
      map_agree (evaluate gf64 P) (evaluate gf64 (joined_at j)) (coset_points step offset basis j)
      (all_tabulated (λ p. evaluate gf64 P p ≡ evaluate gf64 (joined_at j) p) (point offset basis)
      (j * 2 ^ step) (2 ^ step) at)
    where
      next : ℕ
      next = point (next_offset step offset basis) (next_basis step basis) j

      at : (i : ℕ) → j * 2 ^ step ≤ i → i < j * 2 ^ step + 2 ^ step
          → evaluate gf64 P (point offset basis i) ≡ evaluate gf64 (joined_at j) (point offset basis i)
      at i l u =
          value_by_rows (point offset basis i)
          ∙ ap (evaluate gf64 (rows_at step offset basis word (point offset basis i))) (image_in_coset j i l u)
          ∙ sym (evaluate_combined gf64 IsElement gf64_laws (2 ^ step) next
          (word_rows step offset basis word) (point offset basis i))

  -- so they are the coset's interpolant
  joined_interpolates : (j : ℕ) → j < 2 ^ (length basis - step)
      → joined_at j ≡ interpolant gf64 (coset_points step offset basis j) (coset_entries step word j)
  unfolding joined_at
  joined_interpolates j h =
      interpolant_unique gf64 IsElement gf64_laws (joined_at j) (coset_points step offset basis j)
      (coset_entries step word j)
      (combined_elements gf64 IsElement gf64_laws (2 ^ step) next
      (word_rows step offset basis word) next_element rows_are_elements) (coset_elements j)
      (entries_elements j h)
      (coset_distinct j h)
      (length_combined gf64 (2 ^ step) next (word_rows step offset basis word) rows_are_short ∙ sym (length_coset j))
      (sym (entries_of_coset j h ∙ joined_agrees j))
    where
      next : ℕ
      next = point (next_offset step offset basis) (next_basis step basis) j

      next_element : IsElement next
      next_element =
          point-element (next_offset step offset basis) (next_basis step basis) j
          (next_offset-element step offset basis w.offset_element) (next_basis-elements step basis w.basis_elements)

      length_coset : (i : ℕ) → length (coset_points step offset basis i) ≡ 2 ^ step
      length_coset i = length-coset_points step offset basis i

  entry_by_rows : (x j : ℕ) → j < 2 ^ (length basis - step)
      → fold_entry step offset basis word x j
      ≡ evaluate gf64 (rows_at step offset basis word x) (point (next_offset step offset basis) (next_basis step basis) j)
  unfolding fold_entry joined_at rows_at
  entry_by_rows x j h =
      ap (λ (p : List ℕ). evaluate gf64 p x) (sym (joined_interpolates j h))
      ∙ evaluate_combined gf64 IsElement gf64_laws (2 ^ step)
      (point (next_offset step offset basis) (next_basis step basis) j) (word_rows step offset basis word) x

  -- ---- the fold

  pub folded_by_rows : (x : ℕ) → folded step offset basis word x
      ≡ encoded (next_offset step offset basis) (next_basis step basis) (rows_at step offset basis word x)
  unfolding folded encoded points
  folded_by_rows x =
      tabulated_agree (fold_entry step offset basis word x)
      (λ j. evaluate gf64 (rows_at step offset basis word x) (next j)) 0 (2 ^ (length basis - step))
      (λ j l u. entry_by_rows x j (omega arith))
      ∙ ap (λ (n : ℕ). tabulated (λ j. evaluate gf64 (rows_at step offset basis word x) (next j)) 0 (2 ^ n))
      (sym (length-next_basis step basis))
      ∙ sym (map-tabulated (evaluate gf64 (rows_at step offset basis word x)) next 0 (2 ^ length (next_basis step basis)))
    where
      next : ℕ → ℕ
      next j = point (next_offset step offset basis) (next_basis step basis) j

  length-rows_at : (x : ℕ) → length (rows_at step offset basis word x) ≡ 2 ^ length (next_basis step basis)
  unfolding rows_at word_rows
  length-rows_at x =
      length-map (word_rows step offset basis word) (λ row. evaluate gf64 row x)
      ∙ length-rows gf64 (lower_coefficients step basis) (2 ^ (length basis - step)) (interpolated offset basis word)
      ∙ ap (λ (n : ℕ). 2 ^ n) (sym (length-next_basis step basis))

  rows_at-elements : (x : ℕ) → IsElement x → All IsElement (rows_at step offset basis word x)
  unfolding rows_at
  rows_at-elements x h =
      rows_values_elements gf64 IsElement gf64_laws (word_rows step offset basis word) x rows_are_elements h

  -- the fold's interpolant has the rows at x for its coefficients
  pub interpolated_fold : (x : ℕ) → IsElement x
      → interpolated (next_offset step offset basis) (next_basis step basis) (folded step offset basis word x)
      ≡ rows_at step offset basis word x
  interpolated_fold x h =
      ap (interpolated (next_offset step offset basis) (next_basis step basis)) (folded_by_rows x)
      ∙ round_trips.coefficients (next_offset step offset basis) (next_basis step basis)
      (rows_at step offset basis word x)
      (next_offset-element step offset basis w.offset_element)
      (next_basis-elements step basis w.basis_elements) (rows_at-elements x h)
      (next_independent step basis w.basis_elements w.independent) (le_of_eq (length-rows_at x))
      ∙ padded_full gf64 (2 ^ length (next_basis step basis)) (rows_at step offset basis word x) (length-rows_at x)

  -- the word's value at x is the value at q(x) of its fold at x
  pub value_of_fold : (x : ℕ) → IsElement x
      → evaluate gf64 (interpolated offset basis word) x
      ≡ evaluate gf64 (interpolated (next_offset step offset basis) (next_basis step basis)
      (folded step offset basis word x)) (image step basis x)
  unfolding P
  value_of_fold x h =
      value_by_rows x ∙ ap (λ (p : List ℕ). evaluate gf64 p (image step basis x)) (sym (interpolated_fold x h))

  -- ---- degrees

  -- from N on the fold at x has no coefficient exactly when the rows from N on are zero at x
  pub fold_degree_rows : (N x : ℕ) → IsElement x
      → WordDegreeBelow N (next_offset step offset basis) (next_basis step basis) (folded step offset basis word x)
      → All (λ row. evaluate gf64 row x ≡ 0) (drop N (word_rows step offset basis word))
  unfolding rows_at
  fold_degree_rows N x h z =
      unmapped (drop N (word_rows step offset basis word))
      (subst (Zeros gf64) (sym (map-drop (λ row. evaluate gf64 row x) N (word_rows step offset basis word)))
      (subst (DegreeBelow gf64 N) (interpolated_fold x h) z))
    where
      unmapped : (rs : List (List ℕ)) → All (λ c. c ≡ 0) (map (λ row. evaluate gf64 row x) rs)
          → All (λ row. evaluate gf64 row x ≡ 0) rs
      unmapped [] a = record {}
      unmapped (row ∷ rs) a = (a.0, unmapped rs a.1)

  pub rows_fold_degree : (N x : ℕ) → IsElement x
      → All (λ row. evaluate gf64 row x ≡ 0) (drop N (word_rows step offset basis word))
      → WordDegreeBelow N (next_offset step offset basis) (next_basis step basis) (folded step offset basis word x)
  unfolding rows_at
  rows_fold_degree N x h z =
      subst (DegreeBelow gf64 N) (sym (interpolated_fold x h))
      (subst (Zeros gf64) (map-drop (λ row. evaluate gf64 row x) N (word_rows step offset basis word))
      (all_map (λ row. evaluate gf64 row x ≡ 0) (λ c. c ≡ 0) (λ row. evaluate gf64 row x) (λ row e. e)
      (drop N (word_rows step offset basis word)) z))

  by_length : (N : ℕ) → N * length (lower_coefficients step basis) ≡ N * 2 ^ step
  by_length N = ap (λ (m : ℕ). N * m) (length-lower_coefficients step basis fits)

  -- rows from N on are zero exactly when the word's degree is below N · 2^step
  pub rows_of_degree : (N : ℕ) → WordDegreeBelow (N * 2 ^ step) offset basis word
      → All (Zeros gf64) (drop N (word_rows step offset basis word))
  unfolding word_rows
  rows_of_degree N z =
      rows_degree gf64 IsElement gf64_laws N (lower_coefficients step basis) (2 ^ (length basis - step))
      (interpolated offset basis word) (subst (λ (n : ℕ). WordDegreeBelow n offset basis word) (sym (by_length N)) z)

  pub degree_from_rows : (N : ℕ) → All (Zeros gf64) (drop N (word_rows step offset basis word))
      → WordDegreeBelow (N * 2 ^ step) offset basis word
  unfolding word_rows P
  degree_from_rows N z =
      subst (λ (n : ℕ). WordDegreeBelow n offset basis word) (by_length N)
      (degree_of_rows gf64 IsElement gf64_laws N (lower_coefficients step basis) (2 ^ (length basis - step))
      (interpolated offset basis word) whole z)

  -- a word of degree below N · 2^step folds to degree below N
  pub fold_keeps_degree : (N x : ℕ) → IsElement x → WordDegreeBelow (N * 2 ^ step) offset basis word
      → WordDegreeBelow N (next_offset step offset basis) (next_basis step basis) (folded step offset basis word x)
  fold_keeps_degree N x h z =
      rows_fold_degree N x h (zero_at (drop N (word_rows step offset basis word)) (rows_of_degree N z))
    where
      zero_at : (rs : List (List ℕ)) → All (Zeros gf64) rs → All (λ row. evaluate gf64 row x ≡ 0) rs
      zero_at [] a = record {}
      zero_at (row ∷ rs) a = (evaluate_zeros gf64 IsElement gf64_laws row x a.0, zero_at rs a.1)

  -- the fold is a word over the next coset
  pub fold_is_word : (x : ℕ) → IsElement x
      → IsWord (next_offset step offset basis) (next_basis step basis) (folded step offset basis word x)
  fold_is_word x h =
      record {
        offset_element = next_offset-element step offset basis w.offset_element;
        basis_elements = next_basis-elements step basis w.basis_elements;
        word_elements = subst (All IsElement) (sym (folded_by_rows x)) fold_elements;
        independent = next_independent step basis w.basis_elements w.independent;
        count = length-folded step offset basis word x ∙ ap (λ (n : ℕ). 2 ^ n) (sym (length-next_basis step basis));
      }
    where
      fold_elements : All IsElement
          (encoded (next_offset step offset basis) (next_basis step basis) (rows_at step offset basis word x))
      fold_elements =
          encoded-elements (next_offset step offset basis) (next_basis step basis) (rows_at step offset basis word x)
          (next_offset-element step offset basis w.offset_element)
          (next_basis-elements step basis w.basis_elements) (rows_at-elements x h)

  -- ---- an entry by any polynomial that agrees with the word

  inside_word : (j : ℕ) → j < 2 ^ (length basis - step) → j * 2 ^ step + 2 ^ step ≤ length word
  inside_word j h = subst (λ (n : ℕ). j * 2 ^ step + 2 ^ step ≤ n) (sym w.count) (inside j h)

  pub entry_by_agreement : (x j : ℕ) (p : List ℕ) → j < 2 ^ (length basis - step) → All IsElement p
      → length p ≡ 2 ^ step
      → ((i : ℕ) → i < 2 ^ length basis
      → image step basis (point offset basis i) ≡ point (next_offset step offset basis) (next_basis step basis) j
      → evaluate gf64 p (point offset basis i) ≡ get_or word i 0)
      → get_or (folded step offset basis word x) j 0 ≡ evaluate gf64 p x
  unfolding folded fold_entry coset_points coset_entries
  entry_by_agreement x j p h ep l agree =
      get_or-tabulated (fold_entry step offset basis word x) 0 (2 ^ (length basis - step)) j h
      ∙ ap (fold_entry step offset basis word x) (zero-add j)
      ∙ ap (λ (q : List ℕ). evaluate gf64 q x) (sym same)
    where
      values : map (evaluate gf64 p) (coset_points step offset basis j) ≡ coset_entries step word j
      values =
          map-tabulated (evaluate gf64 p) (point offset basis) (j * 2 ^ step) (2 ^ step)
          ∙ tabulated_agree (λ i. evaluate gf64 p (point offset basis i)) (λ i. get_or word i 0) (j * 2 ^ step) (2 ^ step)
          (λ i low high. agree i (omega (arith, inside j h)) (image_in_coset j i low high))
          ∙ entries_tabulated word (j * 2 ^ step) (2 ^ step) (inside_word j h)

      same : p ≡ interpolant gf64 (coset_points step offset basis j) (coset_entries step word j)
      same =
          interpolant_unique gf64 IsElement gf64_laws p (coset_points step offset basis j) (coset_entries step word j) ep
          (coset_elements j) (entries_elements j h)
          (coset_distinct j h) (l ∙ sym (length-coset_points step offset basis j)) values

  -- the coset's interpolant agrees
  pub coset_agrees : (i j : ℕ) → i < 2 ^ length basis → j < 2 ^ (length basis - step)
      → image step basis (point offset basis i) ≡ point (next_offset step offset basis) (next_basis step basis) j
      → evaluate gf64 (interpolant gf64 (coset_points step offset basis j) (coset_entries step word j))
      (point offset basis i) ≡ get_or word i 0
  unfolding coset_points coset_entries
  coset_agrees i j hi hj e =
      ap (evaluate gf64 I) (sym (at_point ∙ ap (point offset basis) place))
      ∙ sym (get_d_map (evaluate gf64 I) (coset_points step offset basis j) (i % 2 ^ step)
      (subst (λ (n : ℕ). i % 2 ^ step < n) (sym (length-coset_points step offset basis j)) low))
      ∙ ap (λ (l : List ℕ). get_or l (i % 2 ^ step) 0) all
      ∙ get_or-take (2 ^ step) (drop (j * 2 ^ step) word) (i % 2 ^ step) 0 low
      ∙ get_or-drop (j * 2 ^ step) word (i % 2 ^ step) 0
      ∙ ap (λ (n : ℕ). get_or word n 0) place
    where
      I : List ℕ
      I = interpolant gf64 (coset_points step offset basis j) (coset_entries step word j)

      low : i % 2 ^ step < 2 ^ step
      low = mod-lt i (pow_pos step)

      place : j * 2 ^ step + i % 2 ^ step ≡ i
      place =
          ap (λ (n : ℕ). n * 2 ^ step + i % 2 ^ step)
          (sym (image_only step offset basis i j w.offset_element w.basis_elements w.independent fits hi hj e))
          ∙ split i step

      at_point : get_or (coset_points step offset basis j) (i % 2 ^ step) 0
          ≡ point offset basis (j * 2 ^ step + i % 2 ^ step)
      at_point = get_or-tabulated (point offset basis) (j * 2 ^ step) (2 ^ step) (i % 2 ^ step) low

      all : map (evaluate gf64 I) (coset_points step offset basis j) ≡ coset_entries step word j
      all =
          interpolant_agrees gf64 IsElement gf64_laws (coset_points step offset basis j) (coset_entries step word j)
          (coset_elements j) (entries_elements j hj) (coset_distinct j hj)
          (length-coset_points step offset basis j
          ∙ sym (length-take-le (2 ^ step) (drop (j * 2 ^ step) word)
          (omega (arith, inside_word j hj, length-drop (j * 2 ^ step) word))))
