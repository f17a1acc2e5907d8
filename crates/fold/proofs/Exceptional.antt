-- Where a layer is not of low degree some row from N on is not zero, and every element of its exceptional set is a
-- root of it. Assumes nothing.
use mathlib.Core.Path.{◌≡◌, sym, subst}
use mathlib.Core.Logic.{◌↔◌}
use mathlib.Core.List.{List, [], ◌∷◌}
use Prim.Native.Nat.{ℕ, ◌+◌, ◌*◌, ◌-◌, ◌^◌, ◌≤◌}
use native.Mathlib.Nat.{lt_of_not-le, le_trans, le_of_eq, not-suc-le-zero}
use native.Mathlib.Omega.{arith}
use lib.Pow.{pow_pos, le_ones}
use lib.ListN.{length, drop}
use Rattle.gf64.specs.Field.{IsElement}
use Rattle.poly.specs.Carrier.{gf64}
use Rattle.poly.specs.Polynomial.{All, Distinct, Zeros, evaluate}
use Rattle.poly.proofs.AtField.{gf64_laws}
use Rattle.poly.proofs.Entries.{all_drop}
use Rattle.poly.proofs.Roots.{root_bound}
use Rattle.coset.proofs.Subspace.{cosets_of}
use Rattle.reed_solomon.specs.Codes.{WordDegreeBelow}
use Rattle.fold.specs.Rows.{word_rows, high_rows}
use Rattle.fold.specs.Exceptional.{Exceptional}
use Rattle.fold.specs.Theorems.{IsWord}
use Rattle.fold.proofs.Folding.{rows_are_elements, rows_are_short, fold_degree_rows}
use Rattle.fold.proofs.Folding.{rows_fold_degree, rows_of_degree, degree_from_rows}

-- all rows are zero at all xs: each row has all xs for its roots
each_row : (rs : List (List ℕ)) (xs : List ℕ) → All (λ x. All (λ row. evaluate gf64 row x ≡ 0) rs) xs
    → All (λ row. All (λ x. evaluate gf64 row x ≡ 0) xs) rs
each_row [] xs h = record {}
each_row (row ∷ rs) xs h = (first xs h, each_row rs xs (others xs h))
  where
    first : (ys : List ℕ) → All (λ x. All (λ row. evaluate gf64 row x ≡ 0) (row ∷ rs)) ys
        → All (λ x. evaluate gf64 row x ≡ 0) ys
    first [] k = record {}
    first (y ∷ ys) k = (k.0.0, first ys k.1)

    others : (ys : List ℕ) → All (λ x. All (λ row. evaluate gf64 row x ≡ 0) (row ∷ rs)) ys
        → All (λ x. All (λ row. evaluate gf64 row x ≡ 0) rs) ys
    others [] k = record {}
    others (y ∷ ys) k = (k.0.1, others ys k.1)

-- rows with at least as many roots as coefficients
zero-rows : (m : ℕ) (xs : List ℕ) → All IsElement xs → Distinct xs → m ≤ length xs → (rs : List (List ℕ))
    → All (All IsElement) rs
    → All (λ row. length row ≡ m) rs → All (λ row. All (λ x. evaluate gf64 row x ≡ 0) xs) rs → All (Zeros gf64) rs
zero-rows m xs ex d h [] er l r = record {}
zero-rows m xs ex d h (row ∷ rs) er l r = (
  root_bound gf64 IsElement gf64_laws row xs er.0 ex d r.0 (le_trans (le_of_eq l.0) h),
  zero-rows m xs ex d h rs er.1 l.1 r.1,
)

module _ (rate step offset : ℕ) (basis layer : List ℕ) (w : IsWord offset basis layer)
    (fits : rate + step ≤ length basis) where
  bound : ℕ
  bound = 2 ^ (length basis - rate - step)

  exceptional_elements : (xs : List ℕ) → All (Exceptional rate step offset basis layer) xs → All IsElement xs
  exceptional_elements [] h = record {}
  exceptional_elements (x ∷ xs) h = (h.0.0, exceptional_elements xs h.1)

  exceptional_rows : (xs : List ℕ) → All (Exceptional rate step offset basis layer) xs
      → All (λ x. All (λ row. evaluate gf64 row x ≡ 0) (drop bound (word_rows step offset basis layer))) xs
  unfolding bound
  exceptional_rows [] h = record {}
  exceptional_rows (x ∷ xs) h =
      (fold_degree_rows step offset basis layer w (omega arith) bound x h.0.0 h.0.2, exceptional_rows xs h.1)

  -- as many exceptional elements as a row has coefficients: the layer has low degree
  low_degree : (xs : List ℕ) → All (Exceptional rate step offset basis layer) xs → Distinct xs → 2 ^ step ≤ length xs
      → WordDegreeBelow (2 ^ (length basis - rate)) offset basis layer
  unfolding bound
  low_degree xs h d many =
      subst (λ (n : ℕ). WordDegreeBelow n offset basis layer) (cosets_of step (length basis - rate) (omega arith))
      (degree_from_rows step offset basis layer w (omega arith) bound
      (zero-rows (2 ^ step) xs (exceptional_elements xs h) d many (drop bound (word_rows step offset basis layer))
      (all_drop (All IsElement) bound (word_rows step offset basis layer)
      (rows_are_elements step offset basis layer w (omega arith)))
      (all_drop (λ row. length row ≡ 2 ^ step) bound (word_rows step offset basis layer)
      (rows_are_short step offset basis layer w (omega arith)))
      (each_row (drop bound (word_rows step offset basis layer)) xs (exceptional_rows xs h))))

  pub exceptional_bound : (xs : List ℕ) → All (Exceptional rate step offset basis layer) xs → Distinct xs
      → length xs ≤ 2 ^ step - 1
  exceptional_bound xs h d = le_ones step (lt_of_not-le (too_many xs h d))
    where
      too_many : (ys : List ℕ) → All (Exceptional rate step offset basis layer) ys → Distinct ys
          → 2 ^ step ≤ length ys → ⊥
      too_many [] k e many = not-suc-le-zero (le_trans (pow_pos step) many)
      too_many (y ∷ ys) k e many = k.0.1 (low_degree (y ∷ ys) k e many)

  -- in terms of the rows
  pub exceptional_by_rows : (x : ℕ)
      → Exceptional rate step offset basis layer x
      ↔ (IsElement x × (All (Zeros gf64) (high_rows rate step offset basis layer) → ⊥)
      × All (λ row. evaluate gf64 row x ≡ 0) (high_rows rate step offset basis layer))
  unfolding bound
  exceptional_by_rows x = (
    λ h. (
      h.0,
      λ z. h.1 (subst low size (degree_from_rows step offset basis layer w (omega arith) bound z)),
      fold_degree_rows step offset basis layer w (omega arith) bound x h.0 h.2,
    ),
    λ h. (
      h.0,
      λ z. h.1 (rows_of_degree step offset basis layer w (omega arith) bound (subst low (sym size) z)),
      rows_fold_degree step offset basis layer w (omega arith) bound x h.0 h.2,
    ),
  )
    where
      low : ℕ → Type 0
      low n = WordDegreeBelow n offset basis layer

      size : bound * 2 ^ step ≡ 2 ^ (length basis - rate)
      size = cosets_of step (length basis - rate) (omega arith)
