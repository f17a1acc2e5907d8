-- The levels of the conversion one after the other, and back. Assumes nothing.
use mathlib.Core.Path.{◌≡◌, refl, sym, ap, ◌∙◌}
use mathlib.Core.List.{List, [], ◌∷◌, ◌++◌}
use Prim.Native.Nat.{ℕ, zero, suc, ◌+◌, ◌^◌, ◌<◌, ◌≤◌}
use native.Mathlib.Nat.{add-zero, add-suc, suc-add}
use native.Mathlib.Omega.{arith}
use lib.ListN.{length}
use Rattle.gf64.specs.Field.{IsElement, sum, product}
use Rattle.transform.specs.Transform.{weighted, squares, scaled_runs, regrouped, regrouped_back}
use Rattle.transform.specs.Transform.{converted, converted_back}
use Rattle.transform.proofs.Halves.{Block}
use Rattle.transform.proofs.Regrouping.{block_is, regrouped_block, regrouped_back_block, regrouped_undone}
use Rattle.transform.proofs.Regrouping.{regrouped-weighted}
use Rattle.transform.proofs.Scaling.{scaled_block, scaled_undone, scaled_weighted}

-- z_(n-1), .., z_0
unfoldable pub down_to : (z : ℕ → ℕ) (n : ℕ) → List ℕ
down_to z zero = []
down_to z (suc n) = z n ∷ down_to z n

pub length_down_to : (z : ℕ → ℕ) (n : ℕ) → length (down_to z n) ≡ n
unfolding down_to
length_down_to z zero = refl
length_down_to z (suc n) = ap suc (length_down_to z n)

-- one level more below, one less above
moved : (upper lower : ℕ) → 2 ^ (suc upper + lower) ≡ 2 ^ (upper + suc lower)
moved upper lower = ap (λ (n : ℕ). 2 ^ n) (suc-add upper lower ∙ sym (add-suc upper lower))

pub converted_block : (ratio : ℕ → ℕ) (lower upper : ℕ) (s : List ℕ) → Block (2 ^ (upper + lower)) s
    → Block (2 ^ (upper + lower)) (converted ratio lower upper s)
unfolding converted
converted_block ratio lower zero s h = h
converted_block ratio lower (suc upper) s h =
    block_is (2 ^ (upper + suc lower)) (2 ^ (suc upper + lower)) (converted ratio (suc lower) upper t)
    (sym (moved upper lower))
    (converted_block ratio (suc lower) upper t
    (block_is (2 ^ (suc upper + lower)) (2 ^ (upper + suc lower)) t (moved upper lower)
    (regrouped_block lower (suc upper) (scaled_runs lower (ratio lower) s)
    (scaled_block lower (ratio lower) (2 ^ (suc upper + lower)) s h.0))))
  where
    t : List ℕ
    t = regrouped lower (suc upper) (scaled_runs lower (ratio lower) s)

pub converted_back_block : (ratio : ℕ → ℕ) (lower upper : ℕ) (s : List ℕ) → Block (2 ^ (upper + lower)) s
    → Block (2 ^ (upper + lower)) (converted_back ratio lower upper s)
unfolding converted_back
converted_back_block ratio lower zero s h = h
converted_back_block ratio lower (suc upper) s h =
    scaled_block lower (ratio lower) (2 ^ (suc upper + lower)) (regrouped_back lower (suc upper) t)
    (regrouped_back_block lower (suc upper) t
    (block_is (2 ^ (upper + suc lower)) (2 ^ (suc upper + lower)) t (sym (moved upper lower))
    (converted_back_block ratio (suc lower) upper s
    (block_is (2 ^ (suc upper + lower)) (2 ^ (upper + suc lower)) s (moved upper lower) h)))).0
  where
    t : List ℕ
    t = converted_back ratio (suc lower) upper s

-- with inverse ratios
pub converted_undone : (ratio ratio' : ℕ → ℕ) (lower upper : ℕ) (s : List ℕ)
    → ((j : ℕ) → j < lower + upper → product (ratio j) (ratio' j) ≡ 1) → Block (2 ^ (upper + lower)) s
    → converted ratio lower upper (converted_back ratio' lower upper s) ≡ s
unfolding converted converted_back
converted_undone ratio ratio' lower zero s inverse h = refl
converted_undone ratio ratio' lower (suc upper) s inverse h =
    ap (λ (l : List ℕ). converted ratio (suc lower) upper (regrouped lower (suc upper) l))
    (scaled_undone lower (ratio lower) (ratio' lower) (regrouped_back lower (suc upper) t) (inverse lower
    (omega arith))
    (regrouped_back_block lower (suc upper) t inner).1)
    ∙ ap (converted ratio (suc lower) upper) (regrouped_undone lower (suc upper) t inner)
    ∙ converted_undone ratio ratio' (suc lower) upper s (λ j l. inverse j (omega arith)) outer
  where
    t : List ℕ
    t = converted_back ratio' (suc lower) upper s

    outer : Block (2 ^ (upper + suc lower)) s
    outer = block_is (2 ^ (suc upper + lower)) (2 ^ (upper + suc lower)) s (moved upper lower) h

    inner : Block (2 ^ (suc upper + lower)) t
    inner =
        block_is (2 ^ (upper + suc lower)) (2 ^ (suc upper + lower)) t (sym (moved upper lower))
        (converted_back_block ratio' (suc lower) upper s outer)

-- ---- weights

module _ (ratio z y : ℕ → ℕ) (k : ℕ) (element : (j : ℕ) → j < k → IsElement (z j))
    (scaled : (j : ℕ) → j < k → product (ratio j) (z j) ≡ y j)
    (next : (j : ℕ) → j < k → y (suc j) ≡ sum (product (z j) (z j)) (z j)) where
  -- a level, with the number of weights below in its place
  level : (lower upper : ℕ) (s : List ℕ) → lower < k → Block (2 ^ (suc upper + lower)) s
      → weighted (squares (y (suc lower)) upper ++ down_to z (suc lower))
      (regrouped lower (suc upper) (scaled_runs lower (ratio lower) s))
      ≡ weighted (squares (y lower) (suc upper) ++ down_to z lower) s
  unfolding down_to
  level lower upper s inside h =
      ap (λ (w : ℕ). weighted (squares w upper ++ (z lower ∷ ws))
      (regrouped lower (suc upper) (scaled_runs lower (ratio lower) s))) (next lower inside)
      ∙ ap (λ (n : ℕ). weighted (squares (sum (product (z lower) (z lower)) (z lower)) upper ++ (z lower ∷ ws))
      (regrouped n (suc upper) (scaled_runs n (ratio lower) s))) (sym counted)
      ∙ regrouped-weighted (z lower) ws upper (scaled_runs (length ws) (ratio lower) s) (element lower inside)
      (scaled_block (length ws) (ratio lower) (2 ^ (suc upper + length ws)) s as_counted.0)
      ∙ scaled_weighted (ratio lower) (z lower) ws (suc upper) s as_counted
      ∙ ap (λ (w : ℕ). weighted (squares w (suc upper) ++ ws) s) (scaled lower inside)
    where
      ws : List ℕ
      ws = down_to z lower

      counted : length ws ≡ lower
      counted = length_down_to z lower

      as_counted : Block (2 ^ (suc upper + length ws)) s
      as_counted =
          block_is (2 ^ (suc upper + lower)) (2 ^ (suc upper + length ws)) s
          (ap (λ (n : ℕ). 2 ^ (suc upper + n)) (sym counted)) h

  pub converted-weighted : (lower upper : ℕ) (s : List ℕ) → lower + upper ≤ k → Block (2 ^ (upper + lower)) s
      → weighted (down_to z (lower + upper)) (converted ratio lower upper s)
      ≡ weighted (squares (y lower) upper ++ down_to z lower) s
  unfolding converted squares
  converted-weighted lower zero s l h = ap (λ (n : ℕ). weighted (down_to z n) s) (add-zero lower)
  converted-weighted lower (suc upper) s l h =
      ap (λ (n : ℕ). weighted (down_to z n) (converted ratio (suc lower) upper t))
      (add-suc lower upper ∙ sym (suc-add lower upper))
      ∙ converted-weighted (suc lower) upper t (omega arith)
      (block_is (2 ^ (suc upper + lower)) (2 ^ (upper + suc lower)) t (moved upper lower)
      (regrouped_block lower (suc upper) (scaled_runs lower (ratio lower) s)
      (scaled_block lower (ratio lower) (2 ^ (suc upper + lower)) s h.0)))
      ∙ level lower upper s (omega arith) h
    where
      t : List ℕ
      t = regrouped lower (suc upper) (scaled_runs lower (ratio lower) s)
