-- Splitting a coset in halves gives the weighted sums at its points; joining undoes it. Assumes nothing.
use mathlib.Core.Path.{◌≡◌, refl, sym, ap, ap₂, ◌∙◌}
use mathlib.Core.List.{List, [], ◌∷◌, ◌++◌, map, map-append}
use Prim.Native.Nat.{ℕ, zero, suc, ◌+◌, ◌*◌, ◌%◌, ◌^◌, ◌<◌, ◌≤◌}
use native.Mathlib.Nat.{zero-mul, one-mul, zero-add, le_of_lt}
use native.Mathlib.Omega.{arith}
use lib.ListN.{length, get_or, take, drop, take-append-drop}
use lib.Seq.{take_at, drop_at, take-take, take-suc, length-take-le}
use lib.Bits.{xor_comm}
use Rattle.gf64.specs.Field.{sum, product}
use Rattle.gf64.proofs.Xor.{xor_assoc}
use Rattle.gf64.proofs.Ring.{product-add_l, product_one_l}
use Rattle.poly.specs.Carrier.{gf64}
use Rattle.poly.specs.Polynomial.{plus, scale}
use Rattle.poly.proofs.Entries.{map_agree}
use Rattle.coset.specs.Coset.{point, points, tabulated}
use Rattle.coset.proofs.Points.{point_parted, all_tabulated, tabulated_agree}
use Rattle.transform.specs.Transform.{weighted, second_added, first_added, split_in_halves, joined_from_halves}
use Rattle.transform.proofs.Halves.{Block, block_take, block_drop, block_append, block_plus, block_scale}
use Rattle.transform.proofs.Halves.{second_of, first_of, second_block, first_block, second_twice, first_twice}
use Rattle.transform.proofs.Weighted.{weighted-plus, weighted_multiple, weighted_halves, weighted-element}
use Rattle.transform.proofs.Regrouping.{block_is, doubled}
use Rattle.transform.proofs.Tables.{tabulated_halves}
use Rattle.transform.proofs.Converting.{down_to, length_down_to}

-- ---- there and back

module _ (z : ℕ → ℕ → ℕ) (basis : List ℕ) where
  halves : (n : ℕ) (s : List ℕ) → Block (2 ^ suc n) s → Block (2 ^ n + 2 ^ n) s
  halves n s h = block_is (2 ^ suc n) (2 ^ n + 2 ^ n) s (doubled n) h

  pub joined_block : (n offset : ℕ) (s : List ℕ) → Block (2 ^ n) s → Block (2 ^ n)
      (joined_from_halves z basis n offset s)
  unfolding joined_from_halves
  joined_block zero offset s h = h
  joined_block (suc n) offset s h =
      block_is (m + m) (2 ^ suc n) (second_added (z n offset) m (first_added m (first ++ second))) (sym (doubled n))
      (second_block (z n offset) m (first_added m (first ++ second))
      (first_block m (first ++ second)
      (block_append m m first second
      (joined_block n offset (take m s) (block_take m m s (halves n s h)))
      (joined_block n (sum offset (get_or basis n 0)) (drop m s) (block_drop m m s (halves n s h))))))
    where
      m : ℕ
      m = 2 ^ n

      first : List ℕ
      first = joined_from_halves z basis n offset (take m s)

      second : List ℕ
      second = joined_from_halves z basis n (sum offset (get_or basis n 0)) (drop m s)

  pub split_undone : (n offset : ℕ) (s : List ℕ) → Block (2 ^ n) s
      → split_in_halves z basis n offset (joined_from_halves z basis n offset s) ≡ s
  unfolding split_in_halves joined_from_halves
  split_undone zero offset s h = refl
  split_undone (suc n) offset s h =
      ap (λ (l : List ℕ). split_in_halves z basis n offset (take m l) ++ split_in_halves z basis n offset' (drop m l))
      (ap (first_added m) (second_twice (z n offset) m (first_added m (first ++ second))
      (first_block m (first ++ second) both))
      ∙ first_twice m (first ++ second) both)
      ∙ ap₂ (λ (x y : List ℕ). split_in_halves z basis n offset x ++ split_in_halves z basis n offset' y)
      (take_at first second m firsts.0) (drop_at first second m firsts.0)
      ∙ ap₂ (λ (x y : List ℕ). x ++ y)
      (split_undone n offset (take m s) (block_take m m s (halves n s h)))
      (split_undone n offset' (drop m s) (block_drop m m s (halves n s h)))
      ∙ take-append-drop m s
    where
      m : ℕ
      m = 2 ^ n

      offset' : ℕ
      offset' = sum offset (get_or basis n 0)

      first : List ℕ
      first = joined_from_halves z basis n offset (take m s)

      second : List ℕ
      second = joined_from_halves z basis n offset' (drop m s)

      firsts : Block m first
      firsts = joined_block n offset (take m s) (block_take m m s (halves n s h))

      both : Block (m + m) (first ++ second)
      both =
          block_append m m first second firsts
          (joined_block n offset' (drop m s) (block_drop m m s (halves n s h)))

-- ---- the points of a coset in halves

point_of_one : (offset b j : ℕ) → point offset (b ∷ []) j ≡ sum (j % 2 * b) offset
unfolding point
point_of_one offset b j = refl

module _ (offset : ℕ) (basis : List ℕ) (n : ℕ) (inside : n < length basis) where
  longer : List ℕ
  longer = take (suc n) basis

  prefix : take n longer ≡ take n basis
  unfolding longer
  prefix = take-take n (suc n) basis (omega arith)

  last : drop n longer ≡ get_or basis n 0 ∷ []
  unfolding longer
  last = ap (drop n) (take-suc basis n 0 inside)
      ∙ drop_at (take n basis) (get_or basis n 0 ∷ []) n (length-take-le n basis (le_of_lt inside))

  counted : length longer ≡ suc n
  unfolding longer
  counted = length-take-le (suc n) basis inside

  by_half : (j i : ℕ) → i < 2 ^ n
      → point offset longer (j * 2 ^ n + i) ≡ point (sum (j % 2 * get_or basis n 0) offset) (take n basis) i
  by_half j i h =
      point_parted n offset longer j i h (omega (arith, counted))
      ∙ ap₂ (λ (o b : List ℕ). point (point offset o j) b i) last prefix
      ∙ ap (λ (o : ℕ). point o (take n basis) i) (point_of_one offset (get_or basis n 0) j)

  pub points_halves : points offset (take (suc n) basis)
      ≡ points offset (take n basis) ++ points (sum offset (get_or basis n 0)) (take n basis)
  unfolding points longer
  points_halves =
      ap (λ (l : ℕ). tabulated (point offset longer) 0 (2 ^ l)) counted
      ∙ ap (tabulated (point offset longer) 0) (doubled n) ∙ tabulated_halves (point offset longer) (2 ^ n)
      ∙ ap₂ (λ (x y : List ℕ). x ++ y)
      (tabulated_agree (point offset longer) (point offset (take n basis)) 0 (2 ^ n) (λ i l u. lower i (omega arith))
      ∙ ap (λ (l : ℕ). tabulated (point offset (take n basis)) 0 (2 ^ l)) (sym short))
      (tabulated_agree (λ i. point offset longer (2 ^ n + i)) (point (sum offset (get_or basis n 0)) (take n basis)) 0
      (2 ^ n) (λ i l u. upper i (omega arith))
      ∙ ap (λ (l : ℕ). tabulated (point (sum offset (get_or basis n 0)) (take n basis)) 0 (2 ^ l)) (sym short))
    where
      short : length (take n basis) ≡ n
      short = length-take-le n basis (le_of_lt inside)

      lower : (i : ℕ) → i < 2 ^ n → point offset longer i ≡ point offset (take n basis) i
      lower i h =
          ap (point offset longer) (sym (ap (λ (m : ℕ). m + i) (zero-mul (2 ^ n)) ∙ zero-add i)) ∙ by_half 0 i h
          ∙ ap (λ (s : ℕ). point (sum s offset) (take n basis) i) (zero-mul (get_or basis n 0))

      upper : (i : ℕ) → i < 2 ^ n
          → point offset longer (2 ^ n + i) ≡ point (sum offset (get_or basis n 0)) (take n basis) i
      upper i h =
          ap (λ (m : ℕ). point offset longer (m + i)) (sym (one-mul (2 ^ n))) ∙ by_half 1 i h
          ∙ ap (λ (s : ℕ). point s (take n basis) i)
          (ap (λ (s : ℕ). sum s offset) (one-mul (get_or basis n 0)) ∙ xor_comm (get_or basis n 0) offset)

-- ---- values

module _ (z : ℕ → ℕ → ℕ) (basis : List ℕ)
    (constant : (n offset i : ℕ) → n < length basis → z n (point offset (take n basis) i) ≡ z n offset)
    (next : (n offset : ℕ) → n < length basis → z n (sum offset (get_or basis n 0)) ≡ sum (z n offset) 1) where
  weights : (n x : ℕ) → List ℕ
  weights n x = down_to (λ j. z j x) n

  -- the weighted sums at the points of a half
  at_half : (n offset c : ℕ) (a b t : List ℕ) → n < length basis → length a ≡ 2 ^ n → z n offset ≡ c
      → ((ws : List ℕ) → weighted ws t ≡ sum (weighted ws a) (product c (weighted ws b)))
      → map (λ x. weighted (weights n x) t) (points offset (take n basis))
      ≡ map (λ x. weighted (weights (suc n) x) (a ++ b)) (points offset (take n basis))
  unfolding points weights down_to
  at_half n offset c a b t inside ha at sums =
      map_agree (λ x. weighted (weights n x) t) (λ x. weighted (weights (suc n) x) (a ++ b))
      (points offset (take n basis))
      (all_tabulated (λ x. weighted (weights n x) t ≡ weighted (weights (suc n) x) (a ++ b))
      (point offset (take n basis)) 0 (2 ^ length (take n basis)) (λ i l u. agree i))
    where
      agree : (i : ℕ)
          → weighted (weights n (point offset (take n basis) i)) t
          ≡ weighted (weights (suc n) (point offset (take n basis) i)) (a ++ b)
      agree i =
          sums (weights n (point offset (take n basis) i))
          ∙ ap (λ (w : ℕ). sum (weighted (weights n (point offset (take n basis) i)) a)
          (product w (weighted (weights n (point offset (take n basis) i)) b)))
          (sym (constant n offset i inside ∙ at))
          ∙ sym (weighted_halves (z n (point offset (take n basis) i)) (weights n (point offset (take n basis) i)) a b
          (ha ∙ ap (λ (l : ℕ). 2 ^ l) (sym (length_down_to (λ j. z j (point offset (take n basis) i)) n))))

  pub split_values : (n offset : ℕ) (s : List ℕ) → n ≤ length basis → Block (2 ^ n) s
      → split_in_halves z basis n offset s
      ≡ map (λ x. weighted (down_to (λ j. z j x) n) s) (points offset (take n basis))
  unfolding split_in_halves weighted down_to points point tabulated weights
  split_values zero offset [] l h = absurd (omega (arith, h.0))
  split_values zero offset (c ∷ []) l h = refl
  split_values zero offset (c ∷ d ∷ s) l h = absurd (omega (arith, h.0))
  split_values (suc n) offset s l h =
      ap (λ (u : List ℕ). split_in_halves z basis n offset (take m u) ++ split_in_halves z basis n offset'
      (drop m u)) stepped
      ∙ ap₂ (λ (x y : List ℕ). split_in_halves z basis n offset x ++ split_in_halves z basis n offset' y)
      (take_at first second m firsts.0) (drop_at first second m firsts.0)
      ∙ ap₂ (λ (x y : List ℕ). x ++ y)
      (split_values n offset first (omega arith) firsts
      ∙ at_half n offset c a b first (omega arith) ha.0 refl (λ ws. weighted_multiple ws c a b))
      (split_values n offset' second (omega arith) (block_plus m first b firsts hb)
      ∙ at_half n offset' (sum c 1) a b second (omega arith) ha.0 (next n offset (omega arith)) second_sums)
      ∙ sym (map-append (λ x. weighted (weights (suc n) x) (a ++ b)) (points offset (take n basis))
      (points offset' (take n basis)))
      ∙ ap₂ (λ (u ps : List ℕ). map (λ x. weighted (weights (suc n) x) u) ps) (take-append-drop m s)
      (sym (points_halves offset basis n (omega arith)))
    where
      m : ℕ
      m = 2 ^ n

      offset' : ℕ
      offset' = sum offset (get_or basis n 0)

      c : ℕ
      c = z n offset

      a : List ℕ
      a = take m s

      b : List ℕ
      b = drop m s

      in_halves : Block (m + m) s
      in_halves = halves z basis n s h

      ha : Block m a
      ha = block_take m m s in_halves

      hb : Block m b
      hb = block_drop m m s in_halves

      first : List ℕ
      first = plus gf64 a (scale gf64 c b)

      second : List ℕ
      second = plus gf64 first b

      firsts : Block m first
      firsts = block_plus m a (scale gf64 c b) ha (block_scale m c b hb.0)

      stepped : first_added m (second_added c m s) ≡ first ++ second
      stepped =
          ap (λ (u : List ℕ). first_added m (second_added c m u)) (sym (take-append-drop m s))
          ∙ ap (first_added m) (second_of c m a b ha.0) ∙ first_of m first b firsts.0

      second_sums : (ws : List ℕ)
          → weighted ws second ≡ sum (weighted ws a) (product (sum c 1) (weighted ws b))
      second_sums ws =
          weighted-plus ws first b ∙ ap (λ (p : ℕ). sum p (weighted ws b)) (weighted_multiple ws c a b)
          ∙ xor_assoc (weighted ws a) (product c (weighted ws b)) (weighted ws b)
          ∙ ap (sum (weighted ws a))
          (ap (sum (product c (weighted ws b)))
          (sym (product_one_l (weighted ws b) (weighted-element ws b hb.1)))
          ∙ sym (product-add_l c 1 (weighted ws b)))
