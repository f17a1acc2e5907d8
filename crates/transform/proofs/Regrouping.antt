-- Regrouping: quarters by quarters the weights z^(2^n), .., z^2, z become those of z^2 + z and z; it keeps the length
-- and is undone by its way back. Assumes nothing.
use mathlib.Core.Path.{◌≡◌, refl, sym, ap, ap₂, ◌∙◌}
use mathlib.Core.List.{List, [], ◌∷◌, ◌++◌, append_assoc, append-nil}
use Prim.Native.Nat.{ℕ, zero, suc, ◌+◌, ◌^◌}
use native.Mathlib.Nat.{pow-suc, suc-add, add-suc, le_of_eq}
use native.Mathlib.Omega.{arith}
use lib.ListN.{length, take, drop, length-append, take-append-drop}
use lib.Seq.{take_at, drop_at}
use lib.Bits.{bit_xor, xor_comm}
use Rattle.gf64.specs.Field.{IsElement, sum, product, power}
use Rattle.gf64.proofs.Xor.{xor_assoc, xor_left_comm, xor_cancel}
use Rattle.gf64.proofs.Ring.{product_lt, product_assoc, product-add_r, product-add_l, product_one, product_one_l}
use Rattle.gf64.proofs.Ring.{product_left_comm, product_swap}
use Rattle.gf64.proofs.Power.{power_zero, power_one, power-suc, power_double, power-sum}
use Rattle.poly.specs.Carrier.{gf64}
use Rattle.poly.specs.Polynomial.{plus, scale}
use Rattle.poly.proofs.Evaluation.{length-plus}
use Rattle.transform.specs.Transform.{weighted, squares, second_added, on_part, quarters, quarters_back}
use Rattle.transform.specs.Transform.{regrouped, regrouped_back}
use Rattle.transform.proofs.Halves.{Block, block_take, block_drop, block_append, block_plus, block_scale}
use Rattle.transform.proofs.Halves.{second_of, second_block, second_twice, part_of, part_block, part_twice}
use Rattle.transform.proofs.Weighted.{weighted_halves, weighted_multiple, length-squares}

pub block_is : (m n : ℕ) (s : List ℕ) → m ≡ n → Block m s → Block n s
block_is m n s e h = (h.0 ∙ e, h.1)

-- ---- quarters keep the length and are undone

module _ (q : ℕ) where
  upper_part : (s : List ℕ) → Block (q + q + (q + q)) s → Block (q + q + (q + q + 0)) s
  upper_part s h = block_is (q + q + (q + q)) (q + q + (q + q + 0)) s (omega arith) h

  middle_part : (s : List ℕ) → Block (q + q + (q + q)) s → Block (q + (q + q + q)) s
  middle_part s h = block_is (q + q + (q + q)) (q + (q + q + q)) s (omega arith) h

  on_upper : (s : List ℕ) → Block (q + q + (q + q)) s
      → Block (q + q + (q + q)) (on_part (q + q) (q + q) (second_added 1 q) s)
  on_upper s h =
      block_is (q + q + (q + q + 0)) (q + q + (q + q)) (on_part (q + q) (q + q) (second_added 1 q) s) (omega arith)
      (part_block (q + q) (q + q) 0 (second_added 1 q) (second_block 1 q) s (upper_part s h))

  on_middle : (s : List ℕ) → Block (q + q + (q + q)) s
      → Block (q + q + (q + q)) (on_part q (q + q) (second_added 1 q) s)
  on_middle s h =
      block_is (q + (q + q + q)) (q + q + (q + q)) (on_part q (q + q) (second_added 1 q) s) (omega arith)
      (part_block q (q + q) q (second_added 1 q) (second_block 1 q) s (middle_part s h))

  pub quarters_block : (s : List ℕ) → Block (q + q + (q + q)) s → Block (q + q + (q + q)) (quarters q s)
  unfolding quarters
  quarters_block s h = on_middle (on_part (q + q) (q + q) (second_added 1 q) s) (on_upper s h)

  pub quarters_back_block : (s : List ℕ) → Block (q + q + (q + q)) s → Block (q + q + (q + q)) (quarters_back q s)
  unfolding quarters_back
  quarters_back_block s h = on_upper (on_part q (q + q) (second_added 1 q) s) (on_middle s h)

  pub quarters_undone : (s : List ℕ) → Block (q + q + (q + q)) s → quarters q (quarters_back q s) ≡ s
  unfolding quarters quarters_back
  quarters_undone s h =
      ap (on_part q (q + q) (second_added 1 q))
      (part_twice (q + q) (q + q) 0 (second_added 1 q) (second_block 1 q) (on_part q (q + q) (second_added 1 q) s)
      (upper_part (on_part q (q + q) (second_added 1 q) s) (on_middle s h)) (second_twice 1 q))
      ∙ part_twice q (q + q) q (second_added 1 q) (second_block 1 q) s (middle_part s h) (second_twice 1 q)

-- ---- quarters and weights

-- part by part
quarters_of : (q : ℕ) (a b c d : List ℕ) → length a ≡ q → length b ≡ q → length c ≡ q → length d ≡ q
    → quarters q ((a ++ b) ++ (c ++ d))
    ≡ (a ++ plus gf64 b (scale gf64 1 (plus gf64 c (scale gf64 1 d)))) ++ (plus gf64 c (scale gf64 1 d) ++ d)
unfolding quarters
quarters_of q a b c d ha hb hc hd =
    ap (on_part q (q + q) (second_added 1 q))
    (ap (λ (l : List ℕ). on_part (q + q) (q + q) (second_added 1 q) ((a ++ b) ++ l)) (sym (append-nil (c ++ d)))
    ∙ part_of (q + q) (q + q) (second_added 1 q) (a ++ b) (c ++ d) [] (length-append a b ∙ ap₂ ◌+◌ ha hb)
    (length-append c d ∙ ap₂ ◌+◌ hc hd)
    ∙ ap (λ (l : List ℕ). (a ++ b) ++ l) (append-nil (second_added 1 q (c ++ d)) ∙ second_of 1 q c d hc)
    ∙ append_assoc a b (c' ++ d) ∙ ap (λ (l : List ℕ). a ++ l) (sym (append_assoc b c' d)))
    ∙ part_of q (q + q) (second_added 1 q) a (b ++ c') d ha (length-append b c' ∙ ap₂ ◌+◌ hb hc')
    ∙ ap (λ (l : List ℕ). a ++ (l ++ d)) (second_of 1 q b c' hb)
    ∙ ap (λ (l : List ℕ). a ++ l) (append_assoc (plus gf64 b (scale gf64 1 c')) c' d)
    ∙ sym (append_assoc a (plus gf64 b (scale gf64 1 c')) (c' ++ d))
  where
    c' : List ℕ
    c' = plus gf64 c (scale gf64 1 d)

    hc' : length c' ≡ q
    hc' = length-plus gf64 c (scale gf64 1 d) (le_of_eq ((block_scale q 1 d hd).0 ∙ sym hc)) ∙ hc

-- a factor one next to another factor
one_absorbed : (y x : ℕ) → product y (product 1 x) ≡ product y x
one_absorbed y x = product_left_comm y 1 x ∙ product_one_l (product y x) (product_lt y x)

-- eight terms, of which four cancel
cancelled : (a b c d e f : ℕ)
    → bit_xor (bit_xor a (bit_xor b e)) (bit_xor (bit_xor (bit_xor c d) f) (bit_xor e d)) ≡ bit_xor (bit_xor a b) (bit_xor c f)
cancelled a b c d e f = simp (xor_assoc, xor_comm, xor_left_comm, xor_cancel)

-- a + b y + y^2 (c + d y) after the step, for the sums of the quarters
quarter_sums : (y a b c d : ℕ)
    → let c' = sum c (product 1 d) in
    sum (sum a (product y (sum b (product 1 c')))) (product (sum (product y y) y) (sum c' (product y d)))
    ≡ sum (sum a (product y b)) (product (product y y) (sum c (product y d)))
quarter_sums y a b c d =
    ap₂ (λ (p r : ℕ). sum (sum a p) r)
    (product-add_r y b (product 1 c') ∙ ap (bit_xor (product y b)) (one_absorbed y c'))
    (product-add_l (product y y) y (sum c' (product y d))
    ∙ ap₂ bit_xor
    (product-add_r (product y y) c' (product y d)
    ∙ ap (λ (p : ℕ). sum p (product (product y y) (product y d)))
    (product-add_r (product y y) c (product 1 d)
    ∙ ap (bit_xor (product (product y y) c)) (one_absorbed (product y y) d)))
    (product-add_r y c' (product y d) ∙ ap (bit_xor (product y c')) (sym (product_assoc y y d))))
    ∙ cancelled a (product y b) (product (product y y) c) (product (product y y) d) (product y c')
    (product (product y y) (product y d))
    ∙ ap (bit_xor (sum a (product y b))) (sym (product-add_r (product y y) c (product y d)))
  where
    c' : ℕ
    c' = sum c (product 1 d)

pub doubled : (n : ℕ) → 2 ^ suc n ≡ 2 ^ n + 2 ^ n
doubled n = omega arith

module _ (y : ℕ) (ws : List ℕ) where
  q : ℕ
  q = 2 ^ length ws

  -- two weights over four parts
  two_weights : (w : ℕ) (a b c d : List ℕ) → length a ≡ q → length b ≡ q → length c ≡ q
      → weighted (w ∷ y ∷ ws) ((a ++ b) ++ (c ++ d))
      ≡ sum (sum (weighted ws a) (product y (weighted ws b)))
      (product w (sum (weighted ws c) (product y (weighted ws d))))
  unfolding q
  two_weights w a b c d ha hb hc =
      weighted_halves w (y ∷ ws) (a ++ b) (c ++ d) (length-append a b ∙ ap₂ ◌+◌ ha hb ∙ sym (doubled (length ws)))
      ∙ ap₂ (λ (p r : ℕ). sum p (product w r)) (weighted_halves y ws a b ha) (weighted_halves y ws c d hc)

  quarters-weighted : (s : List ℕ) → Block (q + q + (q + q)) s
      → weighted (sum (product y y) y ∷ y ∷ ws) (quarters q s) ≡ weighted (product y y ∷ y ∷ ws) s
  quarters-weighted s h =
      ap (λ (l : List ℕ). weighted (sum (product y y) y ∷ y ∷ ws) (quarters q l)) (sym in_four)
      ∙ ap (weighted (sum (product y y) y ∷ y ∷ ws)) (quarters_of q a b c d ha.0 hb.0 hc.0 hd.0)
      ∙ two_weights (sum (product y y) y) a (plus gf64 b (scale gf64 1 c')) c' d ha.0
      (block_plus q b (scale gf64 1 c') hb (block_scale q 1 c' hc'.0)).0 hc'.0
      ∙ ap₂ (λ (p r : ℕ). sum (sum (weighted ws a) (product y p))
      (product (sum (product y y) y) (sum r (product y (weighted ws d)))))
      (weighted_multiple ws 1 b c' ∙ ap (λ (r : ℕ). sum (weighted ws b) (product 1 r)) (weighted_multiple ws 1 c d))
      (weighted_multiple ws 1 c d)
      ∙ quarter_sums y (weighted ws a) (weighted ws b) (weighted ws c) (weighted ws d)
      ∙ sym (two_weights (product y y) a b c d ha.0 hb.0 hc.0) ∙ ap (weighted (product y y ∷ y ∷ ws)) in_four
    where
      low : List ℕ
      low = take (q + q) s

      high : List ℕ
      high = drop (q + q) s

      lower : Block (q + q) low
      lower = block_take (q + q) (q + q) s h

      higher : Block (q + q) high
      higher = block_drop (q + q) (q + q) s h

      a : List ℕ
      a = take q low

      b : List ℕ
      b = drop q low

      c : List ℕ
      c = take q high

      d : List ℕ
      d = drop q high

      c' : List ℕ
      c' = plus gf64 c (scale gf64 1 d)

      ha : Block q a
      ha = block_take q q low lower

      hb : Block q b
      hb = block_drop q q low lower

      hc : Block q c
      hc = block_take q q high higher

      hd : Block q d
      hd = block_drop q q high higher

      hc' : Block q c'
      hc' = block_plus q c (scale gf64 1 d) hc (block_scale q 1 d hd.0)

      in_four : (a ++ b) ++ (c ++ d) ≡ s
      in_four =
          ap₂ (λ (x z : List ℕ). x ++ z) (take-append-drop q low) (take-append-drop q high)
          ∙ take-append-drop (q + q) s

-- ---- all halves of four runs or more

-- half of 2^(suc upper) runs
pub half_runs : (upper lower : ℕ) → 2 ^ (suc upper + lower) ≡ 2 ^ (upper + lower) + 2 ^ (upper + lower)
half_runs upper lower = ap (λ (n : ℕ). 2 ^ n) (suc-add upper lower) ∙ omega arith

module _ (lower upper : ℕ) where
  quarter : ℕ
  quarter = 2 ^ (upper + lower)

  half : ℕ
  half = 2 ^ (suc upper + lower)

  half_is : half ≡ quarter + quarter
  unfolding half quarter
  half_is = half_runs upper lower

  in_quarters : (s : List ℕ) → Block (half + half) s → Block (quarter + quarter + (quarter + quarter)) s
  in_quarters s h = block_is (half + half) (quarter + quarter + (quarter + quarter)) s (ap₂ ◌+◌ half_is half_is) h

  of_quarters : (s : List ℕ) → Block (quarter + quarter + (quarter + quarter)) s → Block (half + half) s
  of_quarters s h =
      block_is (quarter + quarter + (quarter + quarter)) (half + half) s (sym (ap₂ ◌+◌ half_is half_is)) h

stepped_halves : (lower upper : ℕ) (s : List ℕ) → Block (2 ^ (suc upper + lower) + 2 ^ (suc upper + lower)) s
    → Block (2 ^ (suc upper + lower) + 2 ^ (suc upper + lower)) (quarters (2 ^ (upper + lower)) s)
unfolding quarter half
stepped_halves lower upper s h =
    of_quarters lower upper (quarters (2 ^ (upper + lower)) s)
    (quarters_block (2 ^ (upper + lower)) s (in_quarters lower upper s h))

pub regrouped_block : (lower upper : ℕ) (s : List ℕ) → Block (2 ^ (upper + lower)) s
    → Block (2 ^ (upper + lower)) (regrouped lower upper s)
unfolding regrouped quarter half
regrouped_block lower zero s h = h
regrouped_block lower (suc zero) s h = h
regrouped_block lower (suc (suc upper)) s h =
    block_is (m + m) (2 ^ (suc (suc upper) + lower))
    (regrouped lower (suc upper) (take m t) ++ regrouped lower (suc upper) (drop m t))
    (sym (half_runs (suc upper) lower))
    (block_append m m (regrouped lower (suc upper) (take m t)) (regrouped lower (suc upper) (drop m t))
    (regrouped_block lower (suc upper) (take m t) (block_take m m t stepped))
    (regrouped_block lower (suc upper) (drop m t) (block_drop m m t stepped)))
  where
    m : ℕ
    m = 2 ^ (suc upper + lower)

    t : List ℕ
    t = quarters (2 ^ (upper + lower)) s

    stepped : Block (m + m) t
    stepped =
        stepped_halves lower upper s
        (block_is (2 ^ (suc (suc upper) + lower)) (m + m) s (half_runs (suc upper) lower) h)

pub regrouped_back_block : (lower upper : ℕ) (s : List ℕ) → Block (2 ^ (upper + lower)) s
    → Block (2 ^ (upper + lower)) (regrouped_back lower upper s)
unfolding regrouped_back quarter half
regrouped_back_block lower zero s h = h
regrouped_back_block lower (suc zero) s h = h
regrouped_back_block lower (suc (suc upper)) s h =
    block_is (m + m) (2 ^ (suc (suc upper) + lower)) (quarters_back (2 ^ (upper + lower)) (first ++ second))
    (sym (half_runs (suc upper) lower))
    (of_quarters lower upper (quarters_back (2 ^ (upper + lower)) (first ++ second))
    (quarters_back_block (2 ^ (upper + lower)) (first ++ second)
    (in_quarters lower upper (first ++ second)
    (block_append m m first second
    (regrouped_back_block lower (suc upper) (take m s) (block_take m m s halves))
    (regrouped_back_block lower (suc upper) (drop m s) (block_drop m m s halves))))))
  where
    m : ℕ
    m = 2 ^ (suc upper + lower)

    halves : Block (m + m) s
    halves = block_is (2 ^ (suc (suc upper) + lower)) (m + m) s (half_runs (suc upper) lower) h

    first : List ℕ
    first = regrouped_back lower (suc upper) (take m s)

    second : List ℕ
    second = regrouped_back lower (suc upper) (drop m s)

pub regrouped_undone : (lower upper : ℕ) (s : List ℕ) → Block (2 ^ (upper + lower)) s
    → regrouped lower upper (regrouped_back lower upper s) ≡ s
unfolding regrouped regrouped_back quarter half
regrouped_undone lower zero s h = refl
regrouped_undone lower (suc zero) s h = refl
regrouped_undone lower (suc (suc upper)) s h =
    ap (λ (l : List ℕ). regrouped lower (suc upper) (take m l) ++ regrouped lower (suc upper) (drop m l))
    (quarters_undone (2 ^ (upper + lower)) (first ++ second)
    (in_quarters lower upper (first ++ second) (block_append m m first second firsts seconds)))
    ∙ ap₂ (λ (x y : List ℕ). regrouped lower (suc upper) x ++ regrouped lower (suc upper) y)
    (take_at first second m firsts.0) (drop_at first second m firsts.0)
    ∙ ap₂ (λ (x y : List ℕ). x ++ y)
    (regrouped_undone lower (suc upper) (take m s) (block_take m m s halves))
    (regrouped_undone lower (suc upper) (drop m s) (block_drop m m s halves))
    ∙ take-append-drop m s
  where
    m : ℕ
    m = 2 ^ (suc upper + lower)

    halves : Block (m + m) s
    halves = block_is (2 ^ (suc (suc upper) + lower)) (m + m) s (half_runs (suc upper) lower) h

    first : List ℕ
    first = regrouped_back lower (suc upper) (take m s)

    second : List ℕ
    second = regrouped_back lower (suc upper) (drop m s)

    firsts : Block m first
    firsts = regrouped_back_block lower (suc upper) (take m s) (block_take m m s halves)

    seconds : Block m second
    seconds = regrouped_back_block lower (suc upper) (drop m s) (block_drop m m s halves)

-- ---- its weights

pub power-product : (a b n : ℕ) → power (product a b) n ≡ product (power a n) (power b n)
power-product a b zero =
    power_zero (product a b) ∙ sym (ap₂ product (power_zero a) (power_zero b) ∙ product_one_l 1 (omega arith))
power-product a b (suc n) =
    power-suc (product a b) n ∙ ap (product (product a b)) (power-product a b n)
    ∙ product_swap a b (power a n) (power b n) ∙ sym (ap₂ product (power-suc a n) (power-suc b n))

pub power_first : (z : ℕ) → IsElement z → power z (2 ^ 0) ≡ z
power_first z h = power_one z ∙ sym (product_one z) ∙ product_one_l z h

-- z^(2^(n+1)) is the square of z^(2^n)
next_square : (z n : ℕ) → power z (2 ^ suc n) ≡ product (power z (2 ^ n)) (power z (2 ^ n))
next_square z n = ap (power z) (pow-suc 2 n) ∙ power_double z (2 ^ n)

-- (z^2 + z)^(2^n) is the sum of the two
next_sum : (z n : ℕ)
    → power (sum (product z z) z) (2 ^ n) ≡ sum (product (power z (2 ^ n)) (power z (2 ^ n))) (power z (2 ^ n))
next_sum z n = power-sum n (product z z) z ∙ ap (λ (p : ℕ). sum p (power z (2 ^ n))) (power-product z z (2 ^ n))

pub length_with : (z n : ℕ) (ws : List ℕ) → length (squares z n ++ ws) ≡ n + length ws
length_with z n ws = length-append (squares z n) ws ∙ ap (λ (m : ℕ). m + length ws) (length-squares z n)

pub regrouped-weighted : (z : ℕ) (ws : List ℕ) (upper : ℕ) (s : List ℕ) → IsElement z
    → Block (2 ^ (suc upper + length ws)) s
    → weighted (squares (sum (product z z) z) upper ++ (z ∷ ws)) (regrouped (length ws) (suc upper) s)
    ≡ weighted (squares z (suc upper) ++ ws) s
unfolding regrouped squares q
regrouped-weighted z ws zero s hz h = ap (λ (w : ℕ). weighted (w ∷ ws) s) (sym (power_first z hz))
regrouped-weighted z ws (suc upper) s hz h =
    ap (λ (w : ℕ). weighted (w ∷ after) (first ++ second)) (next_sum z upper)
    ∙ weighted_halves (sum (product y y) y) after first second
    (firsts.0 ∙ ap (λ (n : ℕ). 2 ^ n) (suc-add upper (length ws) ∙ sym counted))
    ∙ ap₂ (λ (p r : ℕ). sum p (product (sum (product y y) y) r))
    (regrouped-weighted z ws upper (take m t) hz (block_take m m t stepped))
    (regrouped-weighted z ws upper (drop m t) hz (block_drop m m t stepped))
    ∙ sym (weighted_halves (sum (product y y) y) (y ∷ below) (take m t) (drop m t)
    ((block_take m m t stepped).0 ∙ ap (λ (n : ℕ). 2 ^ n) (suc-add upper (length ws)
    ∙ ap suc (sym (length_with z upper ws)))))
    ∙ ap (weighted (sum (product y y) y ∷ y ∷ below)) (take-append-drop m t)
    ∙ ap (λ (n : ℕ). weighted (sum (product y y) y ∷ y ∷ below) (quarters (2 ^ n) s)) (sym (length_with z upper ws))
    ∙ quarters-weighted y below s (block_is (m + m) (q y below + q y below +
    (q y below + q y below)) s quartered halves)
    ∙ ap (λ (w : ℕ). weighted (w ∷ y ∷ below) s) (sym (next_square z upper))
  where
    m : ℕ
    m = 2 ^ (suc upper + length ws)

    y : ℕ
    y = power z (2 ^ upper)

    below : List ℕ
    below = squares z upper ++ ws

    after : List ℕ
    after = squares (sum (product z z) z) upper ++ (z ∷ ws)

    t : List ℕ
    t = quarters (2 ^ (upper + length ws)) s

    first : List ℕ
    first = regrouped (length ws) (suc upper) (take m t)

    second : List ℕ
    second = regrouped (length ws) (suc upper) (drop m t)

    halves : Block (m + m) s
    halves = block_is (2 ^ (suc (suc upper) + length ws)) (m + m) s (half_runs (suc upper) (length ws)) h

    stepped : Block (m + m) t
    stepped = stepped_halves (length ws) upper s halves

    firsts : Block m first
    firsts = regrouped_block (length ws) (suc upper) (take m t) (block_take m m t stepped)

    counted : length after ≡ suc (upper + length ws)
    counted =
        length_with (sum (product z z) z) upper (z ∷ ws) ∙ add-suc upper (length ws)

    quartered : m + m ≡ q y below + q y below + (q y below + q y below)
    quartered = ap₂ ◌+◌ one one
      where
        one : m ≡ 2 ^ length below + 2 ^ length below
        one = half_runs upper (length ws) ∙ ap (λ (n : ℕ). 2 ^ n + 2 ^ n) (sym (length_with z upper ws))
