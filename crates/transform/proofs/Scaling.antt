-- Runs times powers of r: the weights of r z become those of z; the powers of its inverse undo it. Assumes nothing.
use mathlib.Core.Path.{◌≡◌, refl, sym, ap, ap₂, ◌∙◌}
use mathlib.Core.List.{List, ◌∷◌, ◌++◌, map}
use Prim.Native.Nat.{ℕ, zero, suc, ◌+◌, ◌*◌, ◌/◌, ◌%◌, ◌^◌, ◌<◌, ◌≤◌}
use native.Mathlib.Nat.{zero-add, add-zero, div-eq_of_lt, mul-add-div_right}
use native.Mathlib.Omega.{arith}
use lib.Pow.{pow_pos, pow-add, split, high}
use lib.ListN.{length, get_or, take, drop, length-append, length-drop, length-map, take-append-drop, get_or-append}
use lib.Seq.{ext_get_or, get_or-append-add, get_or-take, get_or-drop, length-take-le}
use borrow.Rule.Slice.PartMut.{mid_of, put_mid}
use Rattle.gf64.specs.Field.{IsElement, sum, product, power}
use Rattle.gf64.proofs.Ring.{product_lt, product_comm, product_assoc, product_one_l}
use Rattle.gf64.proofs.Power.{power_zero, power-suc, power-add}
use Rattle.poly.specs.Carrier.{gf64}
use Rattle.poly.specs.Polynomial.{All, scale}
use Rattle.poly.proofs.Entries.{all_get_d}
use Rattle.poly.proofs.Filling.{filled, filled_all, get_d_map, part_held, part_filled}
use Rattle.coset.specs.Coset.{tabulated}
use Rattle.coset.proofs.Points.{length-tabulated, get_or-tabulated, all_tabulated, tabulated_agree, map-tabulated}
use Rattle.coset.proofs.Points.{tabulated_part}
use Rattle.transform.specs.Transform.{weighted, squares, scaled_runs}
use Rattle.transform.proofs.Halves.{Block, block_take, block_drop}
use Rattle.transform.proofs.Weighted.{weighted_halves, weighted-scale}
use Rattle.transform.proofs.Regrouping.{block_is, half_runs, power-product, length_with}
use Rattle.transform.proofs.Tables.{tabulated_halves}

pub scaled_block : (lower r m : ℕ) (s : List ℕ) → length s ≡ m → Block m (scaled_runs lower r s)
unfolding scaled_runs
scaled_block lower r m s h = (
  length-tabulated (λ i. product (power r (i / 2 ^ lower)) (get_or s i 0)) 0 (length s) ∙ h,
  all_tabulated IsElement (λ i. product (power r (i / 2 ^ lower)) (get_or s i 0)) 0 (length s)
      (λ i l u. product_lt (power r (i / 2 ^ lower)) (get_or s i 0)),
)

pub scaled_get_or : (lower r : ℕ) (s : List ℕ) (i : ℕ) → i < length s
    → get_or (scaled_runs lower r s) i 0 ≡ product (power r (i / 2 ^ lower)) (get_or s i 0)
unfolding scaled_runs
scaled_get_or lower r s i h =
    get_or-tabulated (λ j. product (power r (j / 2 ^ lower)) (get_or s j 0)) 0 (length s) i h
    ∙ ap (λ (j : ℕ). product (power r (j / 2 ^ lower)) (get_or s j 0)) (zero-add i)

power_of_one : (n : ℕ) → power 1 n ≡ 1
power_of_one zero = power_zero 1
power_of_one (suc n) = power-suc 1 n ∙ ap (product 1) (power_of_one n) ∙ product_one_l 1 (omega arith)

pub scaled_undone : (lower r r' : ℕ) (s : List ℕ) → product r r' ≡ 1 → All IsElement s
    → scaled_runs lower r (scaled_runs lower r' s) ≡ s
scaled_undone lower r r' s inverse h =
    ext_get_or 0 (scaled_runs lower r inner) s (scaled_block lower r (length s) inner counted).0
    (λ i l. entry i (omega (arith, (scaled_block lower r (length s) inner counted).0)))
  where
    inner : List ℕ
    inner = scaled_runs lower r' s

    counted : length inner ≡ length s
    counted = (scaled_block lower r' (length s) s refl).0

    entry : (i : ℕ) → i < length s → get_or (scaled_runs lower r inner) i 0 ≡ get_or s i 0
    entry i l =
        scaled_get_or lower r inner i (omega (arith, counted))
        ∙ ap (product (power r (i / 2 ^ lower))) (scaled_get_or lower r' s i l)
        ∙ sym (product_assoc (power r (i / 2 ^ lower)) (power r' (i / 2 ^ lower)) (get_or s i 0))
        ∙ ap (λ (p : ℕ). product p (get_or s i 0))
        (sym (power-product r r' (i / 2 ^ lower)) ∙ ap (λ (p : ℕ). power p (i / 2 ^ lower)) inverse
        ∙ power_of_one (i / 2 ^ lower))
        ∙ product_one_l (get_or s i 0) (all_get_d IsElement s i 0 (omega arith) h)

-- ---- halves

-- one run stays
scaled_one_run : (lower r : ℕ) (s : List ℕ) → Block (2 ^ lower) s → scaled_runs lower r s ≡ s
scaled_one_run lower r s h =
    ext_get_or 0 (scaled_runs lower r s) s (scaled_block lower r (length s) s refl).0
    (λ i l. entry i (omega (arith, (scaled_block lower r (length s) s refl).0)))
  where
    entry : (i : ℕ) → i < length s → get_or (scaled_runs lower r s) i 0 ≡ get_or s i 0
    entry i l =
        scaled_get_or lower r s i l
        ∙ ap (λ (n : ℕ). product (power r n) (get_or s i 0)) (div-eq_of_lt (omega (arith, h.0)))
        ∙ ap (λ (p : ℕ). product p (get_or s i 0)) (power_zero r)
        ∙ product_one_l (get_or s i 0) (all_get_d IsElement s i 0 (omega arith) h.1)

-- the second half starts at run 2^upper
scaled_halves : (lower upper r : ℕ) (a b : List ℕ) → length a ≡ 2 ^ (upper + lower) → length b ≡ 2 ^ (upper + lower)
    → scaled_runs lower r (a ++ b)
    ≡ scaled_runs lower r a ++ scale gf64 (power r (2 ^ upper)) (scaled_runs lower r b)
unfolding scaled_runs scale
scaled_halves lower upper r a b ha hb =
    ap (tabulated whole 0) (length-append a b ∙ ap₂ ◌+◌ ha hb) ∙ tabulated_halves whole m
    ∙ ap₂ (λ (x y : List ℕ). x ++ y)
    (tabulated_agree whole (first a) 0 m (λ i l u. front i (omega arith))
    ∙ ap (tabulated (first a) 0) (sym ha))
    (tabulated_agree (λ i. whole (m + i)) (λ i. product (power r (2 ^ upper)) (first b i)) 0 m (λ i l u. back i)
    ∙ sym (map-tabulated (product (power r (2 ^ upper))) (first b) 0 m)
    ∙ ap (λ (n : ℕ). map (product (power r (2 ^ upper))) (tabulated (first b) 0 n)) (sym hb))
  where
    m : ℕ
    m = 2 ^ (upper + lower)

    whole : ℕ → ℕ
    whole i = product (power r (i / 2 ^ lower)) (get_or (a ++ b) i 0)

    first : List ℕ → ℕ → ℕ
    first l i = product (power r (i / 2 ^ lower)) (get_or l i 0)

    front : (i : ℕ) → i < m → whole i ≡ first a i
    front i h = ap (product (power r (i / 2 ^ lower))) (get_or-append a b 0 i (omega (arith, ha)))

    later : (i : ℕ) → (m + i) / 2 ^ lower ≡ 2 ^ upper + i / 2 ^ lower
    later i =
        ap (λ (n : ℕ). (n + i) / 2 ^ lower) (pow-add 2 upper lower)
        ∙ mul-add-div_right (pow_pos lower) (2 ^ upper) i

    back : (i : ℕ) → whole (m + i) ≡ product (power r (2 ^ upper)) (first b i)
    back i =
        ap₂ (λ (n v : ℕ). product (power r n) v) (later i)
        (ap (λ (n : ℕ). get_or (a ++ b) (n + i) 0) (sym ha) ∙ get_or-append-add a b i 0)
        ∙ ap (λ (p : ℕ). product p (get_or b i 0)) (power-add r (2 ^ upper) (i / 2 ^ lower))
        ∙ product_assoc (power r (2 ^ upper)) (power r (i / 2 ^ lower)) (get_or b i 0)

-- ---- weights

pub scaled_weighted : (r z : ℕ) (ws : List ℕ) (upper : ℕ) (s : List ℕ) → Block (2 ^ (upper + length ws)) s
    → weighted (squares z upper ++ ws) (scaled_runs (length ws) r s)
    ≡ weighted (squares (product r z) upper ++ ws) s
unfolding squares
scaled_weighted r z ws zero s h =
    ap (weighted ws)
    (scaled_one_run (length ws) r s
    (block_is (2 ^ (0 + length ws)) (2 ^ length ws) s (ap (λ (n : ℕ). 2 ^ n) (zero-add (length ws))) h))
scaled_weighted r z ws (suc upper) s h =
    ap (λ (l : List ℕ). weighted (power z (2 ^ upper) ∷ below z) (scaled_runs (length ws) r l))
    (sym (take-append-drop m s))
    ∙ ap (weighted (power z (2 ^ upper) ∷ below z)) (scaled_halves (length ws) upper r a b ha.0 hb.0)
    ∙ weighted_halves (power z (2 ^ upper)) (below z) (scaled_runs (length ws) r a)
    (scale gf64 (power r (2 ^ upper)) (scaled_runs (length ws) r b))
    ((scaled_block (length ws) r m a ha.0).0 ∙ ap (λ (n : ℕ). 2 ^ n) (sym (length_with z upper ws)))
    ∙ ap₂ (λ (p v : ℕ). sum p (product (power z (2 ^ upper)) v)) (scaled_weighted r z ws upper a ha)
    (weighted-scale (below z) (power r (2 ^ upper)) (scaled_runs (length ws) r b)
    ∙ ap (product (power r (2 ^ upper))) (scaled_weighted r z ws upper b hb))
    ∙ ap (sum (weighted (below (product r z)) a))
    (sym (product_assoc (power z (2 ^ upper)) (power r (2 ^ upper)) (weighted (below (product r z)) b))
    ∙ ap (λ (p : ℕ). product p (weighted (below (product r z)) b))
    (product_comm (power z (2 ^ upper)) (power r (2 ^ upper)) ∙ sym (power-product r z (2 ^ upper))))
    ∙ sym (weighted_halves (power (product r z) (2 ^ upper)) (below (product r z)) a b
    (ha.0 ∙ ap (λ (n : ℕ). 2 ^ n) (sym (length_with (product r z) upper ws))))
    ∙ ap (weighted (power (product r z) (2 ^ upper) ∷ below (product r z))) (take-append-drop m s)
  where
    m : ℕ
    m = 2 ^ (upper + length ws)

    below : ℕ → List ℕ
    below w = squares w upper ++ ws

    halves : Block (m + m) s
    halves = block_is (2 ^ (suc upper + length ws)) (m + m) s (half_runs upper (length ws)) h

    a : List ℕ
    a = take m s

    b : List ℕ
    b = drop m s

    ha : Block m a
    ha = block_take m m s halves

    hb : Block m b
    hb = block_drop m m s halves

-- ---- run by run, as a loop goes

-- at is a multiple of the run
runs_whole : (lower at : ℕ) → at % 2 ^ lower ≡ 0 → at / 2 ^ lower * 2 ^ lower ≡ at
runs_whole lower at h =
    sym (add-zero (at / 2 ^ lower * 2 ^ lower)) ∙ ap (λ (n : ℕ). at / 2 ^ lower * 2 ^ lower + n) (sym h)
    ∙ split at lower

-- run number at / 2^lower
run_scaled : (lower r : ℕ) (s : List ℕ) (at : ℕ) → at % 2 ^ lower ≡ 0 → at + 2 ^ lower ≤ length s
    → scale gf64 (power r (at / 2 ^ lower)) (take (2 ^ lower) (drop at s))
    ≡ take (2 ^ lower) (drop at (scaled_runs lower r s))
unfolding scaled_runs scale
run_scaled lower r s at whole inside =
    ext_get_or 0 (map (product (power r (at / 2 ^ lower))) part) (take (2 ^ lower) (drop at (tabulated f 0 (length s))))
    (length-map part (product (power r (at / 2 ^ lower))) ∙ counted
    ∙ sym (ap length table ∙ length-tabulated f at (2 ^ lower)))
    (λ i l. entry i (omega (arith, length-map part (product (power r (at / 2 ^ lower))), counted)))
  where
    part : List ℕ
    part = take (2 ^ lower) (drop at s)

    f : ℕ → ℕ
    f i = product (power r (i / 2 ^ lower)) (get_or s i 0)

    counted : length part ≡ 2 ^ lower
    counted = length-take-le (2 ^ lower) (drop at s) (omega (arith, length-drop at s))

    table : take (2 ^ lower) (drop at (tabulated f 0 (length s))) ≡ tabulated f at (2 ^ lower)
    table = tabulated_part f at (2 ^ lower) (length s) inside

    same_run : (i : ℕ) → i < 2 ^ lower → at / 2 ^ lower ≡ (at + i) / 2 ^ lower
    same_run i l =
        sym (ap (λ (m : ℕ). (m + i) / 2 ^ lower) (sym (runs_whole lower at whole)) ∙ high (at / 2 ^ lower) lower l)

    entry : (i : ℕ) → i < 2 ^ lower
        → get_or (map (product (power r (at / 2 ^ lower))) part) i 0
        ≡ get_or (take (2 ^ lower) (drop at (tabulated f 0 (length s)))) i 0
    entry i l =
        get_d_map (product (power r (at / 2 ^ lower))) part i (omega (arith, counted))
        ∙ ap₂ (λ (n v : ℕ). product (power r n) v) (same_run i l)
        (get_or-take (2 ^ lower) (drop at s) i 0 l ∙ get_or-drop at s i 0)
        ∙ sym (ap (λ (t : List ℕ). get_or t i 0) table ∙ get_or-tabulated f at (2 ^ lower) i l)

pub runs_next : (lower r : ℕ) (s now changed : List ℕ) (at end n : ℕ) → end ≡ at + 2 ^ lower → n ≡ 2 ^ lower
    → at % 2 ^ lower ≡ 0 → end ≤ length s → now ≡ filled (scaled_runs lower r s) s at
    → changed ≡ scale gf64 (power r (at / 2 ^ lower)) (mid_of at n now)
    → put_mid at n now changed ≡ filled (scaled_runs lower r s) s end
runs_next lower r s now changed at end n e m whole inside inv c =
    ap₂ (λ (l : ℕ) (h : List ℕ). put_mid at l h changed) m inv
    ∙ ap (put_mid at (2 ^ lower) (filled target s at))
    (c
    ∙ ap₂ (λ (l : ℕ) (h : List ℕ). scale gf64 (power r (at / 2 ^ lower)) (mid_of at l h)) m inv
    ∙ ap (scale gf64 (power r (at / 2 ^ lower))) (part_held target s at (2 ^ lower) counted fits)
    ∙ run_scaled lower r s at whole fits)
    ∙ part_filled target s at (2 ^ lower) counted fits ∙ ap (filled target s) (sym e)
  where
    target : List ℕ
    target = scaled_runs lower r s

    counted : length target ≡ length s
    counted = (scaled_block lower r (length s) s refl).0

    fits : at + 2 ^ lower ≤ length s
    fits = omega arith

pub runs_end : (lower r : ℕ) (s now : List ℕ) (at : ℕ) → length s ≤ at → now ≡ filled (scaled_runs lower r s) s at
    → now ≡ scaled_runs lower r s
runs_end lower r s now at h inv =
    inv ∙ filled_all (scaled_runs lower r s) s at h (scaled_block lower r (length s) s refl).0
