-- Weighted sums: linear in the list, halved with it; those with the powers of x are the values at x. Assumes nothing.
use mathlib.Core.Path.{◌≡◌, refl, sym, ap, ap₂, ◌∙◌}
use mathlib.Core.List.{List, [], ◌∷◌, ◌++◌}
use Prim.Native.Nat.{ℕ, zero, suc, ◌^◌, ◌≤◌}
use native.Mathlib.Omega.{arith}
use lib.ListN.{length, get_or, take, drop, length-drop, drop_of_length-le}
use lib.Seq.{take_at, drop_at, take_all, take-nil, drop-nil}
use lib.Bits.{bit_xor, xor_zero_r, xor_lt}
use Rattle.gf64.specs.Field.{IsElement, sum, product, power}
use Rattle.gf64.proofs.Xor.{xor_assoc, xor_swap}
use Rattle.gf64.proofs.Ring.{product_lt, product_assoc, product-add_r, product-zero_r, product_one_l}
use Rattle.gf64.proofs.Ring.{product_left_comm}
use Rattle.gf64.proofs.Power.{power_zero, power-suc}
use Rattle.poly.specs.Carrier.{gf64}
use Rattle.poly.specs.Polynomial.{All, evaluate, plus, scale}
use Rattle.poly.proofs.Entries.{all_take, all_drop, all_get_d, map-take, map-drop}
use Rattle.transform.specs.Transform.{weighted, squares}

-- ---- parts of sums and multiples

take-plus : (n : ℕ) (a b : List ℕ) → take n (plus gf64 a b) ≡ plus gf64 (take n a) (take n b)
unfolding plus
take-plus zero a b = refl
take-plus (suc n) [] b = refl
take-plus (suc n) (x ∷ a) [] = refl
take-plus (suc n) (x ∷ a) (y ∷ b) = ap {B = List ℕ} (λ l. bit_xor x y ∷ l) (take-plus n a b)

plus_nil : (a : List ℕ) → plus gf64 a [] ≡ a
unfolding plus
plus_nil [] = refl
plus_nil (x ∷ a) = refl

drop-plus : (n : ℕ) (a b : List ℕ) → drop n (plus gf64 a b) ≡ plus gf64 (drop n a) (drop n b)
unfolding plus
drop-plus zero a b = refl
drop-plus (suc n) [] b = refl
drop-plus (suc n) (x ∷ a) [] = sym (plus_nil (drop n a))
drop-plus (suc n) (x ∷ a) (y ∷ b) = drop-plus n a b

first_plus : (a b : List ℕ) → get_or (plus gf64 a b) 0 0 ≡ sum (get_or a 0 0) (get_or b 0 0)
unfolding plus
first_plus [] b = refl
first_plus (x ∷ a) [] = sym (xor_zero_r x)
first_plus (x ∷ a) (y ∷ b) = refl

first_scale : (c : ℕ) (a : List ℕ) → get_or (scale gf64 c a) 0 0 ≡ product c (get_or a 0 0)
unfolding scale
first_scale c [] = sym (product-zero_r c)
first_scale c (x ∷ a) = refl

-- ---- linear

-- (p + q) + y (r + t) = (p + y r) + (q + y t)
pub terms_apart : (y p q r t : ℕ)
    → sum (sum p q) (product y (sum r t)) ≡ sum (sum p (product y r)) (sum q (product y t))
terms_apart y p q r t = ap (bit_xor (bit_xor p q)) (product-add_r y r t) ∙ xor_swap p q (product y r) (product y t)

pub weighted-plus : (ws a b : List ℕ) → weighted ws (plus gf64 a b) ≡ sum (weighted ws a) (weighted ws b)
unfolding weighted
weighted-plus [] a b = first_plus a b
weighted-plus (y ∷ ws) a b =
    ap₂ (λ (p q : ℕ). sum p (product y q))
    (ap (weighted ws) (take-plus m a b) ∙ weighted-plus ws (take m a) (take m b))
    (ap (weighted ws) (drop-plus m a b) ∙ weighted-plus ws (drop m a) (drop m b))
    ∙ terms_apart y (weighted ws (take m a)) (weighted ws (take m b)) (weighted ws (drop m a)) (weighted ws
    (drop m b))
  where
    m : ℕ
    m = 2 ^ length ws

pub weighted-scale : (ws : List ℕ) (c : ℕ) (a : List ℕ) → weighted ws (scale gf64 c a) ≡ product c (weighted ws a)
unfolding weighted scale
weighted-scale [] c a = first_scale c a
weighted-scale (y ∷ ws) c a =
    ap₂ (λ (p q : ℕ). sum p (product y q))
    (ap (weighted ws) (sym (map-take (product c) m a)) ∙ weighted-scale ws c (take m a))
    (ap (weighted ws) (sym (map-drop (product c) m a)) ∙ weighted-scale ws c (drop m a))
    ∙ ap (bit_xor (product c (weighted ws (take m a)))) (product_left_comm y c (weighted ws (drop m a)))
    ∙ sym (product-add_r c (weighted ws (take m a)) (product y (weighted ws (drop m a))))
  where
    m : ℕ
    m = 2 ^ length ws

pub weighted_multiple : (ws : List ℕ) (c : ℕ) (a b : List ℕ)
    → weighted ws (plus gf64 a (scale gf64 c b)) ≡ sum (weighted ws a) (product c (weighted ws b))
weighted_multiple ws c a b =
    weighted-plus ws a (scale gf64 c b) ∙ ap (bit_xor (weighted ws a)) (weighted-scale ws c b)

pub weighted-nil : (ws : List ℕ) → weighted ws [] ≡ 0
unfolding weighted
weighted-nil [] = refl
weighted-nil (y ∷ ws) =
    ap₂ (λ (p q : List ℕ). sum (weighted ws p) (product y (weighted ws q))) (take-nil (2 ^ length ws))
    (drop-nil (2 ^ length ws))
    ∙ ap₂ (λ (p q : ℕ). sum p (product y q)) (weighted-nil ws) (weighted-nil ws) ∙ product-zero_r y

pub weighted-element : (ws a : List ℕ) → All IsElement a → IsElement (weighted ws a)
unfolding weighted
weighted-element [] a h = all_get_d IsElement a 0 0 (omega arith) h
weighted-element (y ∷ ws) a h =
    xor_lt 64 (weighted ws (take m a)) (product y (weighted ws (drop m a)))
    (weighted-element ws (take m a) (all_take IsElement m a h)) (product_lt y (weighted ws (drop m a)))
  where
    m : ℕ
    m = 2 ^ length ws

-- ---- halves

pub weighted_halves : (y : ℕ) (ws a b : List ℕ) → length a ≡ 2 ^ length ws
    → weighted (y ∷ ws) (a ++ b) ≡ sum (weighted ws a) (product y (weighted ws b))
unfolding weighted
weighted_halves y ws a b h =
    ap₂ (λ (p q : List ℕ). sum (weighted ws p) (product y (weighted ws q))) (take_at a b (2 ^ length ws) h)
    (drop_at a b (2 ^ length ws) h)

-- the upper half left off
pub weighted_short : (y : ℕ) (ws a : List ℕ) → length a ≤ 2 ^ length ws → weighted (y ∷ ws) a ≡ weighted ws a
unfolding weighted
weighted_short y ws a h =
    ap₂ (λ (p q : List ℕ). sum (weighted ws p) (product y (weighted ws q))) (take_all (2 ^ length ws) a h)
    (drop_of_length-le a h)
    ∙ ap (λ (q : ℕ). sum (weighted ws a) (product y q)) (weighted-nil ws)
    ∙ ap (bit_xor (weighted ws a)) (product-zero_r y) ∙ xor_zero_r (weighted ws a)

-- ---- the value at x

pub length-squares : (z n : ℕ) → length (squares z n) ≡ n
unfolding squares
length-squares z zero = refl
length-squares z (suc n) = ap suc (length-squares z n)

-- p(x) = p₀(x) + x^n · p₁(x), where p₀ has the first n coefficients
evaluate_parted : (n : ℕ) (p : List ℕ) (x : ℕ) → IsElement x → All IsElement p
    → evaluate gf64 p x ≡ sum (evaluate gf64 (take n p) x) (product (power x n) (evaluate gf64 (drop n p) x))
unfolding evaluate
evaluate_parted zero p x hx hp =
    sym (ap (λ (w : ℕ). product w (evaluate gf64 p x)) (power_zero x) ∙ product_one_l (evaluate gf64 p x) (at p hp))
  where
    at : (l : List ℕ) → All IsElement l → IsElement (evaluate gf64 l x)
    at [] h = omega arith
    at (c ∷ l) h = xor_lt 64 c (product x (evaluate gf64 l x)) h.0 (product_lt x (evaluate gf64 l x))
evaluate_parted (suc n) [] x hx hp = sym (product-zero_r (power x (suc n)))
evaluate_parted (suc n) (c ∷ p) x hx hp =
    ap (λ (v : ℕ). sum c (product x v)) (evaluate_parted n p x hx hp.1)
    ∙ ap (bit_xor c) (product-add_r x low (product (power x n) high))
    ∙ sym (xor_assoc c (product x low) (product x (product (power x n) high)))
    ∙ ap (bit_xor (bit_xor c (product x low)))
    (sym (product_assoc x (power x n) high) ∙ ap (λ (w : ℕ). product w high) (sym (power-suc x n)))
  where
    low : ℕ
    low = evaluate gf64 (take n p) x

    high : ℕ
    high = evaluate gf64 (drop n p) x

pub weighted_value : (k : ℕ) (p : List ℕ) (x : ℕ) → IsElement x → All IsElement p → length p ≤ 2 ^ k
    → weighted (squares x k) p ≡ evaluate gf64 p x
unfolding weighted squares evaluate
weighted_value zero [] x hx hp h = refl
weighted_value zero (c ∷ []) x hx hp h =
    sym (ap (bit_xor c) (product-zero_r x) ∙ xor_zero_r c)
weighted_value zero (c ∷ d ∷ p) x hx hp h = absurd (omega arith)
weighted_value (suc k) p x hx hp h =
    ap (λ (n : ℕ). sum (weighted (squares x k) (take (2 ^ n) p))
    (product (power x (2 ^ k)) (weighted (squares x k) (drop (2 ^ n) p)))) (length-squares x k)
    ∙ ap₂ (λ (a b : ℕ). sum a (product (power x (2 ^ k)) b))
    (weighted_value k (take (2 ^ k) p) x hx (all_take IsElement (2 ^ k) p hp) short)
    (weighted_value k (drop (2 ^ k) p) x hx (all_drop IsElement (2 ^ k) p hp) rest)
    ∙ sym (evaluate_parted (2 ^ k) p x hx hp)
  where
    short : length (take (2 ^ k) p) ≤ 2 ^ k
    short = length-take_at_most (2 ^ k) p
      where
        length-take_at_most : (n : ℕ) (l : List ℕ) → length (take n l) ≤ n
        length-take_at_most zero l = omega arith
        length-take_at_most (suc n) [] = omega arith
        length-take_at_most (suc n) (a ∷ l) = omega (arith, length-take_at_most n l)

    rest : length (drop (2 ^ k) p) ≤ 2 ^ k
    rest = omega (arith, length-drop (2 ^ k) p)
