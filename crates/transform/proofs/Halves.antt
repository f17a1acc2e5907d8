-- The steps on the halves of a list of elements keep its length, and each undoes itself. Assumes nothing.
use mathlib.Core.Path.{◌≡◌, refl, sym, ap, ap₂, ◌∙◌}
use mathlib.Core.List.{List, [], ◌∷◌, ◌++◌}
use Prim.Native.Nat.{ℕ, ◌+◌}
use native.Mathlib.Omega.{arith}
use native.Mathlib.Nat.{le_of_eq}
use lib.ListN.{length, take, drop, length-append, length-drop, take-append-drop}
use lib.Seq.{take_at, drop_at, length-take-le}
use lib.Bits.{bit_xor, xor_self, xor_zero_r}
use Rattle.gf64.specs.Field.{IsElement, product}
use Rattle.gf64.proofs.Xor.{xor_assoc, xor_cancel}
use Rattle.gf64.proofs.Ring.{product_lt}
use Rattle.poly.specs.Carrier.{gf64}
use Rattle.poly.specs.Polynomial.{All, plus, scale}
use Rattle.poly.proofs.AtField.{gf64_laws}
use Rattle.poly.proofs.Entries.{all_take, all_drop, all_append, all_map, all_of}
use Rattle.poly.proofs.Evaluation.{length-plus, length-scale, plus-elements}
use Rattle.transform.specs.Transform.{second_added, first_added, on_part}

-- m elements
abbrev pub Block : (m : ℕ) (s : List ℕ) → Type 0
Block m s = (length s ≡ m) × All IsElement s

pub block_take : (m n : ℕ) (s : List ℕ) → Block (m + n) s → Block m (take m s)
block_take m n s h = (length-take-le m s (omega (arith, h.0)), all_take IsElement m s h.1)

pub block_drop : (m n : ℕ) (s : List ℕ) → Block (m + n) s → Block n (drop m s)
block_drop m n s h = (length-drop m s ∙ omega (arith, h.0), all_drop IsElement m s h.1)

pub block_append : (m n : ℕ) (a b : List ℕ) → Block m a → Block n b → Block (m + n) (a ++ b)
block_append m n a b ha hb =
    (length-append a b ∙ ap₂ ◌+◌ ha.0 hb.0, all_append IsElement a b ha.1 hb.1)

pub block_plus : (m : ℕ) (a b : List ℕ) → Block m a → Block m b → Block m (plus gf64 a b)
block_plus m a b ha hb = (
  length-plus gf64 a b (le_of_eq (hb.0 ∙ sym ha.0)) ∙ ha.0,
  plus-elements gf64 IsElement gf64_laws a b ha.1 hb.1,
)

pub block_scale : (m c : ℕ) (a : List ℕ) → length a ≡ m → Block m (scale gf64 c a)
unfolding scale
block_scale m c a h = (
  length-scale gf64 c a ∙ h,
  all_map (λ x. record {}) IsElement (product c) (λ x u. product_lt c x) a (all_of (λ x. record {}) (λ x. record {})
      a),
)

-- ---- a step on halves, of the halves

pub second_of : (c m : ℕ) (a b : List ℕ) → length a ≡ m
    → second_added c m (a ++ b) ≡ plus gf64 a (scale gf64 c b) ++ b
unfolding second_added
second_of c m a b h =
    ap₂ (λ (x y : List ℕ). plus gf64 x (scale gf64 c y) ++ y) (take_at a b m h) (drop_at a b m h)

pub first_of : (m : ℕ) (a b : List ℕ) → length a ≡ m → first_added m (a ++ b) ≡ a ++ plus gf64 a b
unfolding first_added
first_of m a b h = ap₂ (λ (x y : List ℕ). x ++ plus gf64 x y) (take_at a b m h) (drop_at a b m h)

pub second_block : (c m : ℕ) (s : List ℕ) → Block (m + m) s → Block (m + m) (second_added c m s)
unfolding second_added
second_block c m s h =
    block_append m m (plus gf64 (take m s) (scale gf64 c (drop m s))) (drop m s)
    (block_plus m (take m s) (scale gf64 c (drop m s)) (block_take m m s h)
    (block_scale m c (drop m s) (block_drop m m s h).0))
    (block_drop m m s h)

pub first_block : (m : ℕ) (s : List ℕ) → Block (m + m) s → Block (m + m) (first_added m s)
unfolding first_added
first_block m s h =
    block_append m m (take m s) (plus gf64 (take m s) (drop m s)) (block_take m m s h)
    (block_plus m (take m s) (drop m s) (block_take m m s h) (block_drop m m s h))

-- ---- twice

cancel_right : (a x : ℕ) → bit_xor (bit_xor a x) x ≡ a
cancel_right a x = xor_assoc a x x ∙ ap (bit_xor a) (xor_self x) ∙ xor_zero_r a

plus_twice : (a x : List ℕ) → length x ≡ length a → plus gf64 (plus gf64 a x) x ≡ a
unfolding plus
plus_twice [] [] h = refl
plus_twice [] (x ∷ xs) h = absurd (omega arith)
plus_twice (a ∷ rest) [] h = absurd (omega arith)
plus_twice (a ∷ rest) (x ∷ xs) h =
    ap₂ (λ (b : ℕ) (l : List ℕ). b ∷ l) (cancel_right a x) (plus_twice rest xs (omega arith))

plus_cancel : (a b : List ℕ) → length a ≡ length b → plus gf64 a (plus gf64 a b) ≡ b
unfolding plus
plus_cancel [] [] h = refl
plus_cancel [] (b ∷ bs) h = absurd (omega arith)
plus_cancel (a ∷ rest) [] h = absurd (omega arith)
plus_cancel (a ∷ rest) (b ∷ bs) h =
    ap₂ (λ (c : ℕ) (l : List ℕ). c ∷ l) (xor_cancel a b) (plus_cancel rest bs (omega arith))

pub second_twice : (c m : ℕ) (s : List ℕ) → Block (m + m) s → second_added c m (second_added c m s) ≡ s
unfolding second_added
second_twice c m s h =
    second_of c m (plus gf64 a (scale gf64 c b)) b (block_plus m a (scale gf64 c b) ha scaled).0
    ∙ ap (λ (l : List ℕ). l ++ b) (plus_twice a (scale gf64 c b) (scaled.0 ∙ sym ha.0))
    ∙ take-append-drop m s
  where
    a : List ℕ
    a = take m s

    b : List ℕ
    b = drop m s

    ha : Block m a
    ha = block_take m m s h

    scaled : Block m (scale gf64 c b)
    scaled = block_scale m c b (block_drop m m s h).0

pub first_twice : (m : ℕ) (s : List ℕ) → Block (m + m) s → first_added m (first_added m s) ≡ s
unfolding first_added
first_twice m s h =
    first_of m (take m s) (plus gf64 (take m s) (drop m s)) (block_take m m s h).0
    ∙ ap (λ (l : List ℕ). take m s ++ l)
    (plus_cancel (take m s) (drop m s) ((block_take m m s h).0 ∙ sym (block_drop m m s h).0))
    ∙ take-append-drop m s

-- ---- a step on a part

pub part_of : (p n : ℕ) (f : List ℕ → List ℕ) (a b c : List ℕ) → length a ≡ p → length b ≡ n
    → on_part p n f (a ++ (b ++ c)) ≡ a ++ (f b ++ c)
unfolding on_part
part_of p n f a b c ha hb =
    ap₂ (λ (x y : List ℕ). x ++ (f (take n y) ++ drop n y)) (take_at a (b ++ c) p ha) (drop_at a (b ++ c) p ha)
    ∙ ap₂ (λ (x y : List ℕ). a ++ (f x ++ y)) (take_at b c n hb) (drop_at b c n hb)

-- in three parts
pub parts : (p n : ℕ) (s : List ℕ) → s ≡ take p s ++ (take n (drop p s) ++ drop n (drop p s))
parts p n s = sym (ap (λ (l : List ℕ). take p s ++ l) (take-append-drop n (drop p s)) ∙ take-append-drop p s)

module _ (p n r : ℕ) (f : List ℕ → List ℕ) (keeps : (b : List ℕ) → Block n b → Block n (f b)) (s : List ℕ)
    (h : Block (p + (n + r)) s) where
  before : List ℕ
  before = take p s

  part : List ℕ
  part = take n (drop p s)

  after : List ℕ
  after = drop n (drop p s)

  in-front : Block p before
  unfolding before
  in-front = block_take p (n + r) s h

  within : Block n part
  unfolding part
  within = block_take n r (drop p s) (block_drop p (n + r) s h)

  behind : Block r after
  unfolding after
  behind = block_drop n r (drop p s) (block_drop p (n + r) s h)

  pub part_block : Block (p + (n + r)) (on_part p n f s)
  unfolding on_part before part after
  part_block =
      block_append p (n + r) before (f part ++ after) in-front
      (block_append n r (f part) after (keeps part within) behind)

  pub part_twice : ((b : List ℕ) → Block n b → f (f b) ≡ b) → on_part p n f (on_part p n f s) ≡ s
  unfolding on_part before part after
  part_twice undoes =
      part_of p n f before (f part) after in-front.0 (keeps part within).0
      ∙ ap (λ (l : List ℕ). before ++ (l ++ after)) (undoes part within) ∙ sym (parts p n s)
