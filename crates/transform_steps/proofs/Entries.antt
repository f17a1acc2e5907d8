-- Two lists added, and a list multiplied, entry by entry as a loop does it. Assumes nothing.
use mathlib.Core.Path.{◌≡◌, refl, sym, ap, ap₂, ◌∙◌}
use mathlib.Core.List.{List, [], ◌∷◌, ◌++◌}
use Prim.Native.Nat.{ℕ, zero, suc, ◌+◌, ◌/◌, ◌%◌, ◌≤◌, ◌<◌}
use native.Mathlib.Nat.{le_refl, le_of_eq}
use native.Mathlib.Omega.{arith}
use lib.ListN.{length, get_or, take, drop, set, length-drop}
use lib.Seq.{length-take-le}
use lib.Bits.{xor_comm}
use Rattle.gf64.specs.Field.{sum, product}
use Rattle.poly.specs.Carrier.{gf64}
use Rattle.poly.specs.Polynomial.{plus, scale}
use Rattle.poly.proofs.Evaluation.{length-plus, length-scale}
use Rattle.poly.proofs.Filling.{filled, filled_next, filled_rest, filled_all, get_d_map}
use Rattle.transform.specs.Transform.{second_added, first_added}

plus-get_or : (a b : List ℕ) (i : ℕ) → length b ≡ length a → i < length a
    → get_or (plus gf64 a b) i 0 ≡ sum (get_or a i 0) (get_or b i 0)
unfolding plus
plus-get_or [] b i e h = absurd (omega arith)
plus-get_or (x ∷ a) [] i e h = absurd (omega arith)
plus-get_or (x ∷ a) (y ∷ b) zero e h = refl
plus-get_or (x ∷ a) (y ∷ b) (suc i) e h = plus-get_or a b i (omega arith) (omega arith)

plus-comm : (a b : List ℕ) → length b ≡ length a → plus gf64 a b ≡ plus gf64 b a
unfolding plus
plus-comm [] [] e = refl
plus-comm [] (y ∷ b) e = absurd (omega arith)
plus-comm (x ∷ a) [] e = absurd (omega arith)
plus-comm (x ∷ a) (y ∷ b) e = ap₂ (λ (z : ℕ) (l : List ℕ). z ∷ l) (xor_comm x y) (plus-comm a b (omega arith))

length_added : (a b : List ℕ) → length b ≡ length a → length (plus gf64 a b) ≡ length a
length_added a b e = length-plus gf64 a b (le_of_eq e)

-- the next sum is stored
pub added_next : (a b now : List ℕ) (i v : ℕ) → length b ≡ length a → i < length a
    → now ≡ filled (plus gf64 a b) a i → v ≡ sum (get_or now i 0) (get_or b i 0)
    → set now i v ≡ filled (plus gf64 a b) a (i + 1)
added_next a b now i v e h inv s =
    ap (λ (t : List ℕ). set t i v) inv
    ∙ filled_next (plus gf64 a b) a i v h (length_added a b e)
    (s ∙ ap (λ (x : ℕ). sum x (get_or b i 0))
    (ap (λ (t : List ℕ). get_or t i 0) inv
    ∙ filled_rest (plus gf64 a b) a i i (le_refl i) (length_added a b e))
    ∙ sym (plus-get_or a b i e h))

added_end : (a b now : List ℕ) (i : ℕ) → length b ≡ length a → length a ≤ i
    → now ≡ filled (plus gf64 a b) a i → now ≡ plus gf64 a b
added_end a b now i e h inv = inv ∙ filled_all (plus gf64 a b) a i h (length_added a b e)

module _ (s first second now : List ℕ) (i : ℕ) (halves : length s % 2 ≡ 0) (front : first ≡ take (length s / 2) s)
    (back : second ≡ drop (length s / 2) s) where
  even : length second ≡ length first
  even =
      ap length back ∙ length-drop (length s / 2) s
      ∙ omega (arith, halves, ap length front, length-take-le (length s / 2) s (omega arith))

  -- the first half is changed, or the second
  pub second_end : (c : ℕ) → length first ≤ i → now ≡ filled (plus gf64 first (scale gf64 c second)) first i
      → now ++ second ≡ second_added c (length s / 2) s
  unfolding second_added
  second_end c h inv =
      ap₂ (λ (x y : List ℕ). x ++ y)
      (added_end first (scale gf64 c second) now i (length-scale gf64 c second ∙ even) h inv
      ∙ ap₂ (λ (x y : List ℕ). plus gf64 x (scale gf64 c y)) front back) back

  pub first_end : length second ≤ i → now ≡ filled (plus gf64 second first) second i
      → first ++ now ≡ first_added (length s / 2) s
  unfolding first_added
  first_end h inv =
      ap₂ (λ (x y : List ℕ). x ++ y) front
      (added_end second first now i (sym even) h inv ∙ plus-comm second first (sym even)
      ∙ ap₂ (λ (x y : List ℕ). plus gf64 x y) front back)

-- the next product is stored
pub scaled_next : (c : ℕ) (s now : List ℕ) (i v : ℕ) → i < length s → now ≡ filled (scale gf64 c s) s i
    → v ≡ product c (get_or now i 0)
    → set now i v ≡ filled (scale gf64 c s) s (i + 1)
unfolding scale
scaled_next c s now i v h inv e =
    ap (λ (t : List ℕ). set t i v) inv
    ∙ filled_next (scale gf64 c s) s i v h (length-scale gf64 c s)
    (e ∙ ap (product c)
    (ap (λ (t : List ℕ). get_or t i 0) inv
    ∙ filled_rest (scale gf64 c s) s i i (le_refl i) (length-scale gf64 c s))
    ∙ sym (get_d_map (product c) s i h))

pub scaled_end : (c : ℕ) (s now : List ℕ) (i : ℕ) → length s ≤ i → now ≡ filled (scale gf64 c s) s i
    → now ≡ scale gf64 c s
scaled_end c s now i h inv = inv ∙ filled_all (scale gf64 c s) s i h (length-scale gf64 c s)
