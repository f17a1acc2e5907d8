-- The digits of a number in a base, filled in from the back: what is still to come stands before what is filled in.
-- Assumes nothing.
use mathlib.Core.Path.{◌≡◌, sym, ap, ap₂, ◌∙◌}
use mathlib.Core.List.{List, [], ◌∷◌, ◌++◌, append_assoc}
use Prim.Native.Nat.{ℕ, suc, ◌+◌, ◌-◌, ◌/◌, ◌%◌, ◌≤◌, ◌<◌}
use native.Mathlib.Omega.{arith}
use lib.ListN.{length, take, drop, set}
use lib.Seq.{take-add}
use Rattle.std.proofs.lemmas.List.{drop-set}
use Rattle.line_text.specs.Digits.{digit, digits}

-- the last digit of what is still to come
digits_next : (base at place rest : ℕ) → at < place
    → digits base (place - at) rest ≡ digits base (place - 1 - at) (rest / base) ++ (digit (rest % base) ∷ [])
unfolding digits
digits_next base at place rest h =
    let more : place - at ≡ suc (place - 1 - at) = omega arith in ap (λ (width : ℕ). digits base width rest) more

-- what is filled in, with a byte before it
byte_set : (out : List ℕ) (place end v : ℕ) → 0 < place → place ≤ end → end ≤ length out
    → take (end - (place - 1)) (drop (place - 1) (set out (place - 1) v)) ≡ v ∷ take (end - place) (drop place out)
byte_set out place end v h within room =
    let more : end - (place - 1) ≡ suc (end - place) = omega arith in
    let same : place - 1 + 1 ≡ place = omega arith in
    ap (take (end - (place - 1))) (drop-set out (place - 1) v (omega arith))
    ∙ ap₂ (λ (n m : ℕ). take n (v ∷ drop m out)) more same

module _ (out whole : List ℕ) (base at place end rest : ℕ) where
  pub filled_next : (v : ℕ) → at < place → place ≤ end → end ≤ length out → v ≡ digit (rest % base)
      → digits base (place - at) rest ++ take (end - place) (drop place out) ≡ whole
      → digits base (place - 1 - at) (rest / base) ++ take (end - (place - 1)) (drop (place - 1) (set out (place - 1) v))
      ≡ whole
  filled_next v h within room is filled =
      let tail = take (end - place) (drop place out) in
      let before = digits base (place - 1 - at) (rest / base) in
      ap (λ (l : List ℕ). before ++ l) (byte_set out place end v (omega arith) within room)
      ∙ ap (λ (d : ℕ). before ++ (d ∷ tail)) is
      ∙ sym (append_assoc before (digit (rest % base) ∷ []) tail)
      ∙ ap (λ (l : List ℕ). l ++ tail) (sym (digits_next base at place rest h))
      ∙ filled

-- nothing is still to come
pub filled_end : (out whole : List ℕ) (base at place width rest : ℕ) → place ≤ at → at ≤ place
    → digits base (place - at) rest ++ take (at + width - place) (drop place out) ≡ whole
    → take (at + width) out ≡ take at out ++ whole
unfolding digits
filled_end out whole base at place width rest less more filled =
    let none : 0 ≡ place - at = omega arith in
    let all : width ≡ at + width - place = omega arith in
    let same : at ≡ place = omega arith in
    take-add at width out
    ∙ ap (λ (l : List ℕ). take at out ++ l)
    (ap₂ (λ (n m : ℕ). take n (drop m out)) all same
    ∙ ap (λ (n : ℕ). digits base n rest ++ take (at + width - place) (drop place out)) none
    ∙ filled)
