-- A decimal number with spaces on its left. Assumes nothing.
use mathlib.Core.Path.{◌≡◌, refl, sym, ap, ◌∙◌}
use mathlib.Core.List.{List, ◌∷◌, ◌++◌}
use Prim.Native.Nat.{ℕ, zero, suc, ◌-◌, ◌^◌, ◌≤◌, ◌<◌}
use native.Mathlib.Omega.{arith}
use lib.ListN.{length, take, replicate, length-replicate}
use Rattle.line_text.specs.Digits.{bytes, digits, places_within, decimal}
use Rattle.line_text.proofs.Decimals.{length_digits}
use Rattle.sheet_text.specs.Sheet.{decimal_field}
use Rattle.sheet_text.proofs.Lines.{decimal_short}

take-replicate : (m n : ℕ) → m ≤ n → take {A = ℕ} m (replicate n 32) ≡ replicate m 32
take-replicate zero n h = refl
take-replicate (suc m) zero h = absurd (omega arith)
take-replicate (suc m) (suc n) h = ap {B = List ℕ} (λ l. 32 ∷ l) (take-replicate m n (omega arith))

-- the first of eight spaces
pub length_spaces : (m : ℕ) → m ≤ 8 → length {A = ℕ} (take m (replicate 8 32)) ≡ m
length_spaces m h = ap {B = ℕ} length (take-replicate m 8 h) ∙ length-replicate {A = ℕ} m 32

pub length_decimal : (n : ℕ) → length (decimal n) ≡ places_within 19 n
unfolding decimal
length_decimal n = length_digits 10 (places_within 19 n) n

pub decimal_fits : (width n : ℕ) → 0 < width → n < 10 ^ width → length (decimal n) ≤ width
decimal_fits zero n some h = absurd (omega arith)
decimal_fits (suc width) n some h = decimal_short width n h

-- the first bytes of eight spaces, the digits and a space
pub padded : (n width count : ℕ) → width ≤ 8 → count ≡ places_within 19 n
    → (take (width - count) (replicate 8 32) ++ digits 10 count n) ++ bytes " " ≡ decimal_field width n
unfolding decimal decimal_field
padded n width count h e =
    let spaces = take-replicate (width - count) 8 (omega arith) in
    let same : count ≡ length (decimal n) = e ∙ sym (length_decimal n) in
    ap {B = List ℕ} (λ l. (l ++ digits 10 count n) ++ bytes " ") spaces
    ∙ ap (λ (m : ℕ). (replicate (width - m) 32 ++ digits 10 count n) ++ bytes " ") same
    ∙ ap (λ (m : ℕ). (replicate (width - length (decimal n)) 32 ++ digits 10 m n) ++ bytes " ") e
