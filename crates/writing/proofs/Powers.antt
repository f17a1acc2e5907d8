-- How many decimal digits a number has, by the power of ten that is the greatest below it. Assumes nothing.
use mathlib.Core.Path.{◌≡◌, ap, ◌∙◌}
use Prim.Native.Nat.{ℕ, zero, suc, ◌+◌, ◌*◌, ◌/◌, ◌^◌, ◌≤◌, ◌<◌}
use native.Mathlib.Omega.{arith}
use Rattle.line_text.specs.Digits.{places_within}
use Rattle.line_text.proofs.Decimals.{places_digit, places_tenth}

pub places_between : (more k n : ℕ) → k ≤ more → 10 ^ k ≤ n → n < 10 * 10 ^ k → places_within more n ≡ suc k
places_between more zero n h low high = places_digit more n (omega arith)
places_between zero (suc k) n h low high = absurd (omega arith)
places_between (suc more) (suc k) n h low high =
    places_tenth more n (omega arith) ∙ ap suc (places_between more k (n / 10) (omega arith) (omega arith) (omega arith))

-- in 64 bits
pub places_64 : (k n : ℕ) → k < 20 → 10 ^ k ≤ n → n < 10 * 10 ^ k → k + 1 ≡ places_within 19 n
places_64 k n h low high = omega (arith, places_between 19 k n (omega arith) low high)

pub places_zero : (n : ℕ) → n ≡ 0 → 0 + 1 ≡ places_within 19 n
places_zero n e = omega (arith, places_digit 19 n (omega arith))
