-- The dimension that the coefficients take up, and zeros behind them. Assumes nothing.
use mathlib.Core.Path.{◌≡◌}
use mathlib.Core.Logic.{◌⊎◌, inl, inr, ⊎_elim}
use mathlib.Core.List.{List, [], ◌∷◌, ◌++◌}
use Prim.Native.Nat.{ℕ, zero, suc, ◌-◌, ◌^◌, ◌≤◌, ◌<◌}
use native.Mathlib.Omega.{arith}
use lib.ListN.{length, drop, replicate}
use mathlib.Core.Path.{refl}
use Rattle.poly.specs.Carrier.{gf64}
use Rattle.poly.specs.Polynomial.{Zeros, DegreeBelow, padded}
use native.Mathlib.Nat.{le_trans}
use lib.Pow.{pow_mono}
use Rattle.reed_solomon.specs.Codes.{encoded}
use Rattle.reed_solomon.proofs.Theorems.{encoding}
use Rattle.poly.proofs.Entries.{all_drop, all_replicate}

-- the least m with count ≤ 2^m is at most every other
pub used_within : (r k count : ℕ) → ((m : ℕ) → m < r → 2 ^ m < count) → count ≤ 2 ^ k → r ≤ k
used_within r k count least h = ⊎_elim (λ l. l) (λ l. absurd (omega (arith, least k l))) (by r k)
  where
    by : (j i : ℕ) → (j ≤ i) ⊎ (i < j)
    by zero i = inl (omega arith)
    by (suc j) zero = inr (omega arith)
    by (suc j) (suc i) = ⊎_elim (λ l. inl (omega arith)) (λ l. inr (omega arith)) (by j i)

zeros_from : (m n : ℕ) (p : List ℕ) → length p ≤ m → Zeros gf64 (drop m (p ++ replicate n 0))
zeros_from m n [] h = all_drop (λ c. c ≡ 0) m (replicate n 0) (all_replicate (λ c. c ≡ 0) n 0 refl)
zeros_from zero n (c ∷ p) h = absurd (omega arith)
zeros_from (suc m) n (c ∷ p) h = zeros_from m n p (omega arith)

pub zeros_behind : (m n : ℕ) (p : List ℕ) → length p ≤ m → DegreeBelow gf64 m (padded gf64 n p)
unfolding padded
zeros_behind m n p h = zeros_from m (n - length p) p h

-- at most 2^k, k at most 20
pub within_20 : (k n : ℕ) → k ≤ 20 → n ≤ 2 ^ k → n ≤ 2 ^ 20
within_20 k n h l = le_trans l (pow_mono h)

-- coefficients that are left off are zero
pub left_off : (offset : ℕ) (basis coefficients : List ℕ)
    → encoded offset basis (padded gf64 (2 ^ length basis) coefficients) ≡ encoded offset basis coefficients
left_off = encoding.left_off

pub ruleset used = (used_within, zeros_behind, left_off)
