-- The dimension is that of the next power of two. Assumes nothing.
use mathlib.Core.Path.{◌≡◌, sym, ◌∙◌, subst}
use mathlib.Core.Logic.{◌⊎◌, inl, inr, ⊎_elim}
use native.Mathlib.Nat.{pow-suc, le_trans}
use native.Mathlib.Omega.{arith}
use lib.Pow.{pow_mono, pow_pos}
use Prim.Native.Nat.{ℕ, zero, suc, ◌*◌, ◌/◌, ◌^◌, ◌≤◌, ◌<◌, max}
use Rattle.coding.proofs.dimension_of.Goals as goal

le_or_lt : (j i : ℕ) → (j ≤ i) ⊎ (i < j)
le_or_lt zero i = inl (omega arith)
le_or_lt (suc j) zero = inr (omega arith)
le_or_lt (suc j) (suc i) = ⊎_elim (λ l. inl (omega arith)) (λ l. inr (omega arith)) (le_or_lt j i)

doubled : (m n : ℕ) → m < n → 2 * 2 ^ m ≤ 2 ^ n
doubled m n h = subst (λ (k : ℕ). k ≤ 2 ^ n) (pow-suc 2 m ∙ omega arith) (pow_mono {i = suc m} {j = n} (omega arith))

-- p, a power of two, is 2^r
is_power : (p r k : ℕ) → p ≡ 2 ^ k → p < 2 * 2 ^ r → p ≤ 2 ^ r
is_power p r k e h =
    ⊎_elim (λ l. subst (λ (n : ℕ). n ≤ 2 ^ r) (sym e) (pow_mono l))
    (λ l. absurd (omega (arith, doubled r k l, e))) (le_or_lt k r)

least : (count p r m : ℕ) → m < r → 2 ^ r ≤ p → p / 2 < max 1 count → 2 ^ m < count
least count p r m h low up = omega (arith, doubled m r h, pow_pos m)

pub returns : goal.returns
returns c =
    let p = c.next_power_of_two in
    let r = c.ilog2 in (
      le_trans p.ensures.lower_bound
          (is_power p.result r.result p.ensures.power.0 p.ensures.power.1 r.ensures.next_power_gt),
      λ m h. least c.args.count p.result r.result m h r.ensures.power_le p.ensures.upper_bound,
    )
