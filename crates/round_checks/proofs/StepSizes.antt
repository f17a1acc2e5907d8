-- The number of entries of a coset, and where it begins, as the code computes them. Assumes nothing.
use mathlib.Core.Path.{◌≡◌, sym, ap, subst}
use Prim.Native.Nat.{ℕ, ◌*◌, ◌/◌, ◌%◌, ◌^◌, ◌≤◌, ◌<◌}
use native.Mathlib.Nat.{mod-lt, div-add-mod'}
use native.Mathlib.Omega.{arith}
use lib.Pow.{pow_pos, pow_mono}
use Rattle.coset.proofs.Sizes.{size_shifted}

abbrev pub size_of : (step : ℕ) → ℕ
size_of step = 1 * 2 ^ step % 2 ^ 64

-- where the coset begins that holds the index
abbrev pub begin_of : (step index : ℕ) → ℕ
begin_of step index = index / size_of step * size_of step

module _ (step : ℕ) (few : step ≤ 3) where
  pub size_is : size_of step ≡ 2 ^ step
  size_is = size_shifted step (omega arith)

  pub size_most : 2 ^ step ≤ 8
  size_most = pow_mono {i = step} {j = 3} few

  pub size_some : 1 ≤ size_of step
  size_some = subst (λ (n : ℕ). 1 ≤ n) (sym size_is) (pow_pos step)

  pub size_eight : size_of step ≤ 8
  size_eight = subst (λ (n : ℕ). n ≤ 8) (sym size_is) size_most

  -- where the index lies in its coset
  pub between_within : (index : ℕ) → index % size_of step < 8
  between_within index = omega (arith, mod-lt index size_some, size_eight)

  -- the coset begins at the index or before
  pub begin_is : (index : ℕ) → begin_of step index ≡ index / 2 ^ step * 2 ^ step
  begin_is index = ap (λ (n : ℕ). index / n * n) size_is

  pub begin_before : (index : ℕ) → begin_of step index ≤ index
  begin_before index = omega (arith, div-add-mod' index (size_of step))
