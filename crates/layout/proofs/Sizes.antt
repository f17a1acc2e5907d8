-- Sizes that parameters in range allow: rounds, dimensions, and where the layers begin. Assumes nothing.
use mathlib.Core.Path.{◌≡◌, refl}
use mathlib.Core.List.{List}
use Prim.Native.Nat.{ℕ, zero, suc, ◌*◌, ◌-◌, ◌^◌, ◌≤◌, ◌<◌}
use native.Mathlib.Nat.{le_trans, suc-mul}
use native.Mathlib.Omega.{arith}
use lib.Pow.{pow_mono}
use lib.ListN.{length}
use Rattle.fri.specs.Layout.{dimension, last_count, layer_start, store_length}
use Rattle.fri.proofs.Layouts.{dimension_of_layer, rounds_fit, rounds_few, some_round}
use Rattle.layout.specs.declared.Parameters.{Parameters}
use Rattle.layout.specs.Parameters.{steps_by, Valid}

dimension_falls : (k : ℕ) (steps : List ℕ) (i : ℕ) → dimension k steps i ≤ k
unfolding dimension
dimension_falls k steps zero = omega arith
dimension_falls k steps (suc i) = omega (arith, dimension_falls k steps i)

-- k is at most 20, so a layer has at most 2^20 entries
pub layer_small : (k : ℕ) (steps : List ℕ) (i : ℕ) → k ≤ 20 → 2 ^ dimension k steps i ≤ 2 ^ 20
layer_small k steps i h = pow_mono {i = dimension k steps i} {j = 20} (le_trans (dimension_falls k steps i) h)

pub start_small : (k : ℕ) (steps : List ℕ) (i : ℕ) → k ≤ 20 → layer_start k steps i ≤ i * 2 ^ 20
unfolding layer_start
start_small k steps zero h = omega arith
start_small k steps (suc zero) h = omega arith
start_small k steps (suc (suc i)) h = omega (arith, start_small k steps (suc i) h, layer_small k steps (suc i) h)

pub start_of_first : (k : ℕ) (steps : List ℕ) → 0 ≡ layer_start k steps 1
unfolding layer_start
start_of_first k steps = refl

pub store_length_is : (k : ℕ) (steps : List ℕ) → layer_start k steps (length steps) ≡ store_length k steps
unfolding store_length
store_length_is k steps = refl

pub last_count_is : (k rate : ℕ) (steps : List ℕ)
    → 2 ^ (dimension k steps (length steps) - rate) ≡ last_count k rate steps
unfolding last_count
last_count_is k rate steps = refl

module _ (p : Parameters) (v : Valid p) where
  pub few_rounds : length (steps_by p) ≤ 19
  few_rounds = rounds_few p.k p.rate p.step v.rate_least v.step_least v.k_most

  pub one_round : 1 ≤ length (steps_by p)
  one_round = some_round p.k p.rate p.step v.step_least v.k_enough

  pub dimension_is : (i : ℕ) → i ≤ length (steps_by p) → dimension p.k (steps_by p) i ≡ p.k - i * p.step
  dimension_is i h = dimension_of_layer p.k p.rate p.step i h

  pub rounds_taken : (i : ℕ) → i ≤ length (steps_by p) → i * p.step ≤ p.k - p.rate
  rounds_taken i h = rounds_fit p.k p.rate p.step i v.step_least h

  pub dimension_most : (i : ℕ) → dimension p.k (steps_by p) i ≤ 20
  dimension_most i = le_trans (dimension_falls p.k (steps_by p) i) v.k_most

  -- the rate fits in the dimension of each layer
  pub rate_fits : (i : ℕ) → i ≤ length (steps_by p) → p.rate ≤ dimension p.k (steps_by p) i
  rate_fits i h = omega (arith, dimension_is i h, rounds_taken i h, v.k_enough)

  -- there are at most 19 rounds
  pub start_few : (i : ℕ) → i ≤ length (steps_by p) → layer_start p.k (steps_by p) i ≤ 19 * 2 ^ 20
  start_few i h = le_trans (start_small p.k (steps_by p) i v.k_most) (omega (arith, few_rounds))

  -- a step is taken off each layer but the last
  pub step_within : (i : ℕ) → i < length (steps_by p) → p.step ≤ dimension p.k (steps_by p) i
  step_within i h =
      omega (arith, dimension_is i (omega arith), rounds_taken (suc i) h, suc-mul i p.step, v.k_enough)
