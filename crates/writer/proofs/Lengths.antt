-- The numbers that a transcript's length is made of are small. Assumes nothing.
use mathlib.Core.Logic.{⊎_elim}
use Prim.Native.Nat.{ℕ, ◌+◌, ◌*◌, ◌-◌, ◌%◌, ◌^◌, ◌≤◌, ◌<◌}
use native.Mathlib.Nat.{le_of_eq, le_trans}
use lib.Pow.{pow_mono}
use native.Mathlib.Omega.{arith}
use Rattle.coset.proofs.Sizes.{size_shifted}
use Rattle.fri.specs.Layout.{rounds_of, last_count, store_length}
use Rattle.fri.proofs.Layouts.{length_steps}
use Rattle.layout.proofs.Sizes.{few_rounds, start_few, store_length_is}
use Rattle.layout.specs.Lengths.{lengths_due}
use Rattle.layout.specs.declared.Lengths.{Lengths}
use Rattle.layout.specs.declared.Shape.{Shape}
use lib.ListN.{length}
use mathlib.Core.Path.{◌≡◌, refl, sym, subst}
use Rattle.fri.proofs.Layers.{layouts}
use Rattle.layout.specs.declared.Parameters.{Parameters}
use Rattle.layout.specs.Parameters.{steps_by, Valid}

module _ (p : Parameters) (valid : Valid p) where
  last_few : last_count p.k p.rate (steps_by p) ≤ 4
  last_few =
      ⊎_elim (λ e. omega arith) (λ o. ⊎_elim (λ e. omega arith) (λ e. omega arith) o)
      (layouts.few_coefficients p.k p.rate p.step valid)

  word_small : 1 * 2 ^ p.k % 2 ^ 64 ≤ 2 ^ 20
  word_small =
      let most = valid.k_most in
      le_trans (le_of_eq (size_shifted p.k (omega arith))) (pow_mono {i = p.k} {j = 20} most)

  rounds : rounds_of p.k p.rate p.step ≤ 19
  rounds = omega (arith, few_rounds p valid, length_steps p.k p.rate p.step)

  store : store_length p.k (steps_by p) ≤ 19 * 2 ^ 20
  store =
      le_trans (le_of_eq (sym (store_length_is p.k (steps_by p))))
      (start_few p valid (length (steps_by p)) (le_of_eq refl))

-- so are the bytes of the entries, where no list has 2^60 queries
abbrev Few : (k queries : ℕ) (due : Lengths) → Type 0
Few k queries due =
    (8 * (3 + (1 + k) + due.rounds + queries + 1 * 2 ^ k % 2 ^ 64 + due.store + due.last) < 2 ^ 64 - 2 ^ 10)
    × (due.rounds ≤ 19)

pub entries_few : (shape : Shape) (due : Lengths) → due ≡ lengths_due shape.parameters
    → (queries : ℕ) → queries < 2 ^ 60 → Few shape.parameters.k queries due
entries_few shape due is queries few =
    let p = shape.parameters in
    let v = shape.valid in
    subst (Few p.k queries) (sym is)
    (omega (arith, few, rounds p v, store p v, last_few p v, word_small p v, v.k_most), rounds p v)
