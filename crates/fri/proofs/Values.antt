-- The two values of a round check, by the query's index in the next layer. Assumes nothing.
use mathlib.Core.Path.{◌≡◌, sym, ap, ◌∙◌, subst}
use mathlib.Core.Bool.{Bool, cond}
use Prim.Native.Nat.{ℕ, suc, ◌-◌, ◌^◌, ◌<◌}
use native.Mathlib.Nat.{zero-add, le_of_eq}
use lib.ListN.{length, get_or}
use borrow.Author.Tests.{lt-ltb, le-ltb}
use Rattle.poly.specs.Carrier.{gf64}
use Rattle.poly.specs.Polynomial.{evaluate}
use Rattle.coset.specs.Coset.{point}
use Rattle.coset.proofs.Points.{get_or-tabulated}
use Rattle.fold.specs.Fold.{folded, fold_entry}
use Rattle.fri.specs.Layout.{dimension, index_in}
use Rattle.fri.specs.Run.{Run, steps_in, rounds_in, challenge_in, layer_in, step_in}
use Rattle.fri.specs.Layers.{basis_in, offset_in, fold_of}
use Rattle.fri.specs.Rounds.{value_computed, value_found}
use Rattle.fri.specs.Demand.{ValidCoset}
use Rattle.fri.proofs.Cosets.{length-layer_basis}

-- the fold's entry
pub computed_entry : (run : Run) (v : ValidCoset run) (j i m : ℕ) → m < 2 ^ dimension run.k (steps_in run) (suc i)
    → index_in (steps_in run) j (suc i) ≡ m
    → value_computed run j i ≡ get_or (fold_of run i (layer_in run i)) m 0
unfolding value_computed fold_of folded dimension
computed_entry run v j i m h e =
    ap (fold_entry (step_in run i) (offset_in run i) (basis_in run i) (layer_in run i) (challenge_in run i)) e
    ∙ sym (get_or-tabulated (fold_entry (step_in run i) (offset_in run i) (basis_in run i) (layer_in run i)
    (challenge_in run i)) 0 (2 ^ (length (basis_in run i) - step_in run i)) m
    (subst (λ (n : ℕ). m < 2 ^ (n - step_in run i)) (sym (length-layer_basis run v i)) h)
    ∙ ap (fold_entry (step_in run i) (offset_in run i) (basis_in run i) (layer_in run i) (challenge_in run i)) (zero-add m))

-- the next layer's entry
pub found_entry : (run : Run) (j i m : ℕ) → suc i < rounds_in run → index_in (steps_in run) j (suc i) ≡ m
    → value_found run j i ≡ get_or (layer_in run (suc i)) m 0
unfolding value_found
found_entry run j i m h e =
    ap (λ (t : Bool). cond t (get_or (layer_in run (suc i)) (index_in (steps_in run) j (suc i)) 0)
    (evaluate gf64 run.last (point (offset_in run (suc i)) (basis_in run (suc i)) (index_in (steps_in run) j (suc i)))))
    (lt-ltb (suc i) (rounds_in run) h)
    ∙ ap (λ (n : ℕ). get_or (layer_in run (suc i)) n 0) e

-- the last polynomial's value
pub found_last : (run : Run) (j i m : ℕ) → suc i ≡ rounds_in run → index_in (steps_in run) j (suc i) ≡ m
    → value_found run j i ≡ evaluate gf64 run.last (point (offset_in run (suc i)) (basis_in run (suc i)) m)
unfolding value_found
found_last run j i m h e =
    ap (λ (t : Bool). cond t (get_or (layer_in run (suc i)) (index_in (steps_in run) j (suc i)) 0)
    (evaluate gf64 run.last (point (offset_in run (suc i)) (basis_in run (suc i)) (index_in (steps_in run) j (suc i)))))
    (le-ltb (suc i) (rounds_in run) (le_of_eq (sym h)))
    ∙ ap (λ (n : ℕ). evaluate gf64 run.last (point (offset_in run (suc i)) (basis_in run (suc i)) n)) e
