-- `honest_layers::fold_layer` meets its contract. Assumes nothing.
use mathlib.Core.Path.{sym, ap, ◌∙◌}
use Prim.Native.Nat.{ℕ, ◌-◌, ◌^◌}
use native.Mathlib.Omega.{arith}
use lib.ListN.{length}
use Rattle.coset.specs.Steps.{step_elements}
use Rattle.coset.proofs.Steps.{length-elements}
use Rattle.coset.proofs.Subspace.{elements_taken}
use Rattle.honest_layers.proofs.fold_layer.Goals as goal

pub fill_values-requires : goal.fill_values-requires
fill_values-requires c =
    let step = c.args.step in
    let basis = c.args.coset.basis.now in
    let fits = c.requires.2 in
    let are = elements_taken step basis c.step_elements-elements.result fits c.step_elements-elements.ensures in
    let count = ap length are ∙ length-elements step basis fits in
    record {
      step = record {
        some = omega (arith, count, c.requires.0);
        few = omega (arith, count, c.requires.1);
        fits = omega (arith, count, fits);
        elements_are = are ∙ sym (ap (λ (n : ℕ). step_elements n basis) count);
      };
      word_fits = c.requires.3;
      values_fit = c.requires.4 ∙ ap (λ (n : ℕ). 2 ^ (length basis - n)) (sym count);
    }
