-- `round_checks::set_up` meets its contract. Assumes nothing.
use Rattle.round_checks.proofs.Tables.{start_of_word, holds_next}
use Rattle.round_checks.specs.Rounds.{round_over, round_at}
use Rattle.layer_cosets.proofs.NextLayers.{basis_first, coset_next}
use Rattle.layout.proofs.Sizes.{few_rounds, step_within}
use Rattle.layout.specs.declared.Parameters.{Parameters}
use Rattle.layout.specs.Parameters.{steps_by, Valid}
use Rattle.layer_cosets.specs.declared.LayerCoset.{LayerCoset}
use Rattle.coset.proofs.Points.{all_elements}
use Rattle.coset.proofs.Steps.{elements_not_zero}
use Rattle.coset.specs.Steps.{step_elements}
use Rattle.poly.specs.Polynomial.{All}
use Rattle.fri.proofs.Cosets.{length_basis, layer_basis_all, later_independent}
use Rattle.fri.specs.Layers.{layer_basis}
use lib.ListN.{length, get_or, length-set}
use native.Mathlib.Numerals.{add-one}
use Prim.Native.Nat.{ℕ, ◌≤◌, ◌<◌}
use mathlib.Core.List.{List}
use mathlib.Core.Logic.{◌≢◌}
use mathlib.Core.Path.{◌≡◌, refl, sym, ap, ap₂, ◌∙◌, subst}
use native.Mathlib.Omega.{arith}
use Rattle.round_checks.proofs.set_up.Goals as goal

-- the step is taken off the layer's dimension
step_fits : (p : Parameters) (basis : List ℕ) (coset : List ℕ) (i : ℕ) → Valid p → length basis ≡ p.k
    → coset ≡ layer_basis (steps_by p) basis i → i < length (steps_by p) → p.step ≤ length coset
step_fits p basis coset i valid size e h =
    omega (arith, ap length e, length_basis p.k (steps_by p) basis size i, step_within p valid i h)

pub loop-i-init : goal.loop-i-init
loop-i-init c =
    let p = c.args.shape.parameters in
    record {
      places = refl;
      held = λ i h. absurd (omega arith);
      coset_is = ap (λ (r : LayerCoset). r.basis) c.first-coset.ensures ∙ basis_first (steps_by p) c.args.basis.now;
      start_is = start_of_word p.k (steps_by p);
    }

pub over-requires : goal.over-requires
over-requires c =
    let l = c.loop-i in
    let p = c.args.shape.parameters in
    let valid = c.args.shape.valid in
    let steps = steps_by p in
    let basis = c.args.basis.now in
    let elements = all_elements basis (λ i. omega (arith, c.type_inv.basis i)) in
    let are = c.as_slice.ensures.list ∙ ap (λ (r : LayerCoset). r.basis) c.coset.view_is ∙ l.invariant.coset_is in (
      valid.step_most,
      step_fits p basis c.as_slice.result.now l.i valid c.requires.0 are (omega (arith, c.requires.2)),
      subst (λ (b : List ℕ). All (λ e. e ≢ 0) (step_elements p.step b)) (sym are)
          (elements_not_zero p.step (layer_basis steps basis l.i) (layer_basis_all steps basis elements l.i)
          (later_independent steps basis elements c.requires.1 l.i)),
    )

pub next-coset-requires : goal.next-coset-requires
next-coset-requires c =
    let valid = c.args.shape.valid in
    let l = c.loop-i in (
      valid.step_most,
      step_fits c.args.shape.parameters c.args.basis.now l.coset.basis l.i valid c.requires.0 l.invariant.coset_is (omega (arith, c.requires.2)),
    )

pub loop-i-preserved : goal.loop-i-preserved
loop-i-preserved c =
    let l = c.loop-i in
    let p = c.args.shape.parameters in
    let basis = c.args.basis.now in
    let challenges = c.args.challenges.now in
    let within : l.i < length (steps_by p) = omega (arith, c.requires.2) in
    record {
      places = length-set l.table l.i c.over.result ∙ l.invariant.places;
      held =
          holds_next l.table (round_at p basis challenges) l.i c.over.result
          (omega (arith, few_rounds p c.args.shape.valid, l.invariant.places)) l.invariant.held
          (c.over.ensures
          ∙ ap₂ (λ (b : List ℕ) (n : ℕ). round_over p.step b (get_or challenges l.i 0) n)
          (c.as_slice.ensures.list ∙ ap (λ (r : LayerCoset). r.basis) c.coset.view_is ∙ l.invariant.coset_is)
          l.invariant.start_is);
      coset_is =
          coset_next p basis l.i l.coset c.next-coset.result within l.invariant.coset_is c.next-coset.ensures
          ∙ ap (layer_basis (steps_by p) basis) (sym (add-one l.i));
      start_is = c.layer_start-start.ensures;
    }
