-- `lone_fold::fold_checked` meets its contract. Assumes nothing.
use mathlib.Core.Path.{◌≡◌, sym, ap, ◌∙◌}
use mathlib.Core.List.{List}
use Prim.Native.Nat.{ℕ, ◌-◌, ◌^◌}
use lib.ListN.{length, take}
use lib.Seq.{length-take-le}
use Rattle.gf64.specs.Field.{IsElement}
use Rattle.coset.specs.Steps.{composed_maps, step_elements}
use Rattle.coset.proofs.Points.{all_elements}
use Rattle.coset.proofs.Subspace.{elements_taken, next_whole, next_offset_through}
use borrow.Author.Rules.{rules}
use native.Mathlib.Omega.{arith}
use Rattle.lone_fold.proofs.fold_checked.Goals as goal
use Rattle.lone_fold.proofs.fold_checked.Goals.{After-step_elements-elements}

-- the elements of the step's maps, without the zeros after them
counted : (c : After-step_elements-elements) → length (take c.args.step c.step_elements-elements.result) ≡ c.args.step
counted c =
    let three : length c.step_elements-elements.result ≡ 3 = search rules in
    length-take-le c.args.step c.step_elements-elements.result (omega (arith, three, c.requires.step_most))

taken : (c : After-step_elements-elements)
    → take c.args.step c.step_elements-elements.result ≡ step_elements c.args.step c.args.coset.basis.now
taken c =
    elements_taken c.args.step c.args.coset.basis.now c.step_elements-elements.result c.requires.step_fits
    c.step_elements-elements.ensures

pub fill_values-requires : goal.fill_values-requires
fill_values-requires c =
    let at = (goal.at.fill_values-requires c).After-step_elements-elements in
    let basis = c.args.coset.basis.now in
    let count = counted at in
    let f = c.requires in
    record {
      step =
          record {
            some = omega (arith, count, f.step_least);
            few = omega (arith, count, f.step_most);
            fits = omega (arith, count, f.step_fits);
            elements_are = taken at ∙ ap (λ (n : ℕ). step_elements n basis) (sym count);
          };
      word_fits = f.word_fits;
      values_fit = f.values_fit ∙ ap (λ (n : ℕ). 2 ^ (length basis - n)) (sym count);
    }

pub returns-clause-answer : goal.returns-clause-answer
returns-clause-answer c =
    let at = (goal.at.returns-clause-answer c).After-step_elements-elements in
    let offset_element : IsElement c.args.coset.offset.0 = search rules in
    c.composed_maps.ensures ∙ ap (λ (es : List ℕ). composed_maps es c.args.coset.offset.0) (taken at)
    ∙ sym (next_offset_through c.args.step c.args.coset.offset.0 c.args.coset.basis.now offset_element)

pub returns-clause-next : goal.returns-clause-next
returns-clause-next c =
    let basis = c.args.coset.basis.now in
    next_whole c.args.step basis c.step_elements-elements.result c.args.next.now c.fill_images.new.images
    (all_elements basis c.args.coset.elements) c.requires.step_fits c.step_elements-elements.ensures
    c.requires.next_fits c.fill_images.ensures
