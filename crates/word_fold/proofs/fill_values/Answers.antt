-- `word_fold::fill_values` meets its contract. Assumes nothing.
use mathlib.Core.Path.{◌≡◌, sym, ap, ◌∙◌}
use Prim.Native.Nat.{ℕ, ◌*◌, ◌%◌, ◌^◌, ◌≤◌}
use mathlib.Core.List.{List}
use lib.Pow.{pow_mono}
use lib.ListN.{length, take}
use lib.Seq.{length-take-le}
use Rattle.gf64.specs.Field.{IsElement}
use Rattle.coset.proofs.Points.{all_elements}
use Rattle.coset.proofs.Steps.{listed_not_zero}
use Rattle.coset.proofs.Sizes.{size_shifted}
use Rattle.fold.specs.Theorems.{IsWord}
use Rattle.fold.proofs.AllCosets.{Ready, length_span_taken, length_upper, cosets_fit}
use Rattle.fold.proofs.AllCosets.{entries_fit}
use Rattle.fold.proofs.AllCosets.{all_cosets}
use borrow.Author.Rules.{rules}
use native.Mathlib.Omega.{arith}
use Rattle.word_fold.proofs.fill_values.Goals as goal
use Rattle.word_fold.proofs.fill_values.Goals.{After-span_of-span}

-- what is known once inverses and span are there
abbrev ReadyAt : After-span_of-span → Type 0
ReadyAt c =
    let a = c.args in
    let size = 1 * 2 ^ length a.elements.now % 2 ^ 64 in
    Ready a.elements.now a.coset.basis.now c.inverses_of-inverses.result c.span_of-span.result size

ready : (c : After-span_of-span) → ReadyAt c
ready c =
    let fits = c.requires.step in
    record {
      some = fits.some;
      few = fits.few;
      fits = fits.fits;
      basis_fits = c.args.coset.few;
      elements_are = fits.elements_are;
      inverted = c.inverses_of-inverses.ensures;
      spanned = c.span_of-span.ensures;
      sized = size_shifted (length c.args.elements.now) (omega (arith, fits.few));
    }

three : (c : After-span_of-span) → length c.inverses_of-inverses.result ≡ 3
three c = search rules

eight : (c : After-span_of-span) → length c.span_of-span.result ≡ 8
eight c = search rules

-- the step's part of the basis, as it is lent
lent : (step : ℕ) (basis : List ℕ) → step ≤ length basis → length (take step basis) ≡ step
lent step basis fits = length-take-le step basis fits

pub inverses_of-inverses-requires : goal.inverses_of-inverses-requires
inverses_of-inverses-requires c =
    let basis = c.args.coset.basis.now in
    let fits = c.requires.step in (
      fits.few,
      listed_not_zero (length c.args.elements.now) basis c.args.elements.now
          (all_elements basis c.args.coset.elements) c.args.coset.independent
          fits.elements_are,
    )

pub slice_bounds-span-end : goal.slice_bounds-span-end
slice_bounds-span-end c =
    let at = (goal.at.slice_bounds-span-end c).After-span_of-span in
    let few = pow_mono {i = length c.args.elements.now} {j = 3} c.requires.step.few in
    omega (arith, eight at, (ready at).sized, few)

pub slice_bounds-fold_step-end-2 : goal.slice_bounds-fold_step-end-2
slice_bounds-fold_step-end-2 c =
    let at = (goal.at.slice_bounds-fold_step-end-2 c).After-span_of-span in
    let r = ready at in
    r.sized ∙ sym (length_span_taken r)

pub invariant_of-fold_step : goal.invariant_of-fold_step
invariant_of-fold_step c =
    let at = (goal.at.invariant_of-fold_step c).After-span_of-span in
    let fit = cosets_fit (ready at) in record { some = fit.some; few = fit.few; span_fits = fit.span_fits }

pub fill_cosets-requires : goal.fill_cosets-requires
fill_cosets-requires c =
    let at = (goal.at.fill_cosets-requires c).After-span_of-span in
    let r = ready at in (
      (cosets_fit r).upper_fits,
      c.requires.values_fit ∙ ap (λ (n : ℕ). 2 ^ n) (sym (length_upper r)),
      c.requires.word_fits ∙ sym (entries_fit r),
    )

pub returns : goal.returns
returns c =
    let at = (goal.at.returns c).After-span_of-span in
    let challenged : IsElement c.args.challenge.0 = search rules in
    let is_word : IsWord c.args.coset.offset.0 c.args.coset.basis.now c.args.word.now =
    record {
      offset_element = search rules;
      basis_elements = all_elements c.args.coset.basis.now
          c.args.coset.elements;
      word_elements = all_elements c.args.word.now (λ i. omega (arith, c.type_inv.word i));
      independent = c.args.coset.independent;
      count = c.requires.word_fits;
    }
    in
    let a = c.args in
    c.fill_cosets.ensures
    ∙ all_cosets (ready at) a.coset.offset.0 a.word.now a.challenge.0 is_word
    challenged
