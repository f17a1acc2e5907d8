-- `Round::folded` meets its contract. Assumes nothing.
use Rattle.round_checks.proofs.StepSizes.{size_of, size_is, size_most, size_eight, between_within}
use Rattle.fold.specs.Halving.{value_at}
use Rattle.gf64.specs.Field.{sum}
use lib.Seq.{length-take-le}
use lib.ListN.{length, get_or, take}
use Prim.Native.Nat.{ℕ, ◌%◌, ◌^◌, ◌≤◌}
use mathlib.Core.List.{List, map}
use mathlib.Core.Path.{◌≡◌, sym, ap, ap₂, ◌∙◌}
use borrow.Author.Rules.{rules}
use native.Mathlib.Omega.{arith}
use Rattle.round_checks.proofs.Round.folded.Goals as goal

-- the parts of the arrays that are lent, and their lengths
span-lent : (step : ℕ) (span : List ℕ) → step ≤ 3 → length span ≡ 8 → length (take (size_of step) span) ≡ size_of step
span-lent step span few eight = length-take-le (size_of step) span (omega (arith, eight, size_eight step few))

span-whole : (step : ℕ) (span : List ℕ) → step ≤ 3 → length span ≡ 8 → length (take (size_of step) span) ≡ 2 ^ step
span-whole step span few eight = span-lent step span few eight ∙ size_is step few

inverses-lent : (step : ℕ) (inverses : List ℕ) → step ≤ 3 → length inverses ≡ 3 → length (take step inverses) ≡ step
inverses-lent step inverses few three = length-take-le step inverses (omega (arith, three))

-- as many points as the halvings use up
points-fit : (step : ℕ) (span inverses : List ℕ) → step ≤ 3 → length span ≡ 8 → length inverses ≡ 3
    → length (take (size_of step) span) ≡ 2 ^ length (take step inverses)
points-fit step span inverses few eight three =
    span-whole step span few eight ∙ ap (λ (n : ℕ). 2 ^ n) (sym (inverses-lent step inverses few three))

at-most-eight : (step : ℕ) (span : List ℕ) → step ≤ 3 → length span ≡ 8 → length (take (size_of step) span) ≤ 8
at-most-eight step span few eight = omega (arith, span-whole step span few eight, size_most step few)

pub bounds-span-here : goal.bounds-span-here
bounds-span-here c = between_within c.args.step c.requires.1 c.args.here.index

pub slice_bounds-span-end : goal.slice_bounds-span-end
slice_bounds-span-end c =
    let eight : length c.args.self.span ≡ 8 = search rules in
    omega (arith, eight, size_eight c.args.step c.requires.1)

pub slice_bounds-fold_step-end-2 : goal.slice_bounds-fold_step-end-2
slice_bounds-fold_step-end-2 c =
    let eight : length c.args.self.span ≡ 8 = search rules in
    sym (span-lent c.args.step c.args.self.span c.requires.1 eight)

pub invariant_of-fold_step : goal.invariant_of-fold_step
invariant_of-fold_step c =
    let eight : length c.args.self.span ≡ 8 = search rules in
    let three : length c.args.self.inverses ≡ 3 = search rules in
    let taken = inverses-lent c.args.step c.args.self.inverses c.requires.1 three in
    record {
      some = omega (arith, taken, c.requires);
      few = omega (arith, taken, c.requires);
      span_fits = points-fit c.args.step c.args.self.span c.args.self.inverses c.requires.1 eight three;
    }

pub value_at-requires : goal.value_at-requires
value_at-requires c =
    let eight : length c.args.self.span ≡ 8 = search rules in
    c.requires.2 ∙ sym (span-whole c.args.step c.args.self.span c.requires.1 eight)

pub returns : goal.returns
returns c =
    let step = c.args.step in
    let span = c.args.self.span in
    let x = c.args.self.challenge.0 in
    let here = c.args.here in
    let size = size_is step c.requires.1 in
    c.value_at.ensures
    ∙ ap₂ (λ (p n : ℕ). value_at (take step c.args.self.inverses) (map (sum (sum x p)) (take n span)) c.args.part.now)
    (c.sum-first.ensures ∙ ap (λ (n : ℕ). sum here.point.0 (get_or span (here.index % n) 0)) size)
    size
