-- `field::Element::inverse` meets its contract: each line joins two exponents that are all ones. Assumes
-- nothing.
use mathlib.Core.Path.{◌≡◌, sym, ap, ◌∙◌}
use native.Mathlib.Omega.{arith}
use borrow.Author.Rules.{rules}
use Rattle.gf64.specs.Field.{product, inverse}
use Rattle.gf64.proofs.Inverse.{inverse_right, inverse-zero}
use Rattle.field.proofs.Ones.{ones_first, ones_join, ones_last}
use Rattle.field.proofs.Element.inverse.Goals as goal

pub returns-then-eq-clause-value : goal.returns-then-eq-clause-value
returns-then-eq-clause-value c =
    let zero : c.args.self.0 ≡ 0 = search rules in
    sym (ap inverse zero ∙ inverse-zero)

pub returns : goal.returns
returns c =
    let a = c.args.self.0 in
    let one = ones_first a (omega arith) in
    let two = ones_join a 1 1 _ _ _ one one c.raised-ones_2.ensures in
    let three = ones_join a 2 1 _ _ _ two one c.raised-ones_3.ensures in
    let six = ones_join a 3 3 _ _ _ three three c.raised-ones_6.ensures in
    let twelve = ones_join a 6 6 _ _ _ six six c.raised-ones_12.ensures in
    let fifteen = ones_join a 12 3 _ _ _ twelve three c.raised-ones_15.ensures in
    let thirty = ones_join a 15 15 _ _ _ fifteen fifteen c.raised-ones_30.ensures in
    let sixty = ones_join a 30 30 _ _ _ thirty thirty c.raised-ones_60.ensures in
    let value = ones_last a _ _ (ones_join a 60 3 _ _ _ sixty three c.raised-ones_63.ensures) c.squared.ensures in record {
      value = value;
      of_zero = λ z. value ∙ ap inverse z ∙ inverse-zero;
      inverts = λ nonzero. ap (product a) value ∙ inverse_right a (omega arith) nonzero;
    }
