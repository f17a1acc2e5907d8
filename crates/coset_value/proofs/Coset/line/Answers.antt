-- `Coset::line` meets its contract. Assumes nothing.
use mathlib.Core.Path.{ap, ap₂, ◌∙◌}
use Prim.Native.Nat.{ℕ, suc, ◌+◌, ◌*◌}
use native.Mathlib.Numerals.{add-one}
use lib.ListN.{get_or}
use Rattle.gf64.specs.Field.{sum, product}
use Rattle.fold.proofs.Lines.{line_is}
use Rattle.coset_value.specs.Cosets.{numbers}
use Rattle.coset_value.proofs.Arrays.{number_at}
use Rattle.coset_value.proofs.Coset.line.Goals as goal

pub returns : goal.returns
returns c =
    let a = c.args in
    let points = numbers a.self.points in
    let entries = numbers a.self.entries in
    let u = get_or entries (a.i * 2) 0 in
    let v = get_or entries (suc (a.i * 2)) 0 in
    let m = get_or points (a.i * 2) 0 in
    let first = number_at a.self.entries (a.i * 2) in
    let second = number_at a.self.entries (a.i * 2 + 1) ∙ ap (λ (n : ℕ). get_or entries n 0) (add-one (a.i * 2)) in
    c.sum-2.ensures
    ∙ ap₂ sum first
    (c.product.ensures.value
    ∙ ap₂ product (number_at a.self.points (a.i * 2))
    (c.product-slope.ensures.value
    ∙ ap (λ (s : ℕ). product s a.inverse.0)
    (c.sum.ensures ∙ ap₂ sum first second)))
    ∙ line_is a.inverse.0 m u v
