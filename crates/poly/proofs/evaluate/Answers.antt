-- `poly::evaluate` meets its contract. Assumes nothing.
use mathlib.Core.Path.{◌≡◌, ap, sym, ◌∙◌}
use mathlib.Core.List.{map, reverse}
use Prim.Native.Nat.{ℕ}
use native.Mathlib.Omega.{arith}
use Rattle.std.proofs.lemmas.Grind.{common_steps}
use borrow.Author.Rules.{rules}
use denote.Ref.{Bor}
use Rattle.field.specs.declared.Element.{Element}
use Rattle.poly.proofs.Horner.{horner_fold, horner, folded}
use Rattle.poly.proofs.evaluate.Goals as goal

pub returns : goal.returns
returns c =
    let p = c.args.coefficients.now in
    let x = c.args.x.0 in
    let run = c.fold.ensures.runs in
    let items : map (λ (y : Bor ℕ). y.now) run.0.items ≡ reverse p = grind (arith, common_steps) in
    ap (λ (v : Element). v.0) (run.3 (horner x) (λ v b r f h. search rules))
    ∙ folded x run.0.items (reverse p) _ items ∙ sym (horner_fold p x)
