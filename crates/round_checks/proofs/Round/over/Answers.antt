-- `Round::over` meets its contract. Assumes nothing.
use Rattle.round_checks.proofs.Tables.{round_equal}
use Rattle.coset.proofs.Subspace.{elements_taken}
use Rattle.poly.specs.Polynomial.{All, padded}
use Rattle.poly.specs.Carrier.{gf64}
use Rattle.gf64.specs.Field.{inverse}
use lib.Seq.{length-take-le}
use lib.ListN.{length}
use mathlib.Core.List.{List, map}
use mathlib.Core.Logic.{◌≢◌}
use mathlib.Core.Path.{◌≡◌, sym, ap, ◌∙◌, subst}
use Prim.Native.Nat.{ℕ}
use borrow.Author.Rules.{rules}
use native.Mathlib.Omega.{arith}
use Rattle.round_checks.proofs.Round.over.Goals as goal

pub inverses_of-requires : goal.inverses_of-requires
inverses_of-requires c =
    let a = c.args in
    let made = c.step_elements-elements in
    let three : length made.result ≡ 3 = search rules in
    let are = elements_taken a.step a.basis.now made.result c.requires.1 made.ensures in
    (omega (arith, length-take-le a.step made.result (omega (arith, three, c.requires)), c.requires), subst (All (λ e. e ≢ 0)) (sym are) c.requires.2)

pub returns : goal.returns
returns c =
    let a = c.args in
    let made = c.step_elements-elements in
    let are = elements_taken a.step a.basis.now made.result c.requires.1 made.ensures in
    round_equal a.step a.basis.now a.challenge.0 a.start made.result c.inverses_of.result c.span_of.result made.ensures
    (c.inverses_of.ensures ∙ ap (λ (es : List ℕ). padded gf64 3 (map inverse es)) are) c.span_of.ensures
