-- `writing::put_digits` meets its contract: a digit is set before those that are filled in. Assumes nothing.
use native.Mathlib.Omega.{arith}
use borrow.Author.Rules.{rules}
use Prim.Native.Nat.{ℕ, ◌+◌, ◌-◌}
use mathlib.Core.List.{List, ◌++◌}
use mathlib.Core.Path.{◌≡◌}
use Rattle.placing.proofs.Puts.{puts}
use Rattle.line_text.specs.Digits.{digits}
use lib.ListN.{length, drop}
use lib.Seq.{take-set-le, drop-set-lt}
use mathlib.Core.Path.{ap, ◌∙◌}
use Rattle.line_text.proofs.Decimals.{length_digits}
use Rattle.writing.proofs.Filling.{filled_next, filled_end}
use Rattle.writing.proofs.put_digits.Goals as goal

pub loop-place-preserved : goal.loop-place-preserved
loop-place-preserved c =
    let l = c.loop-place in
    let held = c.args.cursor.now in
    let out = l.cursor.out.now in (
      omega arith,
      filled_next out _ c.args.base held.at l.place (held.at + c.args.width) l.rest c.digit.result
          (omega arith) (omega arith) (omega arith) c.digit.ensures l.invariant.1,
      take-set-le held.at out (l.place - 1) _ (omega arith) ∙ l.invariant.2,
      drop-set-lt (held.at + c.args.width) out (l.place - 1) _ (omega arith) ∙ l.invariant.3,
      search rules,
      search rules,
      search rules,
    )

pub returns : goal.returns
returns c =
    let l = c.loop-place in
    let held = c.args.cursor.now in
    let out = l.cursor.out.now in
    let text = digits c.args.base c.args.width c.args.n in
    let width : length text ≡ c.args.width = length_digits c.args.base c.args.width c.args.n in
    let end : held.at + c.args.width ≡ held.at + length text = omega arith in
    let filled = filled_end out text c.args.base held.at l.place c.args.width l.rest c.loop-place-test.false l.invariant.0 l.invariant.1 in
    puts (search rules) (search rules) end
    (filled ∙ ap (λ (l : List ℕ). l ++ text) l.invariant.2)
    (l.invariant.3 ∙ ap (λ (n : ℕ). drop n held.out.now) end)
    (search rules)
