-- `layer_sections::checked_layers` meets its contract. Assumes nothing.
use mathlib.Core.Path.{◌≡◌}
use Rattle.std.proofs.Common.{rules}
use Rattle.std.proofs.lemmas.Result.{err_from_is_err_and}
use Rattle.std.specs.Prelude.{Err}
use Rattle.layer_sections.proofs.Layers.{due, refused}
use Rattle.layer_sections.proofs.checked_layers.Goals as goal

-- a layer's section refuses
pub returns-in_err-checked_due : goal.returns-in_err-checked_due
returns-in_err-checked_due c =
    let l = c.loop-i in
    let bytes = c.args.front.transcript.bytes.now in
    let cause = c.in_err-checked_due.field-0.0 in
    let at = l.invariant in
    let says : due bytes l.i c.rounds-i-end.result at.2 ≡ Err cause = search rules in
    let p = err_from_is_err_and c.from_residual.result c.from_residual.ensures.1 in
    rw (p.1, p.2) (refused bytes l.i c.rounds-i-end.result at.2 c.loop-i-test.true cause says)
