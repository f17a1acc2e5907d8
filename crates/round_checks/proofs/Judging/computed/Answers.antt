-- `Judging::computed` meets its contract. Assumes nothing.
use mathlib.Core.Path.{◌∙◌}
use native.Mathlib.Omega.{arith}
use lib.ListN.{length-set}
use Rattle.poly.proofs.Entries.{entries_next}
use Rattle.round_checks.proofs.StepSizes.{size_eight}
use Rattle.round_checks.proofs.Judged.{step_few, coset_within, computed_value}
use Rattle.round_checks.proofs.Judging.computed.Goals as goal

pub entry-requires : goal.entry-requires
entry-requires g c =
    let judging = c.args.self.now in
    coset_within judging.prepared c.requires.round judging.same c.requires.reached c.loop-t.t c.loop-t-test.true

pub loop-t-preserved : goal.loop-t-preserved
loop-t-preserved g c =
    let l = c.loop-t in (
      length-set l.part l.t c.entry.result ∙ l.invariant.0,
      entries_next 0 l.part _ l.t c.entry.result
          (omega (arith, l.invariant.0, size_eight c.args.self.now.sent.shape.parameters.step (step_few c.args.self.now.prepared)))
          l.invariant.1 c.entry.ensures,
    )

pub returns : goal.returns
returns g c =
    let judging = c.args.self.now in
    computed_value judging.prepared c.requires.round judging.same c.loop-t.part c.loop-t.invariant.0 c.loop-t-test.false
    c.loop-t.invariant.1 c.folded.ensures
