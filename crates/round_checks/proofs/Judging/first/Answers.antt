-- `Judging::first` meets its contract. Assumes nothing.
use mathlib.Core.Path.{◌∙◌}
use Rattle.round_checks.specs.Judging.{run_sent}
use Rattle.round_checks.proofs.Runs.{query_point_first}
use Rattle.round_checks.proofs.Judging.first.Goals as goal

pub returns : goal.returns
returns g c =
    let judging = c.args.self.now in
    c.first.ensures
    ∙ query_point_first
    (run_sent judging.sent (g.L.Layers.word judging.layers) (g.L.Layers.store judging.layers)) c.args.j
