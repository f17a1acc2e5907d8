-- `Judging::check` meets its contract. Assumes nothing.
use mathlib.Core.Path.{sym, ap, ◌∙◌}
use native.Mathlib.Numerals.{add-one}
use Rattle.round_checks.specs.Judging.{run_sent, query_point_of}
use Rattle.round_checks.proofs.Judged.{next_of}
use Rattle.round_checks.proofs.Judging.check.Goals as goal

pub found-found-requires-clause-reached : goal.found-found-requires-clause-reached
found-found-requires-clause-reached g c =
    let judging = c.args.self.now in
    let run = run_sent judging.sent (g.L.Layers.word judging.layers) (g.L.Layers.store judging.layers) in
    let (j, hj, here_is) = c.requires.reached in (
      j,
      hj,
      c.next-next.ensures
          ∙ next_of judging.prepared c.requires.round j hj here_is
          ∙ ap (query_point_of run j) (sym (add-one c.args.i)),
    )

pub returns : goal.returns
returns g c = λ j hj here_is.
    let judging = c.args.self.now in
    let run = run_sent judging.sent (g.L.Layers.word judging.layers) (g.L.Layers.store judging.layers) in
    let next_is = c.next-next.ensures ∙ next_of judging.prepared c.requires.round j hj here_is in
    record {
      computed = c.computed-computed.ensures j hj here_is;
      found = c.found-found.ensures j hj (next_is ∙ ap (query_point_of run j) (sym (add-one c.args.i)));
      next_is = next_is;
    }
