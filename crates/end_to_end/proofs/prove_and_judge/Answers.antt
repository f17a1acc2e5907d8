-- `end_to_end::prove_and_judge` meets its contract. Assumes nothing.
use Rattle.end_to_end.proofs.Theorems.{proved_is_accepted}
use Rattle.layout.specs.Parameters.{run_claimed}
use Rattle.end_to_end.proofs.prove_and_judge.Goals as goal

pub returns : goal.returns
returns c =
    let a = c.args in
    let run =
    run_claimed a.claim.now a.store.now a.last.now
    in
    let f = c.prove-outcome in
    let store = f.new.store in
    let last = f.new.last in
    record {
      proved = f.ensures;
      verdict = c.judge-verdict.ensures;
      accepts =
          λ h.
          proved_is_accepted run a.queries.now f.result store last c.judge-verdict.result h f.ensures
          c.judge-verdict.ensures;
    }
