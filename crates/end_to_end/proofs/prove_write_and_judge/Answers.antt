-- `end_to_end::prove_write_and_judge` meets its contract. Assumes nothing.
use Rattle.end_to_end.proofs.Theorems.{written_is_accepted}
use Rattle.layout.specs.Parameters.{run_claimed}
use Rattle.end_to_end.proofs.prove_write_and_judge.Goals as goal

pub returns : goal.returns
returns c =
    let a = c.args in
    let run =
    run_claimed a.claim.now a.store.now a.last.now
    in
    record {
      proved = c.prove-proved.ensures;
      written = c.write-written.ensures;
      verdict = c.judge-verdict.ensures;
      accepts =
          λ h size.
          written_is_accepted run a.queries.now a.bytes.now _ _ _ _ _ _ h size c.prove-proved.ensures
          c.write-written.ensures c.judge-verdict.ensures;
    }
