-- `honest_layers::fold_layers` meets its contract. The loop's invariant: layers 1 to i are in the store, and the coset
-- is that of layer i. Assumes nothing.
use Rattle.coset.specs.Span.{Independent}
use Rattle.honest_layers.specs.Input.{Filled}
use Rattle.honest_layers.proofs.fold_layers.Given as goal

abbrev pub invariant-loop-i : goal.invariant-loop-i
invariant-loop-i l =
    record {
      filled : Filled l.claim l.i l.coset.offset.0 l.coset.basis l.start l.store;
      independent : Independent l.coset.basis;
    }
