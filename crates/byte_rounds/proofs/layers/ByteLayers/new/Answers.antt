-- `ByteLayers::new` meets its contract. Assumes nothing.
use native.Mathlib.Omega.{arith}
use Rattle.byte_rounds.proofs.LayerPlaces.{carried_elements}
use Rattle.byte_rounds.proofs.layers.ByteLayers.new.Goals as goal

pub invariant_of-result : goal.invariant_of-result
invariant_of-result c =
    record {
      laid = c.requires;
      elements = carried_elements c.args.bytes.now (λ i. omega (arith, c.type_inv.bytes i));
    }
