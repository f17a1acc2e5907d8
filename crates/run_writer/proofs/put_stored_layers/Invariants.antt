-- `run_writer::put_stored_layers` meets its contract. The loop's invariant: the layers before the i-th are put.
-- Assumes nothing.
use Prim.Native.Nat.{◌-◌, ◌≤◌}
use Rattle.placing.specs.Put.{Puts}
use Rattle.written.specs.Bytes.{sections_bytes}
use Rattle.run_writer.specs.Layers.{stored_layers}
use Rattle.run_writer.proofs.put_stored_layers.Given as goal

abbrev pub invariant-loop-i : goal.invariant-loop-i
invariant-loop-i l =
    (1 ≤ l.i) × Puts l.initial.cursor (sections_bytes (stored_layers l.shape.parameters l.store 1 (l.i - 1))) l.cursor
