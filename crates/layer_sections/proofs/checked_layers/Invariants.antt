-- `layer_sections::checked_layers` meets its contract. The loop's invariant: layer i's section comes next, and the
-- sections still to come decide. Assumes nothing.
use mathlib.Core.Path.{◌≡◌}
use Prim.Native.Nat.{◌-◌}
use Rattle.transcript.specs.Sections.{layer_section, transcript_rounds}
use Rattle.transcript.specs.Checks.{layers_from}
use Rattle.layer_sections.proofs.checked_layers.Given as goal

abbrev pub invariant-loop-i : goal.invariant-loop-i
invariant-loop-i l =
    let bytes = l.front.transcript.bytes in
    (l.section.bytes ≡ bytes) × (l.section.number ≡ layer_section l.i)
    × (layers_from bytes.now l.i (l.i-end - l.i) ≡ layers_from bytes.now 0 (transcript_rounds bytes.now))
