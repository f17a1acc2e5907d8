-- `section_writer::put_entries` meets its contract. The loop's invariant: the entries so far are put. Assumes nothing.
use lib.ListN.{take}
use Rattle.placing.specs.Put.{Puts}
use Rattle.written.specs.Bytes.{entries_bytes}
use Rattle.section_writer.proofs.put_entries.Given as goal

abbrev pub invariant-loop-entry : goal.invariant-loop-entry
invariant-loop-entry l = Puts l.initial.cursor (entries_bytes (take l.entry-index l.entries)) l.cursor
