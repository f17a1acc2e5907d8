-- `section_writer::put_entries` meets its contract: an entry stands behind those so far. Assumes nothing.
use native.Mathlib.Omega.{arith}
use Rattle.placing.proofs.Puts.{puts_append, puts_same, puts_nothing, ends, same_size}
use Rattle.section_writer.proofs.Entries.{entries_none, entries_next, length_so_far}
use Rattle.section_writer.proofs.put_entries.Goals as goal

pub loop-entry-init : goal.loop-entry-init
loop-entry-init c = puts_same (puts_nothing c.args.cursor.now (omega (arith, c.requires))) entries_none

pub put_entry-requires : goal.put_entry-requires
put_entry-requires c =
    let l = c.loop-entry in
    omega (arith, ends l.invariant, same_size l.invariant, length_so_far c.args.entries.now l.entry-index c.loop-entry-test.true)

pub loop-entry-preserved : goal.loop-entry-preserved
loop-entry-preserved c =
    puts_same (puts_append c.loop-entry.invariant c.put_entry.ensures)
    (entries_next c.args.entries.now c.loop-entry.entry-index c.loop-entry-test.true)
