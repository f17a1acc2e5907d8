-- `run_writer::put_stored_layers` meets its contract: a layer stands behind those so far. Assumes nothing.
use native.Mathlib.Omega.{arith}
use borrow.Author.Rules.{rules}
use lib.ListN.{length}
use Rattle.layout.specs.Parameters.{steps_by}
use Rattle.placing.proofs.Puts.{puts_append, puts_same, puts_nothing, ends, same_size}
use Rattle.run_writer.proofs.Sections.{no_layers, layer_next, layer_room}
use Rattle.run_writer.proofs.put_stored_layers.Goals as goal

pub loop-i-init : goal.loop-i-init
loop-i-init c =
    let a = c.args in
    (search rules, puts_same (puts_nothing a.cursor.now (omega (arith, c.requires))) (no_layers a.shape.parameters a.store.now))

pub put_section-requires : goal.put_section-requires
put_section-requires c =
    let a = c.args in
    let l = c.loop-i in
    let so_far = l.invariant.1 in
    omega (
      arith,
      c.requires,
      ends so_far,
      same_size so_far,
      layer_room a.shape.parameters a.store.now c.layer.result.now l.i (length (steps_by a.shape.parameters))
          l.invariant.0 (omega (arith, c.rounds-i-end.ensures, c.loop-i-test.true)) c.layer.ensures.layer,
    )

pub loop-i-preserved : goal.loop-i-preserved
loop-i-preserved c =
    let a = c.args in
    let l = c.loop-i in (
      search rules,
      puts_same (puts_append l.invariant.1 c.put_section.ensures)
          (layer_next a.shape.parameters a.store.now c.layer.result.now l.i l.invariant.0 c.layer.ensures.layer),
    )
