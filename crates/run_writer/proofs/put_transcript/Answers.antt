-- `run_writer::put_transcript` meets its contract: the sections stand one behind the other, and fill the list.
-- Assumes nothing.
use mathlib.Core.Path.{refl}
use mathlib.Core.List.{[], ◌∷◌}
use native.Mathlib.Omega.{arith}
use borrow.Author.Rules.{rules}
use Rattle.layout.specs.Parameters.{run_claimed}
use Rattle.placing.proofs.Puts.{puts_append, ends, same_size}
use Rattle.written.proofs.Bytes.{length-section_bytes}
use Rattle.run_writer.proofs.Sections.{size, all_sections, whole_list}
use Rattle.run_writer.proofs.put_transcript.Goals as goal

pub put_section-requires : goal.put_section-requires
put_section-requires c =
    let a = c.args in
    let claim = a.claim.now in
    let run = run_claimed claim a.store.now a.last.now in
    omega (
      arith,
      size run a.queries.now c.requires.fit a.shape.parameters c.requires.shape a.shape.valid a.bytes.now c.requires.room,
    )

pub put_coset-requires : goal.put_coset-requires
put_coset-requires c =
    let a = c.args in
    let claim = a.claim.now in
    let run = run_claimed claim a.store.now a.last.now in
    omega (
      arith,
      size run a.queries.now c.requires.fit a.shape.parameters c.requires.shape a.shape.valid a.bytes.now c.requires.room,
      ends c.put_section.ensures,
      same_size c.put_section.ensures,
      length-section_bytes (a.shape.parameters.k ∷ a.shape.parameters.rate ∷ a.shape.parameters.step ∷ []),
    )

pub put_section-requires-2 : goal.put_section-requires-2
put_section-requires-2 c =
    let a = c.args in
    let claim = a.claim.now in
    let run = run_claimed claim a.store.now a.last.now in
    omega (
      arith,
      size run a.queries.now c.requires.fit a.shape.parameters c.requires.shape a.shape.valid a.bytes.now c.requires.room,
      ends c.put_section.ensures,
      same_size c.put_section.ensures,
      length-section_bytes (a.shape.parameters.k ∷ a.shape.parameters.rate ∷ a.shape.parameters.step ∷ []),
      ends c.put_coset.ensures,
      same_size c.put_coset.ensures,
      length-section_bytes (claim.offset.0 ∷ claim.basis.now),
    )

pub put_section-requires-3 : goal.put_section-requires-3
put_section-requires-3 c =
    let a = c.args in
    let claim = a.claim.now in
    let run = run_claimed claim a.store.now a.last.now in
    omega (
      arith,
      size run a.queries.now c.requires.fit a.shape.parameters c.requires.shape a.shape.valid a.bytes.now c.requires.room,
      ends c.put_section.ensures,
      same_size c.put_section.ensures,
      length-section_bytes (a.shape.parameters.k ∷ a.shape.parameters.rate ∷ a.shape.parameters.step ∷ []),
      ends c.put_coset.ensures,
      same_size c.put_coset.ensures,
      length-section_bytes (claim.offset.0 ∷ claim.basis.now),
      ends c.put_section-2.ensures,
      same_size c.put_section-2.ensures,
      length-section_bytes claim.challenges.now,
    )

pub put_section-requires-4 : goal.put_section-requires-4
put_section-requires-4 c =
    let a = c.args in
    let claim = a.claim.now in
    let run = run_claimed claim a.store.now a.last.now in
    omega (
      arith,
      size run a.queries.now c.requires.fit a.shape.parameters c.requires.shape a.shape.valid a.bytes.now c.requires.room,
      ends c.put_section.ensures,
      same_size c.put_section.ensures,
      length-section_bytes (a.shape.parameters.k ∷ a.shape.parameters.rate ∷ a.shape.parameters.step ∷ []),
      ends c.put_coset.ensures,
      same_size c.put_coset.ensures,
      length-section_bytes (claim.offset.0 ∷ claim.basis.now),
      ends c.put_section-2.ensures,
      same_size c.put_section-2.ensures,
      length-section_bytes claim.challenges.now,
      ends c.put_section-3.ensures,
      same_size c.put_section-3.ensures,
      length-section_bytes a.queries.now,
    )

pub put_stored_layers-requires : goal.put_stored_layers-requires
put_stored_layers-requires c =
    let a = c.args in
    let claim = a.claim.now in
    let run = run_claimed claim a.store.now a.last.now in
    omega (
      arith,
      size run a.queries.now c.requires.fit a.shape.parameters c.requires.shape a.shape.valid a.bytes.now c.requires.room,
      ends c.put_section.ensures,
      same_size c.put_section.ensures,
      length-section_bytes (a.shape.parameters.k ∷ a.shape.parameters.rate ∷ a.shape.parameters.step ∷ []),
      ends c.put_coset.ensures,
      same_size c.put_coset.ensures,
      length-section_bytes (claim.offset.0 ∷ claim.basis.now),
      ends c.put_section-2.ensures,
      same_size c.put_section-2.ensures,
      length-section_bytes claim.challenges.now,
      ends c.put_section-3.ensures,
      same_size c.put_section-3.ensures,
      length-section_bytes a.queries.now,
      ends c.put_section-4.ensures,
      same_size c.put_section-4.ensures,
      length-section_bytes claim.word.now,
    )

pub put_section-requires-5 : goal.put_section-requires-5
put_section-requires-5 c =
    let a = c.args in
    let claim = a.claim.now in
    let run = run_claimed claim a.store.now a.last.now in
    omega (
      arith,
      size run a.queries.now c.requires.fit a.shape.parameters c.requires.shape a.shape.valid a.bytes.now c.requires.room,
      ends c.put_section.ensures,
      same_size c.put_section.ensures,
      length-section_bytes (a.shape.parameters.k ∷ a.shape.parameters.rate ∷ a.shape.parameters.step ∷ []),
      ends c.put_coset.ensures,
      same_size c.put_coset.ensures,
      length-section_bytes (claim.offset.0 ∷ claim.basis.now),
      ends c.put_section-2.ensures,
      same_size c.put_section-2.ensures,
      length-section_bytes claim.challenges.now,
      ends c.put_section-3.ensures,
      same_size c.put_section-3.ensures,
      length-section_bytes a.queries.now,
      ends c.put_section-4.ensures,
      same_size c.put_section-4.ensures,
      length-section_bytes claim.word.now,
      ends c.put_stored_layers.ensures,
      same_size c.put_stored_layers.ensures,
    )

pub returns : goal.returns
returns c =
    let a = c.args in
    let claim = a.claim.now in
    let run = run_claimed claim a.store.now a.last.now in
    let put =
    puts_append c.put_section.ensures
    (puts_append c.put_coset.ensures
    (puts_append c.put_section-2.ensures
    (puts_append c.put_section-3.ensures
    (puts_append c.put_section-4.ensures
    (puts_append c.put_stored_layers.ensures c.put_section-5.ensures)))))
    in
    let is = all_sections run a.queries.now c.requires.fit a.shape.parameters c.requires.shape a.shape.valid in
    let filled = whole_list put is refl c.requires.room in
    search (rules, filled)
