-- `prover::prove` meets its contract. Assumes nothing.
use mathlib.Core.Path.{◌≡◌, sym, ap, ◌∙◌}
use Prim.Native.Nat.{ℕ, ◌*◌, ◌%◌, ◌^◌}
use lib.ListN.{length, replicate}
use lib.Seq.{length-take-le}
use Rattle.fri.specs.Layout.{dimension}
use Rattle.layout.specs.declared.Parameters.{Parameters}
use Rattle.layout.specs.Parameters.{steps_by}
use Rattle.prover.proofs.Input.{small, room_size, room_fits}
use Rattle.prover.proofs.prove.Goals as goal

-- layer r's dimension, by the number of rounds that the shape tells
dimension_of : (p : Parameters) (dim rounds : ℕ) → dim ≡ dimension p.k (steps_by p) rounds
    → rounds ≡ length (steps_by p) → dim ≡ dimension p.k (steps_by p) (length (steps_by p))
dimension_of p dim rounds e r = e ∙ ap (dimension p.k (steps_by p)) r

pub overflow_shl-size : goal.overflow_shl-size
overflow_shl-size c =
    let shape = c.in_ok-shape.shape in
    small shape.parameters shape.valid c.dimension-size.result
    (dimension_of shape.parameters c.dimension-size.result c.rounds.result c.dimension-size.ensures c.rounds.ensures)

pub slice_bounds-room-end : goal.slice_bounds-room-end
slice_bounds-room-end c =
    let shape = c.in_ok-shape.shape in
    room_fits shape.parameters shape.valid c.dimension-size.result
    (dimension_of shape.parameters c.dimension-size.result c.rounds.result c.dimension-size.ensures c.rounds.ensures)

pub slice_bounds-prove_in-end : goal.slice_bounds-prove_in-end
slice_bounds-prove_in-end c =
    let shape = c.in_ok-shape.shape in
    sym
    (length-take-le (1 * 2 ^ c.dimension-size.result % 2 ^ 64) (replicate 256 0)
    (room_fits shape.parameters shape.valid c.dimension-size.result
    (dimension_of shape.parameters c.dimension-size.result c.rounds.result c.dimension-size.ensures c.rounds.ensures)))

pub prove_in-requires-clause-room_len : goal.prove_in-requires-clause-room_len
prove_in-requires-clause-room_len c =
    let shape = c.in_ok-shape.shape in
    let dim =
    dimension_of shape.parameters c.dimension-size.result c.rounds.result c.dimension-size.ensures c.rounds.ensures
    in
    length-take-le (1 * 2 ^ c.dimension-size.result % 2 ^ 64) (replicate 256 0)
    (room_fits shape.parameters shape.valid c.dimension-size.result dim)
    ∙ room_size shape.parameters shape.valid c.dimension-size.result dim
    ∙ ap (λ (p : Parameters). 2 ^ dimension p.k (steps_by p) (length (steps_by p))) c.in_ok-shape.ensures.shape
