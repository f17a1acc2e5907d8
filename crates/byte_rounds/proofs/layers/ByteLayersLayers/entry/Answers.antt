-- An entry of layers that lie in bytes. Assumes nothing.
use mathlib.Core.Path.{ap, ◌∙◌}
use Prim.Native.Nat.{ℕ, ◌+◌, ◌*◌}
use native.Mathlib.Omega.{arith}
use Rattle.transcript.specs.Numerals.{entry_at}
use Rattle.byte_rounds.proofs.LayerPlaces.{index_small, rounds_small, before_small, first_read, stored_read}
use Rattle.byte_rounds.proofs.layers.ByteLayersLayers.entry.Goals as goal
use Rattle.byte_rounds.proofs.layers.ByteLayersLayers.entry.Goals.{then-i-eq0, else-i-eq0}

pub overflow_add-before : goal.overflow_add-before
overflow_add-before c =
    let layers = c.args.self.now in
    omega (arith, before_small layers.shape.parameters layers.shape.valid layers.bytes.now layers.begin layers.laid c.requires)

pub overflow_add-before-2 : goal.overflow_add-before-2
overflow_add-before-2 c =
    let layers = c.args.self.now in
    let index = index_small layers.shape.parameters layers.shape.valid layers.bytes.now layers.begin layers.laid c.requires in
    let before = before_small layers.shape.parameters layers.shape.valid layers.bytes.now layers.begin layers.laid c.requires in
    elim c.if-i-eq0.branch [
      | then-i-eq0 w ↦ omega (arith, w.before-is, index)
      | else-i-eq0 w ↦ omega (arith, w.before-is, before, index)
    ]

pub overflow_mul-before : goal.overflow_mul-before
overflow_mul-before c =
    let layers = c.args.self.now in
    let index = index_small layers.shape.parameters layers.shape.valid layers.bytes.now layers.begin layers.laid c.requires in
    let before = before_small layers.shape.parameters layers.shape.valid layers.bytes.now layers.begin layers.laid c.requires in
    elim c.if-i-eq0.branch [
      | then-i-eq0 w ↦ omega (arith, w.before-is, index)
      | else-i-eq0 w ↦ omega (arith, w.before-is, before, index)
    ]

pub overflow_add-self-2 : goal.overflow_add-self-2
overflow_add-self-2 c =
    let layers = c.args.self.now in
    let index = index_small layers.shape.parameters layers.shape.valid layers.bytes.now layers.begin layers.laid c.requires in
    let before = before_small layers.shape.parameters layers.shape.valid layers.bytes.now layers.begin layers.laid c.requires in
    let rounds = rounds_small layers.shape.parameters layers.shape.valid layers.bytes.now layers.begin layers.laid c.requires in
    elim c.if-i-eq0.branch [
      | then-i-eq0 w ↦ omega (arith, w.before-is, index, rounds, layers.laid.begins)
      | else-i-eq0 w ↦ omega (arith, w.before-is, before, index, rounds, layers.laid.begins)
    ]

pub returns : goal.returns
returns c =
    let layers = c.args.self.now in
    let bytes = layers.bytes.now in
    let at = λ (n : ℕ). entry_at bytes (layers.begin + 4 * c.args.i + 8 * (n + c.args.index)) in
    elim c.if-i-eq0.branch [
      | then-i-eq0 w ↦
          c.entry_at.ensures
          ∙ ap at w.before-is
          ∙ first_read layers.shape.parameters layers.shape.valid bytes layers.begin layers.laid c.requires w.if-i-eq0.true
      | else-i-eq0 w ↦
          c.entry_at.ensures
          ∙ ap at w.before-is
          ∙ stored_read layers.shape.parameters layers.shape.valid bytes layers.begin layers.laid c.requires (omega (arith, w.if-i-eq0.false))
    ]
