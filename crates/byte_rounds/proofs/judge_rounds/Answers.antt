-- `byte_rounds::judge_rounds` meets its contract. Assumes nothing.
use mathlib.Core.Path.{ap, ap₂, ◌∙◌}
use mathlib.Core.List.{List}
use Prim.Native.Nat.{ℕ}
use Rattle.fri.specs.Judge.{checks_outcome, verdict_of}
use Rattle.byte_rounds.specs.Layers.{sent_in}
use Rattle.byte_rounds.proofs.LayerPlaces.{laid_alone}
use Rattle.byte_rounds.proofs.judge_rounds.Goals as goal

pub new-layers-requires : goal.new-layers-requires
new-layers-requires c =
    let s = c.args.sent in
    laid_alone s.shape.parameters s.offset.0 s.basis.now s.challenges.now c.args.bytes.now s.last.now c.args.begin
    c.requires.layers

pub new-requires-clause-checked : goal.new-requires-clause-checked
new-requires-clause-checked c =
    let s = c.args.sent in
    ap
    (λ (b : List ℕ).
    checks_outcome (sent_in s.shape.parameters s.offset.0 s.basis.now s.challenges.now b s.last.now) s.queries.now)
    c.new-layers.ensures.1
    ∙ c.requires.checks

pub returns : goal.returns
returns c =
    let s = c.args.sent in
    c.verdict.ensures
    ∙ ap₂ verdict_of
    (c.new.ensures.run
    ∙ ap (λ (b : List ℕ). sent_in s.shape.parameters s.offset.0 s.basis.now s.challenges.now b s.last.now)
    c.new-layers.ensures.1)
    c.new.ensures.queries
