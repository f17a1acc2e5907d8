-- `Parameters::lengths` meets its contract. Assumes nothing.
use Rattle.layout.proofs.Sizes.{store_length_is}
use Rattle.layout.specs.declared.Lengths.{Lengths}
use Rattle.layout.specs.declared.Parameters.{Parameters}
use Rattle.layout.specs.Lengths.{or_zeros, lengths_due, lengths_of}
use Rattle.layout.specs.Parameters.{steps_by}
use Rattle.fri.proofs.Layouts.{length_steps}
use Rattle.fri.specs.Layout.{layer_start}
use Rattle.fri.specs.Checks.{parameters_outcome}
use Rattle.std.specs.Prelude.{Ok}
use Rattle.refusal.specs.Outcome.{Outcome}
use Prim.Native.Nat.{ℕ}
use mathlib.Core.Path.{◌≡◌, sym, ap, ap₂, ◌∙◌}
use Rattle.layout.proofs.Shape.lengths.Goals as goal

pub returns : goal.returns
returns c =
    let p = c.args.self.parameters in
    let due = lengths_due p in
    let ends = ap (layer_start p.k (steps_by p)) c.rounds-rounds.ensures ∙ store_length_is p.k (steps_by p) in
    ap₂ (λ (r s : ℕ). record { rounds = r; store = s; last = c.last_count.result })
    (c.rounds-rounds.ensures ∙ length_steps p.k p.rate p.step) (c.layer_start.ensures ∙ ends)
    ∙ ap (λ (d : ℕ). record { rounds = due.rounds; store = due.store; last = d }) c.last_count.ensures
