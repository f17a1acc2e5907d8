-- `round_checks::set_up` meets its contract. The loop's invariant: i rounds stand in the table, and the coset and the
-- start are layer i's. Assumes nothing.
use Rattle.round_checks.specs.Rounds.{round_at, Holds}
use Rattle.layout.specs.declared.Parameters.{Parameters}
use Rattle.layout.specs.Parameters.{steps_by}
use Rattle.layer_cosets.specs.declared.LayerCoset.{LayerCoset}
use Rattle.fri.specs.Layers.{layer_basis}
use Rattle.fri.specs.Layout.{layer_start}
use Rattle.round_checks.specs.declared.Round.{Round}
use lib.ListN.{length}
use Prim.Native.Nat.{ℕ}
use mathlib.Core.List.{List}
use mathlib.Core.Path.{◌≡◌}
use Rattle.round_checks.proofs.set_up.Given as goal

pub record BeforeRound (p : Parameters) (basis challenges : List ℕ) (table : List Round) (coset : LayerCoset)
    (start i : ℕ) : Type 0 where
  pub places : length table ≡ 19
  pub held : Holds table (round_at p basis challenges) i
  pub coset_is : coset.basis ≡ layer_basis (steps_by p) basis i
  pub start_is : start ≡ layer_start p.k (steps_by p) i

abbrev pub invariant-loop-i : goal.invariant-loop-i
invariant-loop-i l =
    BeforeRound l.shape.parameters l.basis l.challenges l.table l.coset l.start l.i
