-- `Judging::computed` meets its contract. The loop's invariant: t entries of the coset stand in front. Assumes nothing.
use Prim.Native.Nat.{ℕ, ◌+◌, ◌<◌}
use lib.ListN.{length, get_or}
use mathlib.Core.Path.{◌≡◌}
use Rattle.round_checks.specs.Judging.{layer_of}
use Rattle.round_checks.proofs.Judging.computed.Given as goal

abbrev pub invariant-loop-t : goal.invariant-loop-t
invariant-loop-t g l =
    let layers = l.self.layers in
    (length l.part ≡ 8)
    × ((u : ℕ) → u < l.t
    → get_or l.part u 0
    ≡ get_or (layer_of (g.L.Layers.parameters layers) (g.L.Layers.word layers) (g.L.Layers.store layers) l.i) (l.begin + u) 0)
