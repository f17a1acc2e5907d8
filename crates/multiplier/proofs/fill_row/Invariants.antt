-- `multiplier::fill_row`: the multiples below count + j are there.
use mathlib.Core.Path.{◌≡◌}
use Prim.Native.Nat.{ℕ, ◌+◌, ◌^◌}
use Rattle.gf64.specs.Field.{product}
use Rattle.multiplier.specs.Table.{Filled}
use Rattle.multiplier.proofs.fill_row.Given as goal

abbrev pub invariant-loop-j : goal.invariant-loop-j
invariant-loop-j l =
    (b k : ℕ) → l.count ≡ 2 ^ k → l.step ≡ product b (2 ^ k) → Filled b l.initial.block l.count
    → Filled b l.block (l.count + l.j)
