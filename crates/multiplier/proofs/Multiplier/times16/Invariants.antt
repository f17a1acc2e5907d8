-- `multiplier::Multiplier::times16`: the sum is the product by the 4 · n low bits of x.
use mathlib.Core.Path.{◌≡◌}
use Prim.Native.Nat.{◌*◌, ◌%◌, ◌^◌}
use Rattle.gf64.specs.Field.{product}
use Rattle.multiplier.proofs.Multiplier.times16.Given as goal

abbrev pub invariant-loop-n : goal.invariant-loop-n
invariant-loop-n l = l.sum ≡ product l.self (l.x % 2 ^ (4 * l.n))
