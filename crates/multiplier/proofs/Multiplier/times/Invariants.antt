-- `multiplier::Multiplier::times`: w reduced is the product by the 16 · n low bits of x.
use mathlib.Core.Path.{◌≡◌}
use Prim.Native.Nat.{◌*◌, ◌%◌, ◌^◌}
use Rattle.gf64.specs.Polynomial.{remainder}
use Rattle.gf64.specs.Field.{product}
use Rattle.carryless.specs.Window.{wide_of}
use Rattle.multiplier.proofs.Multiplier.times.Given as goal

abbrev pub invariant-loop-n : goal.invariant-loop-n
invariant-loop-n l = remainder (wide_of l.w) ≡ product l.self (l.x % 2 ^ (16 * l.n))
