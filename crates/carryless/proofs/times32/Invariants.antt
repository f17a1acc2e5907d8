-- `carryless::times32`: the sums are the products by the 4 · n low bits.
use Prim.Native.Nat.{◌*◌, ◌%◌, ◌^◌}
use Rattle.carryless.specs.Window.{Sums}
use Rattle.carryless.proofs.times32.Given as goal

abbrev pub invariant-loop-n : goal.invariant-loop-n
invariant-loop-n l = Sums l.low l.high (l.x % 2 ^ (4 * l.n)) (l.y % 2 ^ (4 * l.n)) l.sums
