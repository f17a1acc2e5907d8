-- `field::reduction::times_reduction`: w is the product by the i low bits of the reduction constant.
use mathlib.Core.Path.{◌≡◌}
use Prim.Native.Nat.{◌%◌, ◌^◌}
use Rattle.gf64.specs.Polynomial.{carryless, reduction}
use Rattle.carryless.specs.Window.{wide_of}
use Rattle.field.proofs.reduction.times_reduction.Given as goal

abbrev pub invariant-loop-i : goal.invariant-loop-i
invariant-loop-i l = wide_of l.w ≡ carryless (reduction % 2 ^ l.i) l.a
