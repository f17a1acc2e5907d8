-- `carryless::Window::of`: the entries below n are the multiples.
use mathlib.Core.Path.{◌≡◌}
use lib.ListN.{length}
use Rattle.carryless.proofs.Multiples.{Filled}
use Rattle.carryless.proofs.Window.of.Given as goal

abbrev pub invariant-loop-n : goal.invariant-loop-n
invariant-loop-n l = (length l.entries ≡ 16) × Filled l.a l.entries l.n
