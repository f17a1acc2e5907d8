-- `sheet::main` keeps to the contracts of what it calls. Assumes nothing.
use Prim.Native.Nat.{ℕ}
use lib.ListN.{length-replicate}
use Rattle.sheet.proofs.main.Goals as goal

pub answer-lines-requires-clause-room : goal.answer-lines-requires-clause-room
answer-lines-requires-clause-room c = length-replicate {A = ℕ} 272384 0
