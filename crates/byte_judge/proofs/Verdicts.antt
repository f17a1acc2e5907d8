-- The verdict by what the sections say. Assumes nothing.
use mathlib.Core.Path.{◌≡◌, sym}
use mathlib.Core.List.{List}
use Prim.Native.Nat.{ℕ}
use Rattle.std.specs.Prelude.{Ok}
use Rattle.fri.specs.Judge.{verdict_of}
use Rattle.transcript.specs.Sections.{run_in, queries_in}
use Rattle.transcript.specs.Checks.{transcript_outcome}
use Rattle.transcript.specs.Judge.{transcript_verdict}
use Rattle.transcript.proofs.Theorems.{judging_bytes}
use Rattle.transcript.proofs.Carried.{passed_carries}

module _ (bytes : List ℕ) where
  pub passed : transcript_outcome bytes ≡ Ok tt
      → verdict_of (run_in bytes) (queries_in bytes) ≡ transcript_verdict bytes
  passed done = sym (judging_bytes.carried bytes (passed_carries bytes done))
