-- Chunks of bytes, with zeros for those beyond the end, as numbers. Assumes nothing.
use mathlib.Core.Path.{◌≡◌, sym, ap, ◌∙◌}
use mathlib.Core.List.{List, []}
use Prim.Native.Nat.{ℕ, ◌+◌, ◌-◌, ◌≤◌, ◌<◌}
use native.Mathlib.Omega.{arith}
use lib.ListN.{length, get_or, take, drop, replicate, drop_of_length-le}
use lib.Seq.{take-nil}
use Rattle.std.proofs.lemmas.List.{get_or-take, get_or-drop, take_all, length-drop, length-take-le}
use Rattle.std.specs.Int.{w32, w64, from_le_bytes}
use Rattle.poly.specs.Carrier.{gf64}
use Rattle.poly.specs.Polynomial.{padded}
use Rattle.poly.proofs.Evaluation.{padded_full}
use Rattle.poly.proofs.Filling.{padded_front, get_or-padded}
use Rattle.transcript.specs.Numerals.{count_at, entry_at}
use Rattle.transcript.proofs.Numerals.{count-bytes, entry_counts}

module _ (bytes : List ℕ) (at : ℕ) where
  -- a byte of a chunk
  byte_of : (n i place : ℕ) → i < n → at + i ≡ place
      → get_or (padded gf64 n (take n (drop at bytes))) i 0 ≡ get_or bytes place 0
  byte_of n i place h e =
      get_or-padded n (take n (drop at bytes)) i
      ∙ get_or-take n (drop at bytes) i 0 h
      ∙ get_or-drop at bytes i 0
      ∙ ap (λ (p : ℕ). get_or bytes p 0) e

  pub count_of : from_le_bytes w32 (padded gf64 4 (take 4 (drop at bytes))) ≡ count_at bytes at
  count_of =
      omega (
        arith,
        count-bytes bytes at,
        byte_of 4 0 at (omega arith) (omega arith),
        byte_of 4 1 (at + 1) (omega arith) (omega arith),
        byte_of 4 2 (at + 2) (omega arith) (omega arith),
        byte_of 4 3 (at + 3) (omega arith) (omega arith),
      )

  pub entry_of_8 : from_le_bytes w64 (padded gf64 8 (take 8 (drop at bytes))) ≡ entry_at bytes at
  entry_of_8 =
      omega (
        arith,
        entry_counts bytes at,
        count-bytes bytes at,
        count-bytes bytes (at + 4),
        byte_of 8 0 at (omega arith) (omega arith),
        byte_of 8 1 (at + 1) (omega arith) (omega arith),
        byte_of 8 2 (at + 2) (omega arith) (omega arith),
        byte_of 8 3 (at + 3) (omega arith) (omega arith),
        byte_of 8 4 (at + 4) (omega arith) (omega arith),
        byte_of 8 5 (at + 4 + 1) (omega arith) (omega arith),
        byte_of 8 6 (at + 4 + 2) (omega arith) (omega arith),
        byte_of 8 7 (at + 4 + 3) (omega arith) (omega arith),
      )

-- a chunk that lies beyond the end, one whose bytes are all there, and one that is cut
module _ (n : ℕ) (bytes : List ℕ) (at : ℕ) where
  pub no_chunk : length bytes < at → replicate n 0 ≡ padded gf64 n (take n (drop at bytes))
  no_chunk h =
      let none = ap (take n) (drop_of_length-le bytes (omega (arith, h))) ∙ take-nil n in
      padded_front n [] ∙ ap (padded gf64 n) (sym none)

  pub whole_chunk : let rest = take (length bytes - at) (drop at bytes) in
      n ≤ length rest → take n rest ≡ padded gf64 n (take n (drop at bytes))
  whole_chunk h =
      let all = take_all (length bytes - at) (drop at bytes) (omega (arith, length-drop at bytes)) in
      ap (take n) all
      ∙ sym
      (padded_full gf64 n (take n (drop at bytes))
      (length-take-le n (drop at bytes) (omega (arith, ap length all, h))))

  pub short_chunk : length (drop at bytes) < n → take n (drop at bytes) ≡ drop at bytes
  short_chunk h = take_all n (drop at bytes) (omega (arith, h))
