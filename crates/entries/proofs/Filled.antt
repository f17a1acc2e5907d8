-- Entries read into a list, one after the other. Assumes nothing.
use mathlib.Core.Path.{◌≡◌, sym}
use mathlib.Core.List.{List}
use Prim.Native.Nat.{ℕ, ◌+◌, ◌*◌, ◌≤◌, ◌<◌}
use lib.ListN.{length, set}
use Rattle.poly.proofs.Filling.{filled, filled_next, filled_all}
use Rattle.transcript.specs.Numerals.{entry_at, entries_at}
use Rattle.transcript.proofs.Numerals.{entry_of, length_entries}

module _ (bytes : List ℕ) (at : ℕ) where
  pub next : (held : List ℕ) (i : ℕ) → i < length held
      → set (filled (entries_at bytes at (length held)) held i) i (entry_at bytes (at + 8 * i))
      ≡ filled (entries_at bytes at (length held)) held (i + 1)
  next held i h =
      filled_next (entries_at bytes at (length held)) held i (entry_at bytes (at + 8 * i)) h
      (length_entries bytes at (length held)) (sym (entry_of bytes at (length held) i h))

  pub all : (held : List ℕ) (i : ℕ) → length held ≤ i
      → filled (entries_at bytes at (length held)) held i ≡ entries_at bytes at (length held)
  all held i h =
      filled_all (entries_at bytes at (length held)) held i h (length_entries bytes at (length held))
