-- `input::read` meets its contract. The loop's invariant: what was read fits the list, and is what the reader gave; and
-- what reads from here on come to is what reads from the beginning come to. The measure is the room that is left, of
-- which every turn but the last takes some. Assumes nothing.
use Rattle.std.proofs.Common.{◌-◌, ◌≤◌, length, take}
use Rattle.std.specs.Io.KnownBytes.{Consumes}
use Rattle.std.specs.Prelude.{ℕ, List, Option}
use Rattle.input.specs.Reading.{Reads, ReadBy}
use Rattle.input.proofs.read.Given as goal

abbrev pub invariant-loop-source : goal.invariant-loop-source
invariant-loop-source g l =
    record {
      fits : l.count ≤ length l.input;
      given : Consumes (g.R.Read.remaining l.fn.source) (g.R.Read.remaining l.source) (take l.count l.input);
      reads : (reading : Option ℕ) (gots : List (Option ℕ))
          → Reads g.R.Source.Gave (length l.input) reading gots l.count l.source
          → ReadBy g.R.Source.Gave (length l.input) reading l.fn.source;
    }

abbrev pub decreases-loop-source : goal.decreases-loop-source
decreases-loop-source g l = length l.input - l.count
