-- The length told is the one that the writer asks for. proofs/Theorems.antt has the value.
use Rattle.std.specs.Prelude.{◌≡◌, List, ℕ, ◌^◌, ◌<◌, length}
use Rattle.fri.specs.Judge.{checks_outcome}
use Rattle.layout.specs.declared.Parameters.{Parameters}
use Rattle.layout.specs.Parameters.{run_of}
use Rattle.written.specs.Writer.{write_outcome}
use Rattle.writer.specs.Lengths.{transcript_length_of}

-- with a list 8 of that length the writer refuses what the judge over lists refuses before its round checks, and
-- nothing else; no list has 2^60 queries
abbrev pub LengthTold : Type 0
LengthTold =
    (p : Parameters) (offset : ℕ) (basis challenges queries word store last : List ℕ) → length queries < 2 ^ 60
    → write_outcome (run_of p offset basis challenges word store last) queries (transcript_length_of p (length queries))
    ≡ checks_outcome (run_of p offset basis challenges word store last) queries
