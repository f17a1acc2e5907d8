-- How many bytes a transcript has, told beforehand for any parameters and any number of queries.
use Rattle.std.specs.Prelude.{cond, ℕ, ◌^◌, ltb}
use Rattle.std.specs.Prelude.{Ok, Err}
use Rattle.refusal.specs.Outcome.{Outcome}
use Rattle.fri.specs.Checks.{parameters_outcome}
use Rattle.layout.specs.declared.Parameters.{Parameters}
use Rattle.layout.specs.Parameters.{steps_by}
use Rattle.written.specs.Transcript.{transcript_length}

-- the number if the checks pass, else 0
abbrev pub or_zero : (outcome : Outcome) (number : ℕ) → ℕ
or_zero (Ok _) number = number
or_zero (Err cause) number = 0

-- the length due; 0 for parameters out of range, and for 2^60 queries or more, which no list of 64-bit numbers has
abbrev pub transcript_length_of : (p : Parameters) (queries : ℕ) → ℕ
transcript_length_of p queries =
    or_zero (parameters_outcome p.k p.rate p.step)
    (cond (ltb queries (2 ^ 60)) (transcript_length p.k p.rate (steps_by p) queries) 0)
