-- What the code has of a transcript by value.
use Rattle.std.specs.Prelude.{List, ℕ, ◌^◌, ◌<◌, get_or}
use Rattle.layout.specs.declared.Parameters.{Parameters}
use Rattle.transcript.specs.Sections.{section_start, transcript_k, transcript_rate, transcript_step}
use Rattle.sections.specs.declared.Sections.{Sections}

-- each is a byte: what the type of the bytes says, for those that a struct holds
abbrev pub EachByte : (bytes : List ℕ) → Type 0
EachByte bytes = (i : ℕ) → get_or bytes i 0 < 2 ^ 8

-- where sections 2 to 5 begin
abbrev pub sections_in : (bytes : List ℕ) → Sections
sections_in bytes =
    record {
      coset = section_start bytes 2;
      challenges = section_start bytes 3;
      queries = section_start bytes 4;
      layers = section_start bytes 5;
    }

-- k, R and η
abbrev pub parameters_in : (bytes : List ℕ) → Parameters
parameters_in bytes = record { k = transcript_k bytes; rate = transcript_rate bytes; step = transcript_step bytes }
