-- The sections of a transcript, document 01's own format, counted from 1, and the lists that are read from it: 1 k, R,
-- η; 2 offset and basis; 3 challenges; 4 queries; 5 to 4 + r layers 0 to r - 1; 5 + r the last coefficients.
use Rattle.std.specs.Prelude.{List, ℕ, zero, suc, ◌+◌, ◌*◌, ◌-◌, get_or, length, drop}
use Rattle.fri.specs.Layout.{steps_of, joined_layers}
use Rattle.fri.specs.Run.{Run}
use Rattle.transcript.specs.Numerals.{count_at, entries_at}

-- where a section ends that begins there: after its count and as many entries
abbrev pub section_end : (bytes : List ℕ) (at : ℕ) → ℕ
section_end bytes at = at + 4 + 8 * count_at bytes at

-- where a section begins
unfoldable pub section_start : (bytes : List ℕ) (section : ℕ) → ℕ
section_start bytes zero = 0
section_start bytes (suc zero) = 0
section_start bytes (suc (suc section)) = section_end bytes (section_start bytes (suc section))

-- the count of a section
abbrev pub section_count : (bytes : List ℕ) (section : ℕ) → ℕ
section_count bytes section = count_at bytes (section_start bytes section)

-- the entries of a section
abbrev pub section_entries : (bytes : List ℕ) (section : ℕ) → List ℕ
section_entries bytes section = entries_at bytes (section_start bytes section + 4) (section_count bytes section)

-- the section of layer i
abbrev pub layer_section : (i : ℕ) → ℕ
layer_section i = 5 + i

-- k, the first entry of section 1
abbrev pub transcript_k : (bytes : List ℕ) → ℕ
transcript_k bytes = get_or (section_entries bytes 1) 0 0

-- R, the second
abbrev pub transcript_rate : (bytes : List ℕ) → ℕ
transcript_rate bytes = get_or (section_entries bytes 1) 1 0

-- η, the third
abbrev pub transcript_step : (bytes : List ℕ) → ℕ
transcript_step bytes = get_or (section_entries bytes 1) 2 0

-- the steps of the rounds
abbrev pub transcript_steps : (bytes : List ℕ) → List ℕ
transcript_steps bytes = steps_of (transcript_k bytes) (transcript_rate bytes) (transcript_step bytes)

-- r, the number of rounds
abbrev pub transcript_rounds : (bytes : List ℕ) → ℕ
transcript_rounds bytes = length (transcript_steps bytes)

-- the run that is read from the bytes, and that they carry where `Carries` holds;
-- layers 1 to r - 1, joined, are its store
abbrev pub run_in : (bytes : List ℕ) → Run
run_in bytes =
    record {
      k = transcript_k bytes;
      rate = transcript_rate bytes;
      step = transcript_step bytes;
      offset = get_or (section_entries bytes 2) 0 0;
      basis = drop 1 (section_entries bytes 2);
      challenges = section_entries bytes 3;
      word = section_entries bytes (layer_section 0);
      store = joined_layers (λ i. section_entries bytes (layer_section i)) (transcript_rounds bytes - 1);
      last = section_entries bytes (layer_section (transcript_rounds bytes));
    }

-- the queries that are read from them
abbrev pub queries_in : (bytes : List ℕ) → List ℕ
queries_in bytes = section_entries bytes 4
