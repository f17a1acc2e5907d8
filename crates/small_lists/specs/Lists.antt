-- The small lists of a transcript, as the code has them. Only inner functions cite this.
use Rattle.std.specs.Prelude.{List, ℕ}
use Rattle.transcript.specs.Sections.{section_entries, run_in, queries_in}
use Rattle.small_lists.specs.declared.Lists.{Lists}

-- the lists that are read from the bytes
abbrev pub lists_in : (bytes : List ℕ) → Lists
lists_in bytes =
    record {
      coset = section_entries bytes 2;
      challenges = (run_in bytes).challenges;
      queries = queries_in bytes;
      last = (run_in bytes).last;
    }
