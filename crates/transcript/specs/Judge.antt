-- The judge over the bytes of a transcript, and the answer of the program `judge`.
use Rattle.std.specs.Prelude.{cond, List, ℕ, ◌+◌, ◌*◌, ◌-◌, ◌^◌, leb, length}
use Rattle.refusal.specs.declared.Cause.TheVariants.{InputTooLong}
use Rattle.std.specs.Prelude.{Err}
use Rattle.refusal.specs.Checks.{and_then}
use Rattle.fri.specs.declared.Verdict.{Verdict}
use Rattle.fri.specs.Rounds.{rounds_outcome}
use Rattle.fri.specs.Reads.{entries_read}
use Rattle.fri.specs.Judge.{reads_after}
use Rattle.transcript.specs.Sections.{run_in, queries_in}
use Rattle.transcript.specs.Checks.{front_outcome, transcript_outcome}

-- the verdict: the sections in order, then the round checks (11) of the run that they carry, with the entries read
unfoldable pub transcript_verdict : (bytes : List ℕ) → Verdict
transcript_verdict bytes =
    record {
      answer = and_then (transcript_outcome bytes) (rounds_outcome (run_in bytes) (queries_in bytes) 0);
      reads = reads_after (transcript_outcome bytes) (entries_read (run_in bytes) (queries_in bytes));
    }

-- how many bytes the longest sections 1 to 4 that pass have, with k 20, R 1, η 1 and 256 queries: 4 counts of 4 bytes;
-- 3 parameters, 21 of offset and basis, 19 challenges and 256 queries of 8
abbrev pub longest_front : ℕ
longest_front = 4 * 4 + 8 * (3 + 21 + 19 + 256)

-- how many the longest transcript that passes has, of the same parameters: behind these 20 counts, layers of 2^20 to
-- 2^2 entries and one last coefficient
abbrev pub longest_transcript : ℕ
longest_transcript = longest_front + 4 * 20 + 8 * (2 ^ 21 - 2 ^ 2 + 1)

-- the most bytes that the programs `judge` and `sheet` take
abbrev pub input_limit : ℕ
input_limit = 2 ^ 16

-- the program's answer to more bytes than that: the first refusal of sections 1 to 4, then 14 (02, Q-8)
abbrev pub long_verdict : (bytes : List ℕ) → Verdict
long_verdict bytes = record { answer = and_then (front_outcome bytes) (Err InputTooLong); reads = 0 }

-- the program's answer
unfoldable pub input_verdict : (bytes : List ℕ) → Verdict
input_verdict bytes = cond (leb (length bytes) input_limit) (transcript_verdict bytes) (long_verdict bytes)
