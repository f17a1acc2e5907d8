-- What is proved of judging bytes: where they carry lists, the verdict is that of the judge over those lists;
-- so that both halves of demand 3 hold of the lists that they carry. proofs/Theorems.antt has the values.
use Rattle.std.specs.Prelude.{◌≡◌, ◌⊎◌, ◌↔◌, List, [], ℕ, suc, ◌+◌, ◌*◌, ◌-◌, ◌^◌, ◌≤◌, ◌<◌, length, take}
use Rattle.poly.specs.Polynomial.{All}
use Rattle.refusal.specs.declared.Cause.{Cause}
use Rattle.refusal.specs.declared.Cause.TheVariants.{CountDiffers, RoundCheckFails, InputTooLong, CosetShared}
use Rattle.std.specs.Prelude.{Some, None, Ok, Err}
use Rattle.refusal.specs.Outcome.{Outcome}
use Rattle.refusal.specs.Numbers.{number_of, number_of_outcome}
use Rattle.coset.specs.Span.{Independent}
use Rattle.fri.specs.Layout.{dimension, last_count}
use Rattle.fri.specs.Run.{Run}
use Rattle.fri.specs.Run as run
use Rattle.fri.specs.Layers.{honest}
use Rattle.fri.specs.Checks.{first_shared}
use Rattle.fri.specs.Judge.{checks_outcome, verdict_of}
use Rattle.fri.specs.Demand.{ValidParameters, LowDegree, ValidQueries, Apart, Any, Visits, Sound}
use Rattle.fri.specs.Theorems.{Tells}
use Rattle.transcript.specs.Numerals.{AreBytes}
use Rattle.transcript.specs.Sections.{section_start, section_count, layer_section, transcript_k, transcript_rate}
use Rattle.transcript.specs.Sections.{transcript_step, transcript_steps, transcript_rounds, run_in, queries_in}
use Rattle.transcript.specs.Checks.{parameters_section, coset_section, challenges_section, front_outcome}
use Rattle.transcript.specs.Checks.{transcript_outcome}
use Rattle.transcript.specs.Judge.{transcript_verdict, longest_transcript, longest_front, input_limit, input_verdict}

-- the bytes carry the lists that are read from them: parameters in range, the counts due but for the queries',
-- and nothing follows the last section
pub record Carries (bytes : List ℕ) : Type 0 where
  pub parameters_count : section_count bytes 1 ≡ 3
  pub parameters : ValidParameters (transcript_k bytes) (transcript_rate bytes) (transcript_step bytes)
  pub coset_count : section_count bytes 2 ≡ transcript_k bytes + 1
  pub challenges_count : section_count bytes 3 ≡ transcript_rounds bytes
  pub layer_counts : (i : ℕ) → i < transcript_rounds bytes
      → section_count bytes (layer_section i) ≡ 2 ^ dimension (transcript_k bytes) (transcript_steps bytes) i
  pub last-count : section_count bytes (layer_section (transcript_rounds bytes))
      ≡ last_count (transcript_k bytes) (transcript_rate bytes) (transcript_steps bytes)
  pub ends : section_start bytes (suc (layer_section (transcript_rounds bytes))) ≡ length bytes

-- judging bytes is judging the lists that they carry
pub record JudgingBytes : Type 0 where
  -- where they carry lists, the verdict is that of the judge over those lists
  pub carried : (bytes : List ℕ) → Carries bytes → transcript_verdict bytes ≡ verdict_of (run_in bytes) (queries_in bytes)
  -- a section's refusal is the answer, and nothing is read
  pub early : (bytes : List ℕ) (cause : Cause) → transcript_outcome bytes ≡ Err cause
      → transcript_verdict bytes ≡ record { answer = Err cause; reads = 0 }
  -- they carry lists where they are accepted or refused by a round check
  pub accepted : (bytes : List ℕ) → (transcript_verdict bytes).answer ≡ Ok tt → Carries bytes
  pub refused : (bytes : List ℕ) (query round : ℕ)
      → (transcript_verdict bytes).answer ≡ Err (RoundCheckFails query round) → Carries bytes
  -- the program's answer: the same, up to the limit
  pub short : (bytes : List ℕ) → length bytes ≤ input_limit → input_verdict bytes ≡ transcript_verdict bytes

-- number 17 over bytes: sections 1 to 3 pass, section 4 is there to its end with valid queries, and this one is the
-- first that shares a first-layer coset with an earlier one, whatever follows section 4
abbrev pub SharedInBytes : Type 0
SharedInBytes =
    (bytes : List ℕ) (query : ℕ)
    → ((transcript_verdict bytes).answer ≡ Err (CosetShared query))
    ↔ ((parameters_section bytes ≡ Ok tt) × (coset_section bytes ≡ Ok tt) × (challenges_section bytes ≡ Ok tt)
    × (section_start bytes 5 ≤ length bytes) × ValidQueries (transcript_k bytes) (queries_in bytes)
    × (first_shared (run.step_in (run_in bytes) 0) (queries_in bytes) ≡ Some query))

-- transcripts have a longest length, so that a reader of larger files needs no more of them
pub record LongTranscripts : Type 0 where
  pub size : longest_transcript ≡ 16779680
  -- bytes whose sections all pass are not longer; so none that are accepted
  pub longest : (bytes : List ℕ) → transcript_outcome bytes ≡ Ok tt → length bytes ≤ longest_transcript
  pub accepted : (bytes : List ℕ) → (transcript_verdict bytes).answer ≡ Ok tt
      → length bytes ≤ longest_transcript
  -- the first bytes, more than that, get the verdict of all
  pub first : (bytes : List ℕ) (read : ℕ) → longest_transcript < read
      → transcript_verdict (take read bytes) ≡ transcript_verdict bytes

-- the numbers that sections 1 to 4 give where no byte of them is missing: 2, 4 to 10 and 17
abbrev pub FrontNumber : (n : ℕ) → Type 0
FrontNumber n = (n ≡ 2) ⊎ ((4 ≤ n) × (n ≤ 10)) ⊎ (n ≡ 17)

-- a refusal by such a number, in one of sections 1 to 4: 2 is given for other sections too, the others are not
abbrev pub RefusedInFront : (answer : Outcome) → Type 0
RefusedInFront answer =
    ((section : ℕ) × (section ≤ 3) × (answer ≡ Err (CountDiffers section)))
    ⊎ ((4 ≤ number_of_outcome answer) × (number_of_outcome answer ≤ 10)) ⊎ (number_of_outcome answer ≡ 17)

-- the program's answer to inputs over the limit (02, Q-8)
pub record LongInputs : Type 0 where
  pub limit : input_limit ≡ 65536
  -- a refusal of sections 1 to 4 is the answer, with 0 reads, and the one that the library gives
  pub refused : (bytes : List ℕ) (cause : Cause) → input_limit < length bytes → front_outcome bytes ≡ Err cause
      → (input_verdict bytes ≡ record { answer = Err cause; reads = 0 })
      × (input_verdict bytes ≡ transcript_verdict bytes)
  -- else 14, with 0 reads
  pub passed : (bytes : List ℕ) → input_limit < length bytes → front_outcome bytes ≡ Ok tt
      → input_verdict bytes ≡ record { answer = Err InputTooLong; reads = 0 }
  -- said by the library's verdict alone: a refusal of sections 1 to 4 stands, every other verdict becomes 14
  pub by_library : (bytes : List ℕ) → input_limit < length bytes
      → (RefusedInFront (transcript_verdict bytes).answer → input_verdict bytes ≡ transcript_verdict bytes)
      × ((RefusedInFront (transcript_verdict bytes).answer → ⊥)
      → input_verdict bytes ≡ record { answer = Err InputTooLong; reads = 0 })
  -- 02's own case: k is over 20
  pub large_dimension : (bytes : List ℕ) → input_limit < length bytes → section_count bytes 1 ≡ 3
      → 20 < transcript_k bytes → Tells (input_verdict bytes) 4 None None 0
  -- of bytes that carry lists sections 1 to 4 give what the judge over those lists does before its round checks
  pub carried : (bytes : List ℕ) → Carries bytes → front_outcome bytes ≡ checks_outcome (run_in bytes) (queries_in bytes)
  -- from 2,408 bytes on none of sections 1 to 4 is cut off (1)
  pub front_numbers : (bytes : List ℕ) (cause : Cause) → longest_front ≤ length bytes
      → front_outcome bytes ≡ Err cause → FrontNumber (number_of cause)
  -- so no other numbers are given than 2, 4 to 10, 14 and 17: never 0, 1, 3 or 11
  pub numbers : (bytes : List ℕ) → input_limit < length bytes
      → FrontNumber (number_of_outcome (input_verdict bytes).answer) ⊎ (number_of_outcome (input_verdict bytes).answer ≡ 14)
  -- so what the program accepts is not over the limit, and the library accepts it
  pub accepted : (bytes : List ℕ) → (input_verdict bytes).answer ≡ Ok tt
      → (length bytes ≤ input_limit) × ((transcript_verdict bytes).answer ≡ Ok tt)
  -- sections 1 to 4, where they pass, end within 2,408 bytes, and these alone decide on them
  pub front_size : longest_front ≡ 2408
  pub front_ends : (bytes : List ℕ) → front_outcome bytes ≡ Ok tt → section_start bytes 5 ≤ longest_front
  pub front_alone : (bytes : List ℕ) (read : ℕ) → longest_front ≤ read
      → front_outcome (take read bytes) ≡ front_outcome bytes
  -- so the first bytes, if more than the limit, as the 65,537 that the program reads, get the answer of the whole
  -- input, however long it is
  pub first : (bytes : List ℕ) (read : ℕ) → input_limit < read → input_verdict (take read bytes) ≡ input_verdict bytes

-- demand 3, first half: bytes that carry an honest run of a word of low degree over an independent basis, and a valid
-- query list in which no two queries share a first-layer coset, are accepted, whatever the offset and the challenges,
-- and queries · r · 2^η entries are read
abbrev pub TranscriptCompleteness : Type 0
TranscriptCompleteness =
    (bytes : List ℕ) → AreBytes bytes → Carries bytes → Independent (run_in bytes).basis → LowDegree (run_in bytes)
    → run_in bytes ≡ honest (run_in bytes)
    → ValidQueries (transcript_k bytes) (queries_in bytes) → Apart (run.step_in (run_in bytes) 0) (queries_in bytes)
    → transcript_verdict bytes
    ≡ record {
      answer = Ok tt;
      reads = length (queries_in bytes) * transcript_rounds bytes * 2 ^ transcript_step bytes;
    }

-- bytes from which this run is read
abbrev pub OfRun : (sent : Run) (bytes : List ℕ) → Type 0
OfRun sent bytes = AreBytes bytes × (run_in bytes ≡ sent)

-- the accepted ones together visit every first-layer coset
abbrev pub VisitedByTranscripts : (sent : Run) (transcripts : List (List ℕ)) → Type 0
VisitedByTranscripts sent transcripts =
    (coset : ℕ) → coset < 2 ^ (sent.k - run.step_in sent 0)
    → Any (λ bytes. ((transcript_verdict bytes).answer ≡ Ok tt) × Visits sent (queries_in bytes) coset)
    transcripts

-- demand 3, second half: one claim over any list of transcripts of the same layers from anybody
abbrev pub TranscriptSoundness : Type 0
TranscriptSoundness =
    (sent : Run) (transcripts : List (List ℕ)) → All (OfRun sent) transcripts → VisitedByTranscripts sent transcripts
    → Sound sent

abbrev pub TranscriptNumber : (n : ℕ) → Type 0
TranscriptNumber n = (n ≤ 11) ⊎ (n ≡ 17)

-- no other numbers are given: over bytes 0 to 11 and 17, and 14 by the program
pub record TranscriptNumbers : Type 0 where
  pub library : (bytes : List ℕ) → TranscriptNumber (number_of_outcome (transcript_verdict bytes).answer)
  pub program : (bytes : List ℕ)
      → TranscriptNumber (number_of_outcome (input_verdict bytes).answer)
      ⊎ (number_of_outcome (input_verdict bytes).answer ≡ 14)
  -- case N: no bytes at all
  pub empty : Tells (input_verdict []) 1 (Some 1) None 0
