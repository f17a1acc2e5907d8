-- What is proved of written transcripts, as statements; Sections, RoundTrip, Writer and Written of proofs/ have the
-- values.
use Rattle.std.specs.Prelude.{◌≡◌, ◌≢◌, ◌⊎◌, ◌↔◌, List, ◌++◌, ℕ, ◌+◌, ◌*◌, ◌^◌, ◌≤◌, ◌<◌, length}
use Rattle.gf64.specs.Field.{IsElement}
use Rattle.poly.specs.Polynomial.{All}
use Rattle.refusal.specs.declared.Cause.{Cause}
use Rattle.refusal.specs.declared.Cause.TheVariants.{WrongLength, InputTooLong}
use Rattle.refusal.specs.declared.Lent.TheVariants as lent
use Rattle.std.specs.Prelude.{Ok, Err}
use Rattle.refusal.specs.Checks.{and_then}
use Rattle.refusal.specs.Numbers.{number_of, number_of_outcome}
use Rattle.fri.specs.Run.{Run, steps_in, rounds_in, step_in}
use Rattle.fri.specs.Layers.{honest}
use Rattle.fri.specs.Checks.{parameters_outcome, lengths_outcome}
use Rattle.fri.specs.Judge.{checks_outcome, verdict_of}
use Rattle.fri.specs.Demand.{ValidParameters, ValidCoset, ProverInput, LowDegree, ValidQueries, Apart, Elements}
use Rattle.fri.specs.Theorems.{Fit}
use Rattle.transcript.specs.Numerals.{AreBytes}
use Rattle.transcript.specs.Sections.{run_in, queries_in}
use Rattle.transcript.specs.Checks.{transcript_outcome}
use Rattle.transcript.specs.Judge.{transcript_verdict, input_limit, input_verdict}
use Rattle.transcript.specs.Theorems.{Carries}
use Rattle.written.specs.Bytes.{count_bytes, entries_bytes, section_bytes}
use Rattle.written.specs.Transcript.{transcript_of, transcript_length}
use Rattle.written.specs.Writer.{write_outcome, bytes_after}

-- the bytes of a count, of entries and of a section: how many there are, and that others have other bytes
pub record WrittenSections : Type 0 where
  pub are_bytes : (entries : List ℕ) → AreBytes (section_bytes entries)
  pub count_length : (count : ℕ) → length (count_bytes count) ≡ 4
  pub entries_length : (entries : List ℕ) → length (entries_bytes entries) ≡ 8 * length entries
  pub section_length : (entries : List ℕ) → length (section_bytes entries) ≡ 4 + 8 * length entries
  pub same_count : (one other : ℕ) → one < 2 ^ 32 → other < 2 ^ 32 → count_bytes one ≡ count_bytes other → one ≡ other
  pub same_entries : (one other : List ℕ) → All IsElement one → All IsElement other
      → entries_bytes one ≡ entries_bytes other → one ≡ other
  pub same_section : (one other : List ℕ) → All IsElement one → All IsElement other
      → section_bytes one ≡ section_bytes other → one ≡ other
  -- also where other bytes follow: a section says itself where it ends
  pub same_first : (one other after after' : List ℕ) → All IsElement one → All IsElement other
      → length one < 2 ^ 32 → length other < 2 ^ 32
      → section_bytes one ++ after ≡ section_bytes other ++ after' → (one ≡ other) × (after ≡ after')

-- lists that sections can hold: parameters in range, the lengths due, 64-bit numbers, and no more queries than a count
-- of 4 bytes can say
pub record FitsSections (run : Run) (queries : List ℕ) : Type 0 where
  pub parameters : ValidParameters run.k run.rate run.step
  pub lengths : Fit run
  pub elements : Elements run
  pub queries_elements : All IsElement queries
  pub queries_count : length queries < 2 ^ 32

-- what is written is read again
pub record WrittenTranscripts : Type 0 where
  pub are_bytes : (run : Run) (queries : List ℕ) → AreBytes (transcript_of run queries)
  -- the needed length
  pub size : (run : Run) (queries : List ℕ) → ValidParameters run.k run.rate run.step → Fit run
      → length (transcript_of run queries) ≡ transcript_length run.k run.rate (steps_in run) (length queries)
  -- the reader finds parameters, offset and lists again
  pub carries : (run : Run) (queries : List ℕ) → FitsSections run queries → Carries (transcript_of run queries)
  pub run_again : (run : Run) (queries : List ℕ) → FitsSections run queries → run_in (transcript_of run queries) ≡ run
  pub queries_again : (run : Run) (queries : List ℕ) → FitsSections run queries
      → queries_in (transcript_of run queries) ≡ queries
  -- bytes that carry lists are the transcript of those lists; so no other bytes carry the same
  pub only : (bytes : List ℕ) → AreBytes bytes → Carries bytes → transcript_of (run_in bytes) (queries_in bytes) ≡ bytes
  pub unique : (one other : List ℕ) → AreBytes one → AreBytes other → Carries one → Carries other
      → run_in one ≡ run_in other → queries_in one ≡ queries_in other → one ≡ other
  -- bytes from which the lists of a transcript that passes can be read are that transcript, or the reader refuses
  -- them: they end early (1), a count differs (2), or bytes follow the last section (3)
  pub others_refused : (run : Run) (queries bytes : List ℕ) → checks_outcome run queries ≡ Ok tt → AreBytes bytes
      → run_in bytes ≡ run → queries_in bytes ≡ queries
      → (bytes ≡ transcript_of run queries)
      ⊎ ((cause : Cause) × (transcript_verdict bytes ≡ record { answer = Err cause; reads = 0 })
      × (number_of cause ≤ 3))
  -- judging the bytes by the library is judging the lists, at every length, verdict and reads
  pub judged : (run : Run) (queries : List ℕ) → FitsSections run queries
      → transcript_verdict (transcript_of run queries) ≡ verdict_of run queries
  -- the program does so up to its limit; beyond it what passes the checks before the round checks gets 14
  pub judged_by_program : (run : Run) (queries : List ℕ) → FitsSections run queries
      → length (transcript_of run queries) ≤ input_limit
      → input_verdict (transcript_of run queries) ≡ verdict_of run queries
  pub over_limit : (run : Run) (queries : List ℕ) → FitsSections run queries
      → input_limit < length (transcript_of run queries) → checks_outcome run queries ≡ Ok tt
      → input_verdict (transcript_of run queries) ≡ record { answer = Err InputTooLong; reads = 0 }

-- the numbers that the writer may give
abbrev pub WriterNumber : (n : ℕ) → Type 0
WriterNumber n = (n ≡ 0) ⊎ ((4 ≤ n) × (n ≤ 10)) ⊎ (n ≡ 13) ⊎ (n ≡ 17)

-- the writer's refusals: those of the judge over lists without 11, and list 8
pub record WriterRefusals : Type 0 where
  -- with list 8 of the needed length they are those of the judge before its round checks
  pub as_lists : (run : Run) (queries : List ℕ)
      → write_outcome run queries (transcript_length run.k run.rate (steps_in run) (length queries))
      ≡ checks_outcome run queries
  -- any lists that pass are written, honest or not
  pub done : (run : Run) (queries : List ℕ) (size : ℕ)
      → (write_outcome run queries size ≡ Ok tt)
      ↔ ((checks_outcome run queries ≡ Ok tt)
      × (size ≡ transcript_length run.k run.rate (steps_in run) (length queries)))
  -- parameters and lists 1 to 5 come before list 8
  pub earlier : (run : Run) (queries : List ℕ) (size : ℕ) (cause : Cause)
      → and_then (parameters_outcome run.k run.rate run.step) (lengths_outcome run) ≡ Err cause
      → write_outcome run queries size ≡ Err cause
  -- and list 8 before the basis and the queries
  pub list8 : (run : Run) (queries : List ℕ) (size : ℕ) → ValidParameters run.k run.rate run.step → Fit run
      → size ≢ transcript_length run.k run.rate (steps_in run) (length queries)
      → write_outcome run queries size ≡ Err (WrongLength lent.Bytes)
  -- a refusal leaves every byte
  pub left : (run : Run) (queries held : List ℕ) (cause : Cause)
      → write_outcome run queries (length held) ≡ Err cause → bytes_after run queries held ≡ held
  -- no number is given otherwise
  pub numbers : (run : Run) (queries : List ℕ) (size : ℕ)
      → WriterNumber (number_of_outcome (write_outcome run queries size))

-- what list 8 holds where the writer is done
pub record WrittenBytes : Type 0 where
  -- the reader finds the lists again, and judging the bytes is judging the lists
  pub read : (run : Run) (queries held : List ℕ) → Elements run → All IsElement queries
      → write_outcome run queries (length held) ≡ Ok tt
      → (run_in (bytes_after run queries held) ≡ run) × (queries_in (bytes_after run queries held) ≡ queries)
      × (transcript_verdict (bytes_after run queries held) ≡ verdict_of run queries)
  -- of the lists of bytes whose sections pass it writes these bytes
  pub rewritten : (bytes held : List ℕ) → AreBytes bytes → transcript_outcome bytes ≡ Ok tt → length held ≡ length bytes
      → (write_outcome (run_in bytes) (queries_in bytes) (length held) ≡ Ok tt)
      × (bytes_after (run_in bytes) (queries_in bytes) held ≡ bytes)
  -- an honest run and a valid query list in which no two queries share a first-layer coset are written, whatever the
  -- word's degree
  pub honest_done : (run : Run) (queries : List ℕ) → ValidCoset run → ProverInput run
      → ValidQueries run.k queries → Apart (step_in run 0) queries
      → write_outcome (honest run) queries (transcript_length run.k run.rate (steps_in run) (length queries)) ≡ Ok tt
  -- demand 3, first half, of what is written: where the degree is low, the bytes are accepted, with queries · r · 2^η
  -- entries read
  pub honest_accepted : (run : Run) (queries held : List ℕ) → ValidCoset run → ProverInput run → LowDegree run
      → ValidQueries run.k queries → Apart (step_in run 0) queries
      → length held ≡ transcript_length run.k run.rate (steps_in run) (length queries)
      → transcript_verdict (bytes_after (honest run) queries held)
      ≡ record { answer = Ok tt; reads = length queries * rounds_in run * 2 ^ run.step }
