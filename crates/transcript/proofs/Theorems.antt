-- Judging bytes is judging the lists that they carry, and demand 3 of those lists. Assumes nothing.
use mathlib.Core.Path.{◌≡◌, refl, sym, ap, ◌∙◌, subst}
use mathlib.Core.Logic.{◌≢◌, inl, inr}
use mathlib.Core.Bool.{Bool, cond}
use mathlib.Core.List.{List, [], ◌∷◌}
use Prim.Native.Nat.{ℕ, ◌-◌, ◌≤◌, ◌<◌}
use native.Mathlib.Omega.{arith}
use lib.Pow.{pow_pos}
use lib.ListN.{length, take, drop, take-append-drop}
use lib.Seq.{length-take-le}
use borrow.Author.Tests.{le-leb, lt-leb}
use Rattle.poly.specs.Polynomial.{All}
use Rattle.poly.proofs.Entries.{of_first}
use Rattle.refusal.specs.declared.Cause.{Cause}
use Rattle.refusal.specs.declared.Cause.TheVariants.{RoundCheckFails}
use Rattle.std.specs.Prelude.{Ok, Err}
use Rattle.refusal.specs.Outcome.{Outcome}
use Rattle.refusal.specs.Checks.{and_then}
use Rattle.refusal.specs.Numbers.{number_of_outcome}
use Rattle.refusal.proofs.Checks.{then_done, Either, which}
use Rattle.fri.specs.declared.Verdict.{Verdict}
use Rattle.fri.specs.Run.{Run}
use Rattle.fri.specs.Run as run
use Rattle.fri.specs.Rounds.{rounds_outcome}
use Rattle.fri.specs.Reads.{entries_read}
use Rattle.fri.specs.Judge.{reads_after, verdict_of}
use Rattle.fri.specs.Demand.{Any, Accepted, Visits, Elements}
use Rattle.fri.proofs.Soundness.{soundness}
use Rattle.fri.proofs.Completeness.{completeness}
use Rattle.transcript.specs.Sections.{run_in, queries_in}
use Rattle.transcript.specs.Checks.{transcript_outcome}
use Rattle.transcript.specs.Judge.{transcript_verdict, longest_transcript, input_limit, long_verdict, input_verdict}
use Rattle.transcript.specs.Theorems.{Carries, JudgingBytes, TranscriptCompleteness}
use Rattle.transcript.specs.Theorems.{OfRun, TranscriptSoundness, LongTranscripts}
use Rattle.transcript.proofs.Sections.{run_fits}
use Rattle.transcript.proofs.Refusals.{transcript_number}
use Rattle.transcript.proofs.Fronts.{transcript_alone, longest}
use Rattle.transcript.proofs.Carried.{fit, checks_are, passed_carries}

-- ---- where they carry lists

carried : (bytes : List ℕ) → Carries bytes → transcript_verdict bytes ≡ verdict_of (run_in bytes) (queries_in bytes)
unfolding transcript_verdict
carried bytes c =
    ap {B = Verdict}
    (λ (o : Outcome).
    record {
      answer = and_then o (rounds_outcome (run_in bytes) (queries_in bytes) 0);
      reads = reads_after o (entries_read (run_in bytes) (queries_in bytes));
    })
    (checks_are bytes c)

-- a section's refusal is the answer, and nothing is read
pub refused_verdict : (bytes : List ℕ) (cause : Cause) → transcript_outcome bytes ≡ Err cause
    → transcript_verdict bytes ≡ record { answer = Err cause; reads = 0 }
unfolding transcript_verdict
refused_verdict bytes cause e =
    ap {B = Verdict}
    (λ (o : Outcome).
    record {
      answer = and_then o (rounds_outcome (run_in bytes) (queries_in bytes) 0);
      reads = reads_after o (entries_read (run_in bytes) (queries_in bytes));
    })
    e

-- ---- which bytes do

passed_sections : (bytes : List ℕ) → (transcript_verdict bytes).answer ≡ Ok tt
    → transcript_outcome bytes ≡ Ok tt
unfolding transcript_verdict
passed_sections bytes e =
    let rounds = rounds_outcome (run_in bytes) (queries_in bytes) 0 in
    (then_done (transcript_outcome bytes) rounds e).0

accepted_carries : (bytes : List ℕ) → (transcript_verdict bytes).answer ≡ Ok tt → Carries bytes
accepted_carries bytes e = passed_carries bytes (passed_sections bytes e)

refused_carries : (bytes : List ℕ) (query round : ℕ)
    → (transcript_verdict bytes).answer ≡ Err (RoundCheckFails query round) → Carries bytes
unfolding transcript_verdict
refused_carries bytes query round e =
    let rounds = rounds_outcome (run_in bytes) (queries_in bytes) 0 in
    by (which (transcript_outcome bytes) rounds (RoundCheckFails query round)
    e)
  where
    by : Either (transcript_outcome bytes) (rounds_outcome (run_in bytes) (queries_in bytes) 0)
        (RoundCheckFails query round) → Carries bytes
    by (inl early) =
        absurd
        (transcript_number (λ n. n ≢ 11) (λ n l e. omega arith) (λ e. omega arith) bytes (ap number_of_outcome early))
    by (inr (passed, late)) = passed_carries bytes passed

-- ---- demand 3

pub transcript_completeness : TranscriptCompleteness
transcript_completeness bytes h c independent low is valid apart =
    carried bytes c ∙ ap (λ (r : Run). verdict_of r (queries_in bytes)) is
    ∙ completeness (run_in bytes) (queries_in bytes)
    (record {
      parameters = c.parameters;
      offset_element = (run_fits bytes h).offset;
      basis_elements = (run_fits bytes h).basis;
      basis_count = (fit bytes c).basis;
      independent = independent;
    })
    (record {
      word_elements = (run_fits bytes h).word;
      word_count = (fit bytes c).word;
      challenges_elements = (run_fits bytes h).challenges;
      challenges_count = (fit bytes c).challenges;
    })
    low valid apart

queries_of : List (List ℕ) → List (List ℕ)
queries_of [] = []
queries_of (bytes ∷ transcripts) = queries_in bytes ∷ queries_of transcripts

-- what is accepted as bytes is accepted as lists
visited : (sent : Run) (coset : ℕ) (transcripts : List (List ℕ)) → All (OfRun sent) transcripts
    → Any (λ bytes. ((transcript_verdict bytes).answer ≡ Ok tt) × Visits sent (queries_in bytes) coset)
    transcripts
    → Any (λ queries. Accepted sent queries × Visits sent queries coset) (queries_of transcripts)
unfolding queries_of
visited sent coset (bytes ∷ transcripts) of_run (inl (a, v)) =
    inl (
      sym (ap (λ (x : Verdict). x.answer)
          (carried bytes (accepted_carries bytes a) ∙ ap (λ (r : Run). verdict_of r (queries_in bytes)) of_run.0.1))
          ∙ a,
      v,
    )
visited sent coset (bytes ∷ transcripts) of_run (inr rest) = inr (visited sent coset transcripts of_run.1 rest)
visited sent coset [] of_run none = none

-- there is a transcript, so that the run has 64-bit numbers
sent_fits : (sent : Run) (P : List ℕ → Type 0) (transcripts : List (List ℕ)) → All (OfRun sent) transcripts
    → Any P transcripts → Elements sent
sent_fits sent P [] of_run none = absurd none
sent_fits sent P (bytes ∷ transcripts) of_run some = subst Elements of_run.0.1 (run_fits bytes of_run.0.0)

pub transcript_soundness : TranscriptSoundness
transcript_soundness sent transcripts of_run covers =
    soundness sent (queries_of transcripts)
    (sent_fits sent
    (λ bytes. ((transcript_verdict bytes).answer ≡ Ok tt) × Visits sent (queries_in bytes) 0) transcripts of_run
    (covers 0 (pow_pos (sent.k - run.step_in sent 0))))
    (λ coset h. visited sent coset transcripts of_run (covers coset h))

-- ---- the program's answer

abbrev program_by : (bytes : List ℕ) (test : Bool) → Verdict
program_by bytes test = cond test (transcript_verdict bytes) (long_verdict bytes)

pub short : (bytes : List ℕ) → length bytes ≤ input_limit → input_verdict bytes ≡ transcript_verdict bytes
unfolding input_verdict
short bytes h = ap (program_by bytes) (le-leb (length bytes) input_limit h)

pub long : (bytes : List ℕ) → input_limit < length bytes → input_verdict bytes ≡ long_verdict bytes
unfolding input_verdict
long bytes h = ap (program_by bytes) (lt-leb (length bytes) input_limit h)

pub judging_bytes : JudgingBytes
judging_bytes =
    record {
      carried = carried;
      early = refused_verdict;
      accepted = accepted_carries;
      refused = refused_carries;
      short = short;
    }

-- ---- long files

-- a front that is longer than every transcript is refused, and so is all that it begins, for the same cause
same_refusal : (front bytes : List ℕ) (outcome : Outcome) → transcript_outcome front ≡ outcome
    → transcript_outcome bytes ≡ outcome → longest_transcript < length front
    → transcript_verdict front ≡ transcript_verdict bytes
same_refusal front bytes (Ok _) e f h = absurd (omega (arith, longest front e))
same_refusal front bytes (Err cause) e f h = refused_verdict front cause e ∙ sym (refused_verdict bytes cause f)

first_decide : (bytes : List ℕ) (read : ℕ) → longest_transcript < read
    → transcript_verdict (take read bytes) ≡ transcript_verdict bytes
first_decide bytes read h =
    of_first transcript_verdict read bytes
    (λ (longer : read < length bytes).
    let size : length (take read bytes) ≡ read = length-take-le read bytes (omega arith) in
    let more : longest_transcript < length (take read bytes) = omega arith in
    same_refusal (take read bytes) bytes (transcript_outcome (take read bytes)) refl
    (ap transcript_outcome (sym (take-append-drop read bytes))
    ∙ transcript_alone (take read bytes) (drop read bytes) more)
    more)

pub long_transcripts : LongTranscripts
long_transcripts =
    record {
      size = refl;
      longest = longest;
      accepted = λ bytes e. longest bytes (passed_sections bytes e);
      first = first_decide;
    }
