-- What list 8 holds where the writer is done. Assumes nothing.
use mathlib.Core.Path.{◌≡◌, sym, ap, ◌∙◌}
use mathlib.Core.List.{List, [], ◌∷◌}
use Prim.Native.Nat.{ℕ, ◌*◌, ◌^◌, ◌≤◌, ◌<◌}
use native.Mathlib.Omega.{arith}
use lib.ListN.{length}
use lib.Pow.{pow_mono}
use Rattle.gf64.specs.Field.{IsElement}
use Rattle.poly.specs.Polynomial.{All}
use Rattle.std.specs.Prelude.{Ok}
use Rattle.refusal.specs.Outcome.{Outcome}
use Rattle.refusal.specs.Checks.{afterwards}
use Rattle.fri.specs.Run.{Run, steps_in, rounds_in, step_in}
use Rattle.fri.specs.Layers.{honest}
use Rattle.fri.specs.Checks.{run_outcome}
use Rattle.fri.specs.Judge.{checks_outcome, verdict_of}
use Rattle.fri.specs.Demand.{ValidCoset, ProverInput, LowDegree, ValidQueries, Apart, Elements}
use Rattle.fri.proofs.Checks.{run_valid, run_passes}
use Rattle.fri.proofs.Completeness.{completeness, honest_proofs}
use Rattle.fri.proofs.Layers.{honest_run}
use Rattle.fri.proofs.Refusals.{passing}
use Rattle.transcript.specs.Numerals.{AreBytes}
use Rattle.transcript.specs.Sections.{run_in, queries_in}
use Rattle.transcript.specs.Checks.{transcript_outcome}
use Rattle.transcript.specs.Judge.{transcript_verdict}
use Rattle.transcript.proofs.Carried.{checks_are, passed_carries}
use Rattle.written.specs.Transcript.{transcript_of, transcript_length}
use Rattle.written.specs.Writer.{write_outcome, bytes_after}
use Rattle.written.specs.Theorems.{FitsSections, WrittenBytes}
use Rattle.written.proofs.RoundTrip.{written_transcripts}
use Rattle.written.proofs.Writer.{writer_refusals}

-- where it is done, list 8 holds the transcript
holds : (run : Run) (queries held : List ℕ) → write_outcome run queries (length held) ≡ Ok tt
    → bytes_after run queries held ≡ transcript_of run queries
holds run queries held e = ap (λ (o : Outcome). afterwards o (transcript_of run queries) held) e

-- lists that pass fit sections
fits : (run : Run) (queries : List ℕ) → Elements run → All IsElement queries → checks_outcome run queries ≡ Ok tt
    → FitsSections run queries
fits run queries elements asked e =
    let passed = (passing.all run queries).0 e in
    let valid = run_valid run passed.0 in
    let few = passed.1.most in
    record {
      parameters = valid.0;
      lengths = valid.1;
      elements = elements;
      queries_elements = asked;
      queries_count = omega (arith, few);
    }

module _ (run : Run) (queries held : List ℕ) (elements : Elements run) (asked : All IsElement queries)
    (e : write_outcome run queries (length held) ≡ Ok tt) where
  fit : FitsSections run queries
  fit = fits run queries elements asked ((writer_refusals.done run queries (length held)).0 e).0

  pub read_again : (run_in (bytes_after run queries held) ≡ run) × (queries_in (bytes_after run queries held) ≡ queries)
      × (transcript_verdict (bytes_after run queries held) ≡ verdict_of run queries)
  read_again =
      let same = holds run queries held e in (
        ap run_in same ∙ written_transcripts.run_again run queries fit,
        ap queries_in same ∙ written_transcripts.queries_again run queries fit,
        ap transcript_verdict same ∙ written_transcripts.judged run queries fit,
      )

-- ---- bytes that pass

module _ (bytes held : List ℕ) (b : AreBytes bytes) (done : transcript_outcome bytes ≡ Ok tt)
    (size : length held ≡ length bytes) where
  written_is : transcript_of (run_in bytes) (queries_in bytes) ≡ bytes
  written_is = written_transcripts.only bytes b (passed_carries bytes done)

  passes : checks_outcome (run_in bytes) (queries_in bytes) ≡ Ok tt
  passes = sym (checks_are bytes (passed_carries bytes done)) ∙ done

  written_done : write_outcome (run_in bytes) (queries_in bytes) (length held) ≡ Ok tt
  written_done =
      let valid = run_valid (run_in bytes) ((passing.all (run_in bytes) (queries_in bytes)).0 passes).0 in
      (writer_refusals.done (run_in bytes) (queries_in bytes) (length held)).1 (
        passes,
        size ∙ ap length (sym written_is)
            ∙ written_transcripts.size (run_in bytes) (queries_in bytes) valid.0 valid.1,
      )

  rewritten : (write_outcome (run_in bytes) (queries_in bytes) (length held) ≡ Ok tt)
      × (bytes_after (run_in bytes) (queries_in bytes) held ≡ bytes)
  rewritten = (written_done, holds (run_in bytes) (queries_in bytes) held written_done ∙ written_is)

-- ---- honest runs

-- an index below 2^20 is a 64-bit number
indices_fit : (k : ℕ) → k ≤ 20 → (queries : List ℕ) → All (λ j. j < 2 ^ k) queries → All IsElement queries
indices_fit k h [] within = record {}
indices_fit k h (j ∷ queries) within =
    let most : 2 ^ k ≤ 2 ^ 20 = pow_mono {i = k} {j = 20} h in
    let below : j < 2 ^ k = within.0 in
    (omega arith, indices_fit k h queries within.1)

module _ (run : Run) (queries : List ℕ) (coset : ValidCoset run) (input : ProverInput run)
    (valid : ValidQueries run.k queries) (apart : Apart (step_in run 0) queries) where
  abbrev due : ℕ
  due = transcript_length run.k run.rate (steps_in run) (length queries)

  passed : run_outcome (honest run) ≡ Ok tt
  passed =
      let counts = honest_run.counts run coset input in
      run_passes (honest run) coset.parameters
      (record {
        basis = coset.basis_count;
        challenges = input.challenges_count;
        word = input.word_count;
        store = counts.0;
        last = counts.1;
      })
      coset.independent

  honest_done : write_outcome (honest run) queries due ≡ Ok tt
  honest_done =
      writer_refusals.as_lists (honest run) queries ∙ (passing.all (honest run) queries).1 (passed, valid, apart)

  honest_accepted : (held : List ℕ) → LowDegree run → length held ≡ due
      → transcript_verdict (bytes_after (honest run) queries held)
      ≡ record { answer = Ok tt; reads = length queries * rounds_in run * 2 ^ run.step }
  honest_accepted held low size =
      (read_again (honest run) queries held (honest_proofs.covered run coset input low).0
      (indices_fit run.k coset.parameters.k_most queries valid.within)
      (ap (write_outcome (honest run) queries) size ∙ honest_done)).2
      ∙ completeness run queries coset input low valid apart

pub written_bytes : WrittenBytes
written_bytes =
    record {
      read = read_again;
      rewritten = rewritten;
      honest_done = honest_done;
      honest_accepted =
          λ run queries held coset input low valid apart.
          honest_accepted run queries coset input valid apart held low;
    }
