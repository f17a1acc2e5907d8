-- Bytes from which the lists of a transcript that passes can be read are that transcript, or get 1, 2 or 3. Assumes
-- nothing.
use mathlib.Core.Path.{◌≡◌, refl, sym, ap, ap₂, ◌∙◌, subst}
use mathlib.Core.Logic.{◌⊎◌, inl, inr}
use mathlib.Core.Bool.{Bool, true, ◌&&◌}
use mathlib.Core.List.{List}
use Prim.Native.Nat.{ℕ, ◌+◌, ◌≤◌}
use native.Mathlib.Omega.{arith}
use lib.Dec.{leb}
use lib.ListN.{length}
use Rattle.refusal.specs.declared.Cause.{Cause}
use Rattle.refusal.specs.declared.Cause.TheVariants.{CountDiffers, QueryCountOutOfRange}
use Rattle.std.specs.Prelude.{Ok, Err}
use Rattle.refusal.specs.Outcome.{Outcome}
use Rattle.refusal.specs.Checks.{and_then}
use Rattle.refusal.specs.Numbers.{number_of, number_of_outcome}
use Rattle.refusal.proofs.Checks.{then_done, unless_done, number_then}
use Rattle.coset.specs.Answers.{basis_outcome}
use Rattle.fri.specs.Layout.{step_at}
use Rattle.fri.specs.Run.{Run}
use Rattle.fri.specs.Checks.{parameters_outcome, lengths_outcome, run_outcome}
use Rattle.fri.specs.Checks.{indices_outcome, queries_outcome}
use Rattle.fri.specs.Judge.{checks_outcome}
use Rattle.transcript.specs.Numerals.{AreBytes}
use Rattle.transcript.specs.Sections.{section_start, section_count, transcript_k, transcript_rate, transcript_step}
use Rattle.transcript.specs.Sections.{transcript_steps, run_in, queries_in}
use Rattle.transcript.specs.Checks.{section_outcome, transcript_outcome}
use Rattle.transcript.specs.Judge.{transcript_verdict}
use Rattle.transcript.proofs.Numerals.{length_entries}
use Rattle.transcript.proofs.Refusals.{section_number, transcript-number-from}
use Rattle.transcript.proofs.Carried.{passed_carries}
use Rattle.transcript.proofs.Theorems.{judging_bytes}
use Rattle.written.specs.Transcript.{transcript_of}
use Rattle.written.proofs.Only.{only}

abbrev Low : ℕ → Type 0
Low n = n ≤ 3

done_low : (o : Outcome) → o ≡ Ok tt → Low (number_of_outcome o)
done_low o e = subst (λ (p : Outcome). Low (number_of_outcome p)) (sym e) (omega arith)

-- the values that are read pass: what is left is the bytes' number and the counts
module _ (bytes : List ℕ) (passes : checks_outcome (run_in bytes) (queries_in bytes) ≡ Ok tt) where
  abbrev parameters : Outcome
  parameters = parameters_outcome (transcript_k bytes) (transcript_rate bytes) (transcript_step bytes)

  abbrev of_basis : Outcome
  of_basis = basis_outcome (run_in bytes).basis

  abbrev first : ℕ
  first = step_at (transcript_steps bytes) 0

  abbrev indices : Outcome
  indices = indices_outcome (transcript_k bytes) first (queries_in bytes)

  abbrev counted : ℕ → Bool
  counted count = leb 1 count && leb count 256

  each_done : (parameters ≡ Ok tt) × (of_basis ≡ Ok tt) × (counted (length (queries_in bytes)) ≡ true) × (indices ≡ Ok tt)
  each_done =
      let both = then_done (run_outcome (run_in bytes))
      (queries_outcome (transcript_k bytes) first (queries_in bytes)) passes in
      let ranges = then_done parameters (and_then (lengths_outcome (run_in bytes)) of_basis) both.0 in
      let lists = then_done (lengths_outcome (run_in bytes)) of_basis ranges.1 in
      let queries = unless_done (counted (length (queries_in bytes))) QueryCountOutOfRange indices both.1 in
      (ranges.0, lists.1, queries.0, queries.1)

  -- the number of queries passes, so that no other cause is left to section 4
  fourth : Low (number_of_outcome (section_outcome bytes 4 (counted (section_count bytes 4)) QueryCountOutOfRange))
  fourth =
      let count = length_entries bytes (section_start bytes 4 + 4) (section_count bytes 4) in
      subst (λ (test : Bool). Low (number_of_outcome (section_outcome bytes 4 test QueryCountOutOfRange)))
      (sym each_done.2 ∙ ap counted count)
      (section_number Low (λ n h. h) bytes 4 true (CountDiffers 4) (omega arith))

  low_number : Low (number_of_outcome (transcript_outcome bytes))
  low_number =
      transcript-number-from Low (λ n h. h) bytes (done_low parameters each_done.0)
      (done_low of_basis each_done.1)
      (number_then Low (section_outcome bytes 4 (counted (section_count bytes 4)) QueryCountOutOfRange) indices fourth
      (done_low indices each_done.3))

pub others_refused : (run : Run) (queries bytes : List ℕ) → checks_outcome run queries ≡ Ok tt → AreBytes bytes
    → run_in bytes ≡ run → queries_in bytes ≡ queries
    → (bytes ≡ transcript_of run queries)
    ⊎ ((cause : Cause) × (transcript_verdict bytes ≡ record { answer = Err cause; reads = 0 })
    × (number_of cause ≤ 3))
others_refused run queries bytes passes b e q = by (transcript_outcome bytes) refl
  where
    by : (o : Outcome) → transcript_outcome bytes ≡ o
        → (bytes ≡ transcript_of run queries)
        ⊎ ((cause : Cause) × (transcript_verdict bytes ≡ record { answer = Err cause; reads = 0 })
        × (number_of cause ≤ 3))
    by (Ok _) done = inl (sym (only bytes b (passed_carries bytes done)) ∙ ap₂ transcript_of e q)
    by (Err cause) refused =
        let low = subst (λ (o : Outcome). Low (number_of_outcome o)) refused
        (low_number bytes (ap₂ checks_outcome e q ∙ passes)) in
        inr (cause, judging_bytes.early bytes cause refused, low)
