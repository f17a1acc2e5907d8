-- Number 17 over bytes. Assumes nothing.
use mathlib.Core.Path.{◌≡◌, sym, ap, ◌∙◌}
use mathlib.Core.Logic.{◌≢◌, inl, inr}
use mathlib.Core.Bool.{Bool, ◌&&◌}
use mathlib.Core.List.{List}
use Prim.Native.Nat.{ℕ, ◌+◌, ◌≤◌}
use native.Mathlib.Omega.{arith}
use lib.Dec.{leb}
use lib.ListN.{length}
use Rattle.refusal.specs.declared.Cause.TheVariants.{QueryCountOutOfRange, CosetShared}
use Rattle.std.specs.Prelude.{Some, Ok, Err}
use Rattle.refusal.specs.Outcome.{Outcome}
use Rattle.refusal.specs.Checks.{and_then}
use Rattle.refusal.specs.Numbers.{number_of_outcome}
use Rattle.refusal.proofs.Checks.{then_passed, then_refused, number_then, Either, which}
use Rattle.fri.specs.declared.Verdict.{Verdict}
use Rattle.coset.specs.Answers.{basis_outcome}
use Rattle.coset.proofs.Independence.{basis_number}
use Rattle.fri.specs.Layout.{step_at}
use Rattle.fri.specs.Checks.{parameters_outcome, first_shared, indices_outcome}
use Rattle.fri.specs.Rounds.{rounds_outcome}
use Rattle.fri.specs.Demand.{ValidQueries}
use Rattle.fri.proofs.Checks.{parameters_number, shared_of, shared_refused}
use Rattle.fri.proofs.Rounds.{refused_by_round}
use Rattle.transcript.specs.Sections.{section_start, section_count, transcript_k, transcript_rate, transcript_step}
use Rattle.transcript.specs.Sections.{transcript_steps, transcript_rounds, run_in, queries_in}
use Rattle.transcript.specs.Checks.{section_outcome, due_outcome, parameters_section, coset_section}
use Rattle.transcript.specs.Checks.{challenges_section, queries_section, lists_outcome, front_outcome}
use Rattle.transcript.specs.Checks.{layers_outcome, transcript_outcome}
use Rattle.transcript.specs.Judge.{transcript_verdict}
use Rattle.transcript.specs.Theorems.{SharedInBytes}
use Rattle.transcript.proofs.Checks.{section_done}
use Rattle.transcript.proofs.Refusals.{section_number, due_number, behind_number}
use Rattle.transcript.proofs.Carried.{queries-section}
use Rattle.transcript.proofs.Theorems.{refused_verdict}

abbrev Other : ℕ → Type 0
Other n = n ≢ 17

small : (n : ℕ) → n ≤ 10 → Other n
small n l e = omega arith

low : (n : ℕ) → n ≤ 3 → Other n
low n l = small n (omega arith)

module _ (bytes : List ℕ) (query : ℕ) where
  abbrev refused : Outcome
  refused = Err (CosetShared query)

  -- checks that give no 17 have passed where 17 comes
  after : (first rest : Outcome) → Other (number_of_outcome first) → and_then first rest ≡ refused
      → (first ≡ Ok tt) × (rest ≡ refused)
  after first rest other e = by (which first rest (CosetShared query) e)
    where
      by : Either first rest (CosetShared query) → (first ≡ Ok tt) × (rest ≡ refused)
      by (inl f) = absurd (other (ap number_of_outcome f))
      by (inr f) = f

  parameters_other : Other (number_of_outcome (parameters_section bytes))
  parameters_other =
      let ranges = parameters_outcome (transcript_k bytes) (transcript_rate bytes) (transcript_step bytes) in
      number_then Other (due_outcome bytes 1 3) ranges (due_number Other low bytes 1 3)
      (parameters_number Other (low 0 (omega arith)) (λ n l u. small n (omega arith)) (transcript_k bytes)
      (transcript_rate bytes) (transcript_step bytes))

  coset_other : Other (number_of_outcome (coset_section bytes))
  coset_other =
      number_then Other (due_outcome bytes 2 (transcript_k bytes + 1)) (basis_outcome (run_in bytes).basis)
      (due_number Other low bytes 2 (transcript_k bytes + 1))
      (basis_number Other (low 0 (omega arith)) (small 8 (omega arith)) (run_in bytes).basis)

  layers_other : Other (number_of_outcome (layers_outcome bytes))
  layers_other = behind_number Other low bytes

  abbrev counted : Bool
  counted = leb 1 (section_count bytes 4) && leb (section_count bytes 4) 256

  abbrev first_step : ℕ
  first_step = step_at (transcript_steps bytes) 0

  -- sections 1 to 4, and whatever follows
  abbrev Passed : Type 0
  Passed =
      (parameters_section bytes ≡ Ok tt) × (coset_section bytes ≡ Ok tt) × (challenges_section bytes ≡ Ok tt)
      × (section_start bytes 5 ≤ length bytes) × ValidQueries (transcript_k bytes) (queries_in bytes)
      × (first_shared first_step (queries_in bytes) ≡ Some query)

  of_sections : transcript_outcome bytes ≡ refused → Passed
  of_sections e =
      let front : front_outcome bytes ≡ refused =
      first (which (front_outcome bytes) (layers_outcome bytes) (CosetShared query) e) in
      let one = after (parameters_section bytes) (lists_outcome bytes) parameters_other front in
      let two = after (coset_section bytes) (and_then (challenges_section bytes) (queries_section bytes)) coset_other
      one.1 in
      let three = after (challenges_section bytes) (queries_section bytes)
      (due_number Other low bytes 3 (transcript_rounds bytes)) two.1 in
      let four = after (section_outcome bytes 4 counted QueryCountOutOfRange)
      (indices_outcome (transcript_k bytes) first_step (queries_in bytes))
      (section_number Other low bytes 4 counted QueryCountOutOfRange (small 9 (omega arith))) three.1 in
      let whole = (section_done bytes 4 counted QueryCountOutOfRange four.0).1 in
      let told = shared_of (transcript_k bytes) first_step (queries_in bytes) query
      (sym (queries-section bytes whole) ∙ three.1) in
      (one.0, two.0, three.0, whole, told.0, told.1)
    where
      first : Either (front_outcome bytes) (layers_outcome bytes) (CosetShared query) → front_outcome bytes ≡ refused
      first (inl f) = f
      first (inr f) = absurd (layers_other (ap number_of_outcome f.1))

  of_verdict : (transcript_verdict bytes).answer ≡ Err (CosetShared query) → Passed
  unfolding transcript_verdict
  of_verdict e =
      let rounds = rounds_outcome (run_in bytes) (queries_in bytes) 0 in
      of_sections (by (which (transcript_outcome bytes) rounds (CosetShared query)
      e))
    where
      by : Either (transcript_outcome bytes) (rounds_outcome (run_in bytes) (queries_in bytes) 0) (CosetShared query)
          → transcript_outcome bytes ≡ refused
      by (inl f) = f
      by (inr f) =
          absurd (let impossible : ◌≡◌ {A = ℕ} 17 11 =
          refused_by_round (run_in bytes) (queries_in bytes) (CosetShared query) f.1 in omega arith)

  to_verdict : Passed → (transcript_verdict bytes).answer ≡ Err (CosetShared query)
  to_verdict p =
      ap (λ (v : Verdict). v.answer)
      (refused_verdict bytes (CosetShared query)
      (sym (then_refused (front_outcome bytes) (layers_outcome bytes) (CosetShared query) front)))
    where
      front : front_outcome bytes ≡ refused
      front =
          sym (then_passed (parameters_section bytes) (lists_outcome bytes) p.0)
          ∙ sym (then_passed (coset_section bytes) (and_then (challenges_section bytes) (queries_section bytes)) p.1)
          ∙ sym (then_passed (challenges_section bytes) (queries_section bytes) p.2)
          ∙ queries-section bytes p.3
          ∙ shared_refused (transcript_k bytes) first_step (queries_in bytes) query p.4 p.5

pub shared_in_bytes : SharedInBytes
shared_in_bytes bytes query = (of_verdict bytes query, to_verdict bytes query)
