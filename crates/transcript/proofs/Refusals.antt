-- Which refusals the sections give, and which numbers. Assumes nothing.
use mathlib.Core.Path.{◌≡◌, refl, sym, subst}
use mathlib.Core.Logic.{◌⊎◌, inl, inr}
use mathlib.Core.Bool.{Bool, true, ◌&&◌}
use mathlib.Core.List.{List}
use Prim.Native.Nat.{ℕ, zero, suc, ◌+◌, ◌*◌, ◌^◌, ◌≤◌}
use native.Mathlib.Omega.{arith}
use lib.Dec.{leb, eqb}
use lib.ListN.{length}
use Rattle.refusal.specs.declared.Cause.{Cause}
use Rattle.refusal.specs.declared.Cause.TheVariants.{BytesEnd, CountDiffers, TrailingBytes, QueryCountOutOfRange}
use Rattle.std.specs.Prelude.{Ok, Err}
use Rattle.refusal.specs.Outcome.{Outcome}
use Rattle.refusal.specs.Checks.{refused_unless, and_then}
use Rattle.refusal.specs.Numbers.{number_of, number_of_outcome}
use Rattle.refusal.proofs.Checks.{equal_of_test, within_of, then_done, holds_unless, holds_after, number_then}
use Rattle.coset.specs.Answers.{basis_outcome}
use Rattle.coset.proofs.Independence.{basis_number}
use Rattle.fri.specs.Layout.{step_at, dimension, last_count}
use Rattle.fri.specs.Checks.{parameters_outcome, indices_outcome}
use Rattle.fri.proofs.Checks.{parameters_number, indices_number}
use Rattle.transcript.specs.Sections.{section_start, section_count, layer_section, transcript_k, transcript_rate}
use Rattle.transcript.specs.Sections.{transcript_step, transcript_steps, transcript_rounds, run_in, queries_in}
use Rattle.transcript.specs.Checks.{section_outcome, due_outcome, parameters_section, coset_section}
use Rattle.transcript.specs.Checks.{challenges_section, queries_section, lists_outcome, front_outcome, layers_from}
use Rattle.transcript.specs.Checks.{end_outcome, layers_outcome, transcript_outcome}
use Rattle.transcript.specs.Judge.{longest_front}
use Rattle.transcript.proofs.Sections.{first_start}
use Rattle.transcript.proofs.Checks.{section_counted}
use Rattle.transcript.proofs.Positions.{valid, few_rounds, start_two, start_three, start_four}

-- ---- what holds of every outcome that sections may have

module _ (Q : Outcome → Type 0) (done : Q (Ok tt)) (bytes : List ℕ) where
  section_holds : (s : ℕ) (test : Bool) (cause : Cause) → Q (Err (BytesEnd s)) → Q (Err cause)
      → Q (section_outcome bytes s test cause)
  section_holds s test cause cut fails =
      let entries = refused_unless (leb (section_start bytes (suc s)) (length bytes)) (BytesEnd s) (Ok tt) in
      holds_unless Q (leb (section_start bytes s + 4) (length bytes)) (BytesEnd s) (refused_unless test cause entries) cut
      (holds_unless Q test cause entries fails
      (holds_unless Q (leb (section_start bytes (suc s)) (length bytes)) (BytesEnd s) (Ok tt) cut done))

  due_holds : (s due : ℕ) → Q (Err (BytesEnd s)) → Q (Err (CountDiffers s)) → Q (due_outcome bytes s due)
  due_holds s due = section_holds s (eqb (section_count bytes s) due) (CountDiffers s)

  -- sections 1 to 4, each where those before it passed
  front_holds : Q (parameters_section bytes)
      → (parameters_section bytes ≡ Ok tt → Q (coset_section bytes))
      → (parameters_section bytes ≡ Ok tt → coset_section bytes ≡ Ok tt → Q (challenges_section bytes))
      → (parameters_section bytes ≡ Ok tt → coset_section bytes ≡ Ok tt → challenges_section bytes ≡ Ok tt
      → Q (queries_section bytes))
      → Q (front_outcome bytes)
  front_holds first second third fourth =
      holds_after Q (parameters_section bytes) (lists_outcome bytes) first
      (λ one. holds_after Q (coset_section bytes) (and_then (challenges_section bytes) (queries_section bytes)) (second one)
      (λ two. holds_after Q (challenges_section bytes) (queries_section bytes) (third one two) (fourth one two)))

  -- the sections behind them
  module _ (cut : (s : ℕ) → Q (Err (BytesEnd s))) (differs : (s : ℕ) → 5 ≤ s → Q (Err (CountDiffers s)))
      (trailing : Q (Err TrailingBytes)) where
    layers_hold : (i left : ℕ) → Q (layers_from bytes i left)
    unfolding layers_from
    layers_hold i zero = done
    layers_hold i (suc left) =
        let size = 2 ^ dimension (transcript_k bytes) (transcript_steps bytes) i in
        holds_after Q (due_outcome bytes (layer_section i) size) (layers_from bytes (suc i) left)
        (due_holds (layer_section i) size (cut (layer_section i)) (differs (layer_section i) (omega arith)))
        (λ passed. layers_hold (suc i) left)

    pub behind_holds : Q (layers_outcome bytes)
    behind_holds =
        let r = transcript_rounds bytes in
        let last_due = last_count (transcript_k bytes) (transcript_rate bytes) (transcript_steps bytes) in
        let ends = eqb (section_start bytes (suc (layer_section r))) (length bytes) in
        holds_after Q (layers_from bytes 0 r) (end_outcome bytes) (layers_hold 0 r)
        (λ layers. holds_after Q (due_outcome bytes (layer_section r) last_due) (refused_unless ends TrailingBytes (Ok tt))
        (due_holds (layer_section r) last_due (cut (layer_section r)) (differs (layer_section r) (omega arith)))
        (λ last. holds_unless Q ends TrailingBytes (Ok tt) trailing done))

-- ---- numbers

-- what holds of 0 to 3, and of the numbers that the values in sections 1, 2 and 4 get, holds of a transcript's
module _ (P : ℕ → Type 0) (low : (n : ℕ) → n ≤ 3 → P n) (bytes : List ℕ) where
  abbrev Numbered : Outcome → Type 0
  Numbered o = P (number_of_outcome o)

  pub section_number : (s : ℕ) (test : Bool) (cause : Cause) → P (number_of cause)
      → P (number_of_outcome (section_outcome bytes s test cause))
  section_number s test cause p =
      section_holds Numbered (low 0 (omega arith)) bytes s test cause (low 1 (omega arith)) p

  pub due_number : (s due : ℕ) → P (number_of_outcome (due_outcome bytes s due))
  due_number s due = section_number s (eqb (section_count bytes s) due) (CountDiffers s) (low 2 (omega arith))

  pub behind_number : P (number_of_outcome (layers_outcome bytes))
  behind_number =
      behind_holds Numbered (low 0 (omega arith)) bytes (λ s. low 1 (omega arith)) (λ s h. low 2 (omega arith))
      (low 3 (omega arith))

  pub transcript-number-from
      : P (number_of_outcome (parameters_outcome (transcript_k bytes) (transcript_rate bytes) (transcript_step bytes)))
      → P (number_of_outcome (basis_outcome (run_in bytes).basis))
      → P (number_of_outcome (queries_section bytes))
      → P (number_of_outcome (transcript_outcome bytes))
  transcript-number-from parameters basis queries =
      number_then P (front_outcome bytes) (layers_outcome bytes)
      (front_holds Numbered (low 0 (omega arith)) bytes
      (number_then P (due_outcome bytes 1 3)
      (parameters_outcome (transcript_k bytes) (transcript_rate bytes) (transcript_step bytes)) (due_number 1 3)
      parameters)
      (λ one. number_then P (due_outcome bytes 2 (transcript_k bytes + 1)) (basis_outcome (run_in bytes).basis)
      (due_number 2 (transcript_k bytes + 1)) basis)
      (λ one two. due_number 3 (transcript_rounds bytes)) (λ one two three. queries))
      behind_number

-- what holds of 0 to 10 and of 17 holds of a transcript's number
pub transcript_number : (P : ℕ → Type 0) → ((n : ℕ) → n ≤ 10 → P n) → P 17 → (bytes : List ℕ)
    → P (number_of_outcome (transcript_outcome bytes))
transcript_number P small p17 bytes =
    let counted = leb 1 (section_count bytes 4) && leb (section_count bytes 4) 256 in
    let first = step_at (transcript_steps bytes) 0 in
    transcript-number-from P (λ n h. small n (omega arith)) bytes
    (parameters_number P (small 0 (omega arith)) (λ n l u. small n (omega arith)) (transcript_k bytes)
    (transcript_rate bytes) (transcript_step bytes))
    (basis_number P (small 0 (omega arith)) (small 8 (omega arith)) (run_in bytes).basis)
    (number_then P (section_outcome bytes 4 counted QueryCountOutOfRange)
    (indices_outcome (transcript_k bytes) first (queries_in bytes))
    (section_number P (λ n h. small n (omega arith)) bytes 4 counted QueryCountOutOfRange (small 9 (omega arith)))
    (indices_number P (small 0 (omega arith)) (small 10 (omega arith)) p17 (transcript_k bytes) first (queries_in bytes)))

-- ---- sections 1 to 4 that are not cut off

-- the numbers that values get, and 0
abbrev pub ValueNumber : ℕ → Type 0
ValueNumber n = (n ≡ 0) ⊎ ((4 ≤ n) × (n ≤ 10)) ⊎ (n ≡ 17)

-- where the bytes are as many as those of the longest front, what holds of other counts in sections 1 to 3, and of what
-- values get, holds of sections 1 to 4
module _ (Q : Outcome → Type 0) (values : (o : Outcome) → ValueNumber (number_of_outcome o) → Q o)
    (differs : (s : ℕ) → s ≤ 3 → Q (Err (CountDiffers s))) (bytes : List ℕ)
    (enough : longest_front ≤ length bytes) where
  abbrev k : ℕ
  k = transcript_k bytes

  abbrev r : ℕ
  r = transcript_rounds bytes

  done : Q (Ok tt)
  done = values (Ok tt) (inl refl)

  counted_holds : (s most : ℕ) (cause : Cause) (test : ℕ → Bool) → 1 ≤ s → ((n : ℕ) → test n ≡ true → n ≤ most)
      → section_start bytes s + 4 + 8 * most ≤ length bytes → Q (Err cause)
      → Q (section_outcome bytes s (test (section_count bytes s)) cause)
  counted_holds s most cause test least few room fails =
      subst Q (sym (section_counted bytes s most cause test least few room))
      (holds_unless Q (test (section_count bytes s)) cause (Ok tt) fails done)

  due_counted : (s due : ℕ) → 1 ≤ s → s ≤ 3 → section_start bytes s + 4 + 8 * due ≤ length bytes
      → Q (due_outcome bytes s due)
  due_counted s due least most room =
      counted_holds s due (CountDiffers s) (λ n. eqb n due) least (λ n e. omega (arith, equal_of_test n due e)) room
      (differs s most)

  coset_there : coset_section bytes ≡ Ok tt → due_outcome bytes 2 (k + 1) ≡ Ok tt
  coset_there two = (then_done (due_outcome bytes 2 (k + 1)) (basis_outcome (run_in bytes).basis) two).0

  abbrev counted : ℕ → Bool
  counted n = leb 1 n && leb n 256

  -- the values
  parameters : Q (parameters_outcome k (transcript_rate bytes) (transcript_step bytes))
  parameters =
      values _ (parameters_number ValueNumber (inl refl) (λ n l u. inr (inl (l, omega arith))) k (transcript_rate bytes)
      (transcript_step bytes))

  basis : Q (basis_outcome (run_in bytes).basis)
  basis = values _ (basis_number ValueNumber (inl refl) (inr (inl (omega arith, omega arith))) (run_in bytes).basis)

  indices : Q (indices_outcome k (step_at (transcript_steps bytes) 0) (queries_in bytes))
  indices =
      values _ (indices_number ValueNumber (inl refl) (inr (inl (omega arith, omega arith))) (inr (inr refl)) k
      (step_at (transcript_steps bytes) 0) (queries_in bytes))

  pub whole_front_holds : Q (front_outcome bytes)
  whole_front_holds =
      front_holds Q done bytes
      (holds_after Q (due_outcome bytes 1 3)
      (parameters_outcome k (transcript_rate bytes) (transcript_step bytes))
      (due_counted 1 3 (omega arith) (omega arith) (omega (arith, first_start bytes))) (λ passed. parameters))
      (λ one. holds_after Q (due_outcome bytes 2 (k + 1)) (basis_outcome (run_in bytes).basis)
      (due_counted 2 (k + 1) (omega arith) (omega arith)
      (omega (arith, start_two bytes one, (valid bytes one).k_most)))
      (λ passed. basis))
      (λ one two. due_counted 3 r (omega arith) (omega arith)
      (omega (arith, start_three bytes one (coset_there two), few_rounds bytes one)))
      (λ one two three. holds_after Q
      (section_outcome bytes 4 (counted (section_count bytes 4)) QueryCountOutOfRange)
      (indices_outcome k (step_at (transcript_steps bytes) 0) (queries_in bytes))
      (counted_holds 4 256 QueryCountOutOfRange counted (omega arith) (λ n e. (within_of 1 256 n e).1)
      (omega (arith, start_four bytes one (coset_there two) three))
      (values (Err QueryCountOutOfRange) (inr (inl (omega arith, omega arith)))))
      (λ passed. indices))
