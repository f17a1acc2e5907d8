-- The program's answer to inputs over the limit, and which numbers judging bytes gives. Assumes nothing.
use mathlib.Core.Path.{◌≡◌, refl, sym, ap, ◌∙◌, subst}
use mathlib.Core.Logic.{◌≢◌, ◌⊎◌, inl, inr, ⊎_elim}
use mathlib.Core.Bool.{Bool, true, false}
use mathlib.Core.List.{List, []}
use Prim.Native.Nat.{ℕ, ◌≤◌, ◌<◌}
use native.Mathlib.Omega.{arith}
use lib.Dec.{leb}
use lib.ListN.{length, take, drop, take-append-drop}
use lib.Seq.{length-take-le}
use borrow.Author.Tests.{leb-true, leb-false}
use Rattle.poly.proofs.Entries.{of_first}
use Rattle.refusal.specs.declared.Cause.{Cause}
use Rattle.refusal.specs.declared.Cause.TheVariants.{BytesEnd, CountDiffers, TrailingBytes, DimensionOutOfRange}
use Rattle.refusal.specs.declared.Cause.TheVariants.{InputTooLong}
use Rattle.std.specs.Prelude.{Some, None, Ok, Err}
use Rattle.refusal.specs.Outcome.{Outcome}
use Rattle.refusal.specs.Checks.{and_then}
use Rattle.refusal.specs.Numbers.{number_of, number_of_outcome, place_of_outcome, round_of_outcome}
use Rattle.refusal.proofs.Checks.{refused_not_done, then_passed, then_refused, then_done, holds_after, number_then}
use Rattle.refusal.proofs.Theorems.{never_zero}
use Rattle.fri.specs.declared.Verdict.{Verdict}
use Rattle.fri.specs.Checks.{parameters_outcome}
use Rattle.fri.specs.Rounds.{rounds_outcome}
use Rattle.fri.specs.Theorems.{Tells}
use Rattle.fri.proofs.Checks.{k_refused}
use Rattle.fri.proofs.Rounds.{refused_by_round}
use Rattle.transcript.specs.Sections.{section_start, section_count, transcript_k, transcript_rate, transcript_step}
use Rattle.transcript.specs.Sections.{run_in, queries_in}
use Rattle.transcript.specs.Checks.{due_outcome, parameters_section, lists_outcome, front_outcome, layers_outcome}
use Rattle.transcript.specs.Checks.{transcript_outcome}
use Rattle.transcript.specs.Judge.{transcript_verdict, longest_front, input_limit, long_verdict, input_verdict}
use Rattle.transcript.specs.Theorems.{FrontNumber, RefusedInFront, LongInputs, TranscriptNumber}
use Rattle.transcript.specs.Theorems.{TranscriptNumbers}
use Rattle.transcript.proofs.Sections.{start_next, first_start}
use Rattle.transcript.proofs.Checks.{due_passes}
use Rattle.transcript.proofs.Carried.{front_checks}
use Rattle.transcript.proofs.Refusals.{behind_holds, transcript_number, ValueNumber, whole_front_holds}
use Rattle.transcript.proofs.Positions.{front_within}
use Rattle.transcript.proofs.Fronts.{front_alone}
use Rattle.transcript.proofs.Theorems.{refused_verdict, short, long}

-- ---- sections 1 to 4

abbrev InFront : Outcome → Type 0
InFront o = (o ≡ Ok tt) ⊎ RefusedInFront o

by_value : (o : Outcome) → ValueNumber (number_of_outcome o) → InFront o
by_value (Ok _) v = inl refl
by_value (Err cause) (inl none) = absurd (never_zero cause none)
by_value (Err cause) (inr some) = inr (inr some)

-- none of them is cut off
front_refused : (bytes : List ℕ) (cause : Cause) → longest_front ≤ length bytes → front_outcome bytes ≡ Err cause
    → RefusedInFront (Err cause)
front_refused bytes cause enough e =
    ⊎_elim (λ (passed : Err cause ≡ Ok tt). absurd (refused_not_done cause passed))
    (λ (given : RefusedInFront (Err cause)). given)
    (subst InFront e (whole_front_holds InFront by_value (λ s h. inr (inl (s, h, refl))) bytes enough))

number-of : (answer : Outcome) → RefusedInFront answer → FrontNumber (number_of_outcome answer)
number-of answer (inl (section, h, is)) = inl (ap number_of_outcome is)
number-of answer (inr some) = inr some

front_number : (bytes : List ℕ) (cause : Cause) → longest_front ≤ length bytes → front_outcome bytes ≡ Err cause
    → FrontNumber (number_of cause)
front_number bytes cause enough e = number-of (Err cause) (front_refused bytes cause enough e)

front_ends : (bytes : List ℕ) → front_outcome bytes ≡ Ok tt → section_start bytes 5 ≤ longest_front
front_ends bytes done =
    let both = then_done (parameters_section bytes) (lists_outcome bytes) done in front_within bytes both.0 both.1

first_front : (bytes : List ℕ) (read : ℕ) → longest_front ≤ read → front_outcome (take read bytes) ≡ front_outcome bytes
first_front bytes read h =
    of_first front_outcome read bytes
    (λ (longer : read < length bytes).
    let size : length (take read bytes) ≡ read = length-take-le read bytes (omega arith) in
    sym (front_alone (take read bytes) (drop read bytes) (omega arith))
    ∙ ap front_outcome (take-append-drop read bytes))

-- ---- over the limit

abbrev LongNumber : ℕ → Type 0
LongNumber n = FrontNumber n ⊎ (n ≡ 14)

pub never : (n : ℕ) → LongNumber n → (n ≢ 0) × (n ≢ 1) × (n ≢ 3) × (n ≢ 11)
never n (inl (inl two)) = (λ e. omega arith, λ e. omega arith, λ e. omega arith, λ e. omega arith)
never n (inl (inr (inl range))) = (λ e. omega arith, λ e. omega arith, λ e. omega arith, λ e. omega arith)
never n (inl (inr (inr seventeen))) = (λ e. omega arith, λ e. omega arith, λ e. omega arith, λ e. omega arith)
never n (inr fourteen) = (λ e. omega arith, λ e. omega arith, λ e. omega arith, λ e. omega arith)

-- the answer, by what sections 1 to 4 come to
pub long_refused : (bytes : List ℕ) (cause : Cause) → front_outcome bytes ≡ Err cause
    → long_verdict bytes ≡ record { answer = Err cause; reads = 0 }
long_refused bytes cause e = simp e

pub long_passed : (bytes : List ℕ) → front_outcome bytes ≡ Ok tt
    → long_verdict bytes ≡ record { answer = Err InputTooLong; reads = 0 }
long_passed bytes e = simp e

refused : (bytes : List ℕ) (cause : Cause) → input_limit < length bytes → front_outcome bytes ≡ Err cause
    → (input_verdict bytes ≡ record { answer = Err cause; reads = 0 })
    × (input_verdict bytes ≡ transcript_verdict bytes)
refused bytes cause h e =
    let told : input_verdict bytes ≡ record { answer = Err cause; reads = 0 } =
    long bytes h ∙ long_refused bytes cause e in (
      told,
      told
          ∙ sym (refused_verdict bytes cause (sym (then_refused (front_outcome bytes) (layers_outcome bytes) cause e))),
    )

passed : (bytes : List ℕ) → input_limit < length bytes → front_outcome bytes ≡ Ok tt
    → input_verdict bytes ≡ record { answer = Err InputTooLong; reads = 0 }
passed bytes h e = long bytes h ∙ long_passed bytes e

-- ---- by the library's verdict

-- what is behind section 4 gives no such refusal
abbrev Behind : Outcome → Type 0
Behind o = RefusedInFront o → ⊥

accepted_behind : Behind (Ok tt)
accepted_behind given = (never 0 (inl (number-of (Ok tt) given))).0 refl

later_count : (s : ℕ) → 5 ≤ s → Behind (Err (CountDiffers s))
later_count s h (inl (section, l, is)) = let same : s ≡ section = cc in omega arith
later_count s h (inr (inl range)) = omega arith
later_count s h (inr (inr seventeen)) = omega arith

rounds_behind : (bytes : List ℕ) (o : Outcome) → rounds_outcome (run_in bytes) (queries_in bytes) 0 ≡ o → Behind o
rounds_behind bytes (Ok _) e = accepted_behind
rounds_behind bytes (Err cause) e =
    λ given. (never (number_of cause) (inl (number-of (Err cause) given))).3
    (refused_by_round (run_in bytes) (queries_in bytes) cause e)

passed_behind : (bytes : List ℕ) → front_outcome bytes ≡ Ok tt → RefusedInFront (transcript_verdict bytes).answer → ⊥
unfolding transcript_verdict
passed_behind bytes e =
    let rounds = rounds_outcome (run_in bytes) (queries_in bytes) 0 in
    holds_after Behind (transcript_outcome bytes) rounds
    (holds_after Behind (front_outcome bytes) (layers_outcome bytes) (subst Behind (sym e) accepted_behind)
    (λ passed. behind_holds Behind accepted_behind bytes
    (λ s given. (never 1 (inl (number-of (Err (BytesEnd s)) given))).1 refl) later_count
    (λ given. (never 3 (inl (number-of (Err TrailingBytes) given))).2 refl)))
    (λ passed. rounds_behind bytes rounds refl)

by_library : (bytes : List ℕ) → input_limit < length bytes
    → (RefusedInFront (transcript_verdict bytes).answer → input_verdict bytes ≡ transcript_verdict bytes)
    × ((RefusedInFront (transcript_verdict bytes).answer → ⊥)
    → input_verdict bytes ≡ record { answer = Err InputTooLong; reads = 0 })
by_library bytes h = by (front_outcome bytes) refl
  where
    by : (front : Outcome) → front_outcome bytes ≡ front
        → (RefusedInFront (transcript_verdict bytes).answer → input_verdict bytes ≡ transcript_verdict bytes)
        × ((RefusedInFront (transcript_verdict bytes).answer → ⊥)
        → input_verdict bytes ≡ record { answer = Err InputTooLong; reads = 0 })
    by (Ok _) e = (λ given. absurd (passed_behind bytes e given), λ none. passed bytes h e)
    by (Err cause) e =
        let both = refused bytes cause h e in (
          λ given. both.1,
          λ none.
              absurd (none (subst (λ (v : Verdict). RefusedInFront v.answer) (sym both.0 ∙ both.1)
              (front_refused bytes cause (omega arith) e))),
        )

-- ---- which numbers are given over the limit

numbers : (bytes : List ℕ) → input_limit < length bytes → LongNumber (number_of_outcome (input_verdict bytes).answer)
numbers bytes h = by (front_outcome bytes) refl
  where
    by : (front : Outcome) → front_outcome bytes ≡ front → LongNumber (number_of_outcome (input_verdict bytes).answer)
    by (Ok _) e = inr (ap (λ (v : Verdict). number_of_outcome v.answer) (passed bytes h e))
    by (Err cause) e =
        inl (subst FrontNumber (sym (ap (λ (v : Verdict). number_of_outcome v.answer) (refused bytes cause h e).0))
        (front_number bytes cause (omega arith) e))

accepted : (bytes : List ℕ) → (input_verdict bytes).answer ≡ Ok tt
    → (length bytes ≤ input_limit) × ((transcript_verdict bytes).answer ≡ Ok tt)
accepted bytes e = by (leb (length bytes) input_limit) refl
  where
    by : (test : Bool) → leb (length bytes) input_limit ≡ test
        → (length bytes ≤ input_limit) × ((transcript_verdict bytes).answer ≡ Ok tt)
    by true t =
        let within = leb-true (length bytes) input_limit t in
        (within, sym (ap (λ (v : Verdict). v.answer) (short bytes within)) ∙ e)
    by false t =
        let given = numbers bytes (leb-false (length bytes) input_limit t) in
        absurd ((never (number_of_outcome (input_verdict bytes).answer) given).0 (ap number_of_outcome e))

first : (bytes : List ℕ) (read : ℕ) → input_limit < read → input_verdict (take read bytes) ≡ input_verdict bytes
first bytes read h =
    of_first input_verdict read bytes
    (λ (longer : read < length bytes).
    let size : length (take read bytes) ≡ read = length-take-le read bytes (omega arith) in
    let same : long_verdict (take read bytes) ≡ long_verdict bytes = simp (first_front bytes read (omega arith)) in
    long (take read bytes) (omega arith) ∙ same ∙ sym (long bytes (omega arith)))

-- 02's own case
large_dimension : (bytes : List ℕ) → input_limit < length bytes → section_count bytes 1 ≡ 3 → 20 < transcript_k bytes
    → Tells (input_verdict bytes) 4 None None 0
large_dimension bytes h three large =
    let told = (refused bytes DimensionOutOfRange h front).0 in (
      ap (λ (v : Verdict). number_of_outcome v.answer) told,
      ap (λ (v : Verdict). place_of_outcome v.answer) told,
      ap (λ (v : Verdict). round_of_outcome v.answer) told,
      ap (λ (v : Verdict). v.reads) told,
    )
  where
    first_section : parameters_section bytes ≡ Err DimensionOutOfRange
    first_section =
        sym (then_passed (due_outcome bytes 1 3)
        (parameters_outcome (transcript_k bytes) (transcript_rate bytes) (transcript_step bytes))
        (due_passes bytes 1 3 (omega arith) three
        (omega (arith, start_next bytes 1 (omega arith), first_start bytes))))
        ∙ k_refused (transcript_k bytes) (transcript_rate bytes) (transcript_step bytes) (inr large)

    front : front_outcome bytes ≡ Err DimensionOutOfRange
    front = sym (then_refused (parameters_section bytes) (lists_outcome bytes) DimensionOutOfRange first_section)

pub long_inputs : LongInputs
long_inputs =
    record {
      limit = refl;
      refused = refused;
      passed = passed;
      by_library = by_library;
      large_dimension = large_dimension;
      carried = front_checks;
      front_numbers = front_number;
      numbers = numbers;
      accepted = accepted;
      front_size = refl;
      front_ends = front_ends;
      front_alone = first_front;
      first = first;
    }

-- ---- which numbers are given

rounds_number : (bytes : List ℕ) (o : Outcome) → rounds_outcome (run_in bytes) (queries_in bytes) 0 ≡ o
    → TranscriptNumber (number_of_outcome o)
rounds_number bytes (Ok _) e = inl (omega arith)
rounds_number bytes (Err cause) e = inl (omega (arith, refused_by_round (run_in bytes) (queries_in bytes) cause e))

library_number : (bytes : List ℕ) → TranscriptNumber (number_of_outcome (transcript_verdict bytes).answer)
unfolding transcript_verdict
library_number bytes =
    let rounds = rounds_outcome (run_in bytes) (queries_in bytes) 0 in
    number_then TranscriptNumber (transcript_outcome bytes) rounds
    (transcript_number TranscriptNumber (λ n l. inl (omega arith)) (inr refl) bytes)
    (rounds_number bytes rounds refl)

of_front : (n : ℕ) → FrontNumber n → TranscriptNumber n
of_front n (inl two) = inl (omega arith)
of_front n (inr (inl range)) = inl (omega arith)
of_front n (inr (inr seventeen)) = inr seventeen

abbrev ProgramNumber : Verdict → Type 0
ProgramNumber verdict =
    TranscriptNumber (number_of_outcome verdict.answer) ⊎ (number_of_outcome verdict.answer ≡ 14)

program_number : (bytes : List ℕ) → ProgramNumber (input_verdict bytes)
program_number bytes = by (leb (length bytes) input_limit) refl
  where
    by : (test : Bool) → leb (length bytes) input_limit ≡ test → ProgramNumber (input_verdict bytes)
    by true e =
        subst ProgramNumber (sym (short bytes (leb-true (length bytes) input_limit e))) (inl (library_number bytes))
    by false e =
        ⊎_elim (λ (f : FrontNumber (number_of_outcome (input_verdict bytes).answer)). inl (of_front _ f))
        (λ (l : number_of_outcome (input_verdict bytes).answer ≡ 14). inr l)
        (numbers bytes (leb-false (length bytes) input_limit e))

empty : Tells (input_verdict []) 1 (Some 1) None 0
unfolding input_verdict transcript_verdict section_start
empty = (refl, refl, refl, refl)

pub transcript_numbers : TranscriptNumbers
transcript_numbers = record { library = library_number; program = program_number; empty = empty }
