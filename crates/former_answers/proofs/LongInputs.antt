-- The statements of specs/LongInputs.antt, proved, by the length and by what sections 1 to 4 come to. Assumes nothing.
use mathlib.Core.Path.{◌≡◌, refl, sym, ap, ◌∙◌, subst}
use mathlib.Core.Logic.{◌≢◌, ◌⊎◌, inl, inr}
use mathlib.Core.Bool.{Bool, true, false, cond}
use mathlib.Core.List.{List}
use Prim.Native.Nat.{ℕ, ◌≤◌, ◌<◌}
use native.Mathlib.Omega.{arith}
use lib.Dec.{leb}
use lib.ListN.{length}
use borrow.Author.Tests.{le-leb, lt-leb, leb-true, leb-false}
use Rattle.refusal.specs.declared.Cause.{Cause}
use Rattle.refusal.specs.declared.Cause.TheVariants.{InputTooLong}
use Rattle.std.specs.Prelude.{None, Ok, Err}
use Rattle.refusal.specs.Outcome.{Outcome}
use Rattle.fri.specs.declared.Verdict.{Verdict}
use Rattle.refusal.specs.Numbers.{number_of_outcome, place_of_outcome, round_of_outcome}
use Rattle.fri.specs.Theorems.{Tells}
use Rattle.transcript.specs.Checks.{front_outcome}
use Rattle.transcript.specs.Judge.{transcript_verdict, input_limit, input_verdict}
use Rattle.transcript.specs.Theorems.{FrontNumber}
use Rattle.transcript.proofs.Theorems.{judging_bytes}
use Rattle.transcript.proofs.LongInputs.{long_inputs}
use Rattle.former_answers.specs.LongInputs.{former_input_verdict, ChangedAnswers}

abbrev number : Verdict → ℕ
number v = number_of_outcome v.answer

not_fourteen : (n : ℕ) → FrontNumber n → n ≢ 14
not_fourteen n (inl two) e = omega arith
not_fourteen n (inr (inl range)) e = omega arith
not_fourteen n (inr (inr seventeen)) e = omega arith

module _ (bytes : List ℕ) where
  abbrev too_long : Verdict
  too_long = record { answer = Err InputTooLong; reads = 0 }

  abbrev former_by : (test : Bool) → Verdict
  former_by test = cond test (transcript_verdict bytes) too_long

  former_short : length bytes ≤ input_limit → former_input_verdict bytes ≡ transcript_verdict bytes
  former_short h = ap former_by (le-leb (length bytes) input_limit h)

  former_long : input_limit < length bytes → former_input_verdict bytes ≡ too_long
  former_long h = ap former_by (lt-leb (length bytes) input_limit h)

  former : input_limit < length bytes → Tells (former_input_verdict bytes) 14 None None 0
  former h =
      let told = former_long h in (
        ap number told,
        ap (λ (v : Verdict). place_of_outcome v.answer) told,
        ap (λ (v : Verdict). round_of_outcome v.answer) told,
        ap (λ (v : Verdict). v.reads) told,
      )

  abbrev RefusedInFront : Type 0
  RefusedInFront =
      (input_limit < length bytes) × ((cause : Cause) × (front_outcome bytes ≡ Err cause)
      × (input_verdict bytes ≡ record { answer = Err cause; reads = 0 }))

  -- the same answer, or a refusal of sections 1 to 4 over the limit
  same_or_refused : (input_verdict bytes ≡ former_input_verdict bytes) ⊎ RefusedInFront
  same_or_refused = by_length (leb (length bytes) input_limit) refl
    where
      by_front : input_limit < length bytes → (front : Outcome) → front_outcome bytes ≡ front
          → (input_verdict bytes ≡ former_input_verdict bytes) ⊎ RefusedInFront
      by_front h (Ok _) e = inl (long_inputs.passed bytes h e ∙ sym (former_long h))
      by_front h (Err cause) e = inr (h, (cause, e, (long_inputs.refused bytes cause h e).0))

      by_length : (test : Bool) → leb (length bytes) input_limit ≡ test
          → (input_verdict bytes ≡ former_input_verdict bytes) ⊎ RefusedInFront
      by_length true e =
          let h = leb-true (length bytes) input_limit e in inl (judging_bytes.short bytes h ∙ sym (former_short h))
      by_length false e = by_front (leb-false (length bytes) input_limit e) (front_outcome bytes) refl

  refused_of : input_verdict bytes ≢ former_input_verdict bytes → RefusedInFront
  refused_of changed = by same_or_refused
    where
      by : (input_verdict bytes ≡ former_input_verdict bytes) ⊎ RefusedInFront → RefusedInFront
      by (inl same) = absurd (changed same)
      by (inr refused) = refused

  front_number : RefusedInFront → FrontNumber (number (input_verdict bytes))
  front_number (h, (cause, e, told)) =
      subst FrontNumber (sym (ap number told)) (long_inputs.front_numbers bytes cause (omega arith) e)

  changed_by : input_limit < length bytes → FrontNumber (number (input_verdict bytes))
      → input_verdict bytes ≢ former_input_verdict bytes
  changed_by h given same = not_fourteen (number (input_verdict bytes)) given (ap number (same ∙ former_long h))

pub changed_answers : ChangedAnswers
changed_answers =
    record {
      former = former;
      exactly = λ bytes. (
        λ changed. let refused = refused_of bytes changed in (refused.0, front_number bytes refused),
        λ given. changed_by bytes given.0 given.1,
      );
      by_sections = λ bytes. (
        refused_of bytes,
        λ refused. changed_by bytes refused.0 (front_number bytes refused),
      );
    }
