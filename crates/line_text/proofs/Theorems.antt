-- The statements of specs/Theorems.antt, proved. Assumes nothing.
use mathlib.Core.Path.{◌≡◌, refl, ap}
use mathlib.Core.Logic.{◌≢◌}
use mathlib.Core.List.{◌++◌}
use Prim.Native.Nat.{◌-◌}
use Rattle.std.specs.Prelude.{ℕ, Option, None, Ok, Err}
use Rattle.refusal.specs.Outcome.{Outcome}
use Rattle.refusal.proofs.Theorems.{round_numbers}
use Rattle.fri.specs.declared.Verdict.{Verdict}
use Rattle.refusal.specs.Numbers.{number_of_outcome, place_of_outcome, round_of_outcome}
use Rattle.line_text.specs.Digits.{bytes, digits, places_within, decimal}
use Rattle.line_text.specs.Lines.{or_hyphen, answer_text, numbers_text, line_of, lines_of}
use Rattle.line_text.specs.Theorems.{Examples, PrintedRounds, Decimals}
use Rattle.line_text.proofs.Decimals as laws

pub examples : Examples
unfolding lines_of line_of numbers_text answer_text or_hyphen decimal digits places_within bytes
examples =
    record {
      header = refl;
      answers = (refl, refl);
      others = refl;
      accepted = refl;
      refused = refl;
      shared = refl;
    }

no_round : (answer : Outcome) → number_of_outcome answer ≢ 11 → round_of_outcome answer ≡ None
no_round (Ok _) n = refl
no_round (Err cause) n = round_numbers.eleven_alone cause n

hyphen : (verdict : Verdict) → number_of_outcome verdict.answer ≢ 11
    → line_of verdict
    ≡ answer_text verdict.answer
    ++ numbers_text (number_of_outcome verdict.answer) (place_of_outcome verdict.answer) None verdict.reads
unfolding line_of
hyphen verdict n =
    ap (λ (round : Option ℕ). answer_text verdict.answer
    ++ numbers_text (number_of_outcome verdict.answer) (place_of_outcome verdict.answer) round verdict.reads)
    (no_round verdict.answer n)

pub printed_rounds : PrintedRounds
unfolding line_of answer_text
printed_rounds = record { eleven = λ query round reads. refl; eleven_alone = hyphen }

pub decimals : Decimals
unfolding decimal digits places_within bytes
decimals =
    record {
      value = λ n h. laws.value 19 n (laws.below_20_digits h);
      ascii = λ n. laws.digits_decimal (places_within 19 n) n;
      leading = λ n h. laws.leading 19 n (laws.below_20_digits h);
      zero = refl;
      largest = refl;
    }
