-- The statements of specs/Theorems.antt, proved, by cases. Assumes nothing.
use mathlib.Core.Path.{◌≡◌, refl}
use mathlib.Core.Logic.{◌≢◌, ◌⊎◌, inl, inr, ⊎_elim}
use Prim.Native.Nat.{ℕ, ◌≤◌}
use native.Mathlib.Omega.{arith}
use denote.Enum.Declared.{tag_of}
use Rattle.refusal.specs.declared.Cause.{Cause}
use Rattle.refusal.specs.contracts.Cause.{the_type}
use Rattle.refusal.specs.declared.Cause.TheVariants.{BytesEnd, CountDiffers, TrailingBytes, DimensionOutOfRange}
use Rattle.refusal.specs.declared.Cause.TheVariants.{RateOutOfRange, StepOutOfRange, DimensionTooSmall}
use Rattle.refusal.specs.declared.Cause.TheVariants.{BasisDependent, QueryCountOutOfRange, QueryOutOfRange}
use Rattle.refusal.specs.declared.Cause.TheVariants.{RoundCheckFails, DegreeTooLarge, WrongLength, InputTooLong}
use Rattle.refusal.specs.declared.Cause.TheVariants.{CosetShared}
use Rattle.std.specs.Prelude.{None}
use Rattle.refusal.specs.Numbers.{number_of, round_of}
use Rattle.refusal.specs.Theorems.{RetiredNumbers, RoundNumbers}

-- a number that a cause has is 1 to 14, or 17
abbrev Given : ℕ → Type 0
Given n = ((1 ≤ n) × (n ≤ 14)) ⊎ (n ≡ 17)

given : (cause : Cause) → Given (number_of cause)
given (BytesEnd section) = inl (omega arith, omega arith)
given (CountDiffers section) = inl (omega arith, omega arith)
given TrailingBytes = inl (omega arith, omega arith)
given DimensionOutOfRange = inl (omega arith, omega arith)
given RateOutOfRange = inl (omega arith, omega arith)
given StepOutOfRange = inl (omega arith, omega arith)
given DimensionTooSmall = inl (omega arith, omega arith)
given (BasisDependent place) = inl (omega arith, omega arith)
given QueryCountOutOfRange = inl (omega arith, omega arith)
given (QueryOutOfRange query) = inl (omega arith, omega arith)
given (RoundCheckFails query round) = inl (omega arith, omega arith)
given (DegreeTooLarge degree) = inl (omega arith, omega arith)
given (WrongLength _) = inl (omega arith, omega arith)
given InputTooLong = inl (omega arith, omega arith)
given (CosetShared query) = inr refl

zero_not_given : (n : ℕ) → Given n → n ≢ 0
zero_not_given n (inl range) e = omega arith
zero_not_given n (inr is) e = omega arith

-- 0 is accepted, and no cause's number
pub never_zero : (cause : Cause) → number_of cause ≢ 0
never_zero cause = zero_not_given (number_of cause) (given cause)

fifteen_not_given : (n : ℕ) → Given n → n ≢ 15
fifteen_not_given n (inl range) e = omega arith
fifteen_not_given n (inr is) e = omega arith

sixteen_not_given : (n : ℕ) → Given n → n ≢ 16
sixteen_not_given n (inl range) e = omega arith
sixteen_not_given n (inr is) e = omega arith

pub retired_numbers : RetiredNumbers
retired_numbers =
    record {
      fifteen = λ cause. fifteen_not_given (number_of cause) (given cause);
      sixteen = λ cause. sixteen_not_given (number_of cause) (given cause);
    }

-- a failed round check, by its number and by its position among the constructors, or a cause without a round
pub round_or_none : (cause : Cause)
    → ((number_of cause ≡ 11) × (tag_of the_type cause ≡ 10)) ⊎ (round_of cause ≡ None)
round_or_none (BytesEnd section) = inr refl
round_or_none (CountDiffers section) = inr refl
round_or_none TrailingBytes = inr refl
round_or_none DimensionOutOfRange = inr refl
round_or_none RateOutOfRange = inr refl
round_or_none StepOutOfRange = inr refl
round_or_none DimensionTooSmall = inr refl
round_or_none (BasisDependent place) = inr refl
round_or_none QueryCountOutOfRange = inr refl
round_or_none (QueryOutOfRange query) = inr refl
round_or_none (RoundCheckFails query round) = inl (refl, refl)
round_or_none (DegreeTooLarge degree) = inr refl
round_or_none (WrongLength _) = inr refl
round_or_none InputTooLong = inr refl
round_or_none (CosetShared query) = inr refl

no_round : (cause : Cause) → number_of cause ≢ 11 → round_of cause ≡ None
no_round cause n =
    ⊎_elim (λ (t : (number_of cause ≡ 11) × (tag_of the_type cause ≡ 10)). absurd (n t.0))
    (λ (none : round_of cause ≡ None). none) (round_or_none cause)

pub round_numbers : RoundNumbers
round_numbers = record { eleven = λ query round. refl; eleven_alone = no_round }
