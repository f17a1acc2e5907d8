-- The number, the place and the round of each cause, as document 01's table "Numbers by cause" gives them, and 17 as
-- 02, Q-2, does; without 15 and 16, which 02, Q-6 and Q-7, retire.
use Rattle.std.specs.Prelude.{ℕ}
use Rattle.refusal.specs.declared.Cause.{Cause}
use Rattle.refusal.specs.declared.Lent.{Lent}
use Rattle.refusal.specs.declared.Lent.TheVariants as lent
use Rattle.refusal.specs.declared.Cause.TheVariants.{BytesEnd, CountDiffers, TrailingBytes, DimensionOutOfRange}
use Rattle.refusal.specs.declared.Cause.TheVariants.{RateOutOfRange, StepOutOfRange, DimensionTooSmall}
use Rattle.refusal.specs.declared.Cause.TheVariants.{BasisDependent, QueryCountOutOfRange, QueryOutOfRange}
use Rattle.refusal.specs.declared.Cause.TheVariants.{RoundCheckFails, DegreeTooLarge, WrongLength, InputTooLong}
use Rattle.refusal.specs.declared.Cause.TheVariants.{CosetShared}
use Rattle.std.specs.Prelude.{Option, Some, None, Result, Ok, Err}

-- the table's column "Number": a number, once given, keeps its cause for good
abbrev pub number_of : (cause : Cause) → ℕ
number_of (BytesEnd section) = 1
number_of (CountDiffers section) = 2
number_of TrailingBytes = 3
number_of DimensionOutOfRange = 4
number_of RateOutOfRange = 5
number_of StepOutOfRange = 6
number_of DimensionTooSmall = 7
number_of (BasisDependent place) = 8
number_of QueryCountOutOfRange = 9
number_of (QueryOutOfRange query) = 10
number_of (RoundCheckFails query round) = 11
number_of (DegreeTooLarge degree) = 12
number_of (WrongLength _) = 13
number_of InputTooLong = 14
number_of (CosetShared query) = 17

-- the number of a lent list, by which the table's column "Returned" tells it
abbrev pub number_of_list : (which : Lent) → ℕ
number_of_list lent.Basis = 1
number_of_list lent.Challenges = 2
number_of_list lent.Word = 3
number_of_list lent.Store = 4
number_of_list lent.Last = 5
number_of_list lent.Values = 6
number_of_list lent.NextBasis = 7
number_of_list lent.Bytes = 8

-- what the table's column "Returned" gives, but for rounds and reads: the section, basis place, query, degree or list
abbrev pub place_of : (cause : Cause) → Option ℕ
place_of (BytesEnd section) = Some section
place_of (CountDiffers section) = Some section
place_of TrailingBytes = None
place_of DimensionOutOfRange = None
place_of RateOutOfRange = None
place_of StepOutOfRange = None
place_of DimensionTooSmall = None
place_of (BasisDependent place) = Some place
place_of QueryCountOutOfRange = None
place_of (QueryOutOfRange query) = Some query
place_of (RoundCheckFails query round) = Some query
place_of (DegreeTooLarge degree) = Some degree
place_of (WrongLength which) = Some (number_of_list which)
place_of InputTooLong = None
place_of (CosetShared query) = Some query

-- the round of a failed check
abbrev pub round_of : (cause : Cause) → Option ℕ
round_of (BytesEnd section) = None
round_of (CountDiffers section) = None
round_of TrailingBytes = None
round_of DimensionOutOfRange = None
round_of RateOutOfRange = None
round_of StepOutOfRange = None
round_of DimensionTooSmall = None
round_of (BasisDependent place) = None
round_of QueryCountOutOfRange = None
round_of (QueryOutOfRange query) = None
round_of (RoundCheckFails query round) = Some round
round_of (DegreeTooLarge degree) = None
round_of (WrongLength _) = None
round_of InputTooLong = None
round_of (CosetShared query) = None

-- the number of what an operation answers: 0 where it went well, else that of the cause
abbrev pub number_of_outcome : {A : Type 0} (outcome : Result A Cause) → ℕ
number_of_outcome (Ok _) = 0
number_of_outcome (Err cause) = number_of cause

-- its place: that of the cause
abbrev pub place_of_outcome : {A : Type 0} (outcome : Result A Cause) → Option ℕ
place_of_outcome (Ok _) = None
place_of_outcome (Err cause) = place_of cause

-- its round: that of the cause
abbrev pub round_of_outcome : {A : Type 0} (outcome : Result A Cause) → Option ℕ
round_of_outcome (Ok _) = None
round_of_outcome (Err cause) = round_of cause
