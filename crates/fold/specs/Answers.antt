-- What a lone fold, a fold outside a run, answers, and what the lent lists hold afterwards. The lists have the numbers
-- that document 01 gives them: 1 basis, 3 word, 6 values, 7 next basis.
use Rattle.std.specs.Prelude.{◌&&◌, List, ℕ, ◌-◌, ◌^◌, leb, eqb, length}
use Rattle.refusal.specs.declared.Cause.TheVariants.{DimensionOutOfRange, StepOutOfRange}
use Rattle.refusal.specs.declared.Cause.TheVariants.{DimensionTooSmall, WrongLength}
use Rattle.std.specs.Prelude.{Option, None, Result, Ok, Err}
use Rattle.refusal.specs.Outcome.{Outcome}
use Rattle.refusal.specs.declared.Cause.{Cause}
use Rattle.refusal.specs.declared.Lent.TheVariants as lent
use Rattle.field.specs.declared.Element.{Element}
use Rattle.refusal.specs.Checks.{refused_unless, and_then, afterwards}
use Rattle.refusal.specs.Numbers.{number_of, place_of, round_of}
use Rattle.coset.specs.Answers.{basis_outcome}
use Rattle.coset.specs.Subspace.{next_offset, next_basis}
use Rattle.fold.specs.Fold.{folded}

-- the ranges: k 2..20 (number 4), the step 1..3 (6), k at least the step (7)
abbrev pub fold_ranges_outcome : (k step : ℕ) → Outcome
fold_ranges_outcome k step =
    refused_unless (leb 2 k && leb k 20) DimensionOutOfRange
    (refused_unless (leb 1 step && leb step 3) StepOutOfRange
    (refused_unless (leb step k) DimensionTooSmall
    (Ok tt)))

-- the lengths of the lists: the lowest list whose length is not the one due (13)
abbrev pub fold_lengths_outcome : (k step length1 length3 length6 length7 : ℕ) → Outcome
fold_lengths_outcome k step length1 length3 length6 length7 =
    refused_unless (eqb length1 k) (WrongLength lent.Basis)
    (refused_unless (eqb length3 (2 ^ k)) (WrongLength lent.Word)
    (refused_unless (eqb length6 (2 ^ (k - step))) (WrongLength lent.Values)
    (refused_unless (eqb length7 (k - step)) (WrongLength lent.NextBasis)
    (Ok tt))))

-- all checks, in the order of document 01: 4, 6, 7, 13, 8
abbrev pub fold_outcome : (k step : ℕ) (basis word values next : List ℕ) → Outcome
fold_outcome k step basis word values next =
    and_then (fold_ranges_outcome k step)
    (and_then (fold_lengths_outcome k step (length basis) (length word) (length values) (length next))
    (basis_outcome basis))

-- the next offset, or the refusal
abbrev pub folded_of : (outcome : Outcome) (offset : ℕ) → Result Element Cause
folded_of (Ok _) offset = Ok (record { 0 = offset })
folded_of (Err cause) offset = Err cause

-- the answer of a call
abbrev pub fold_answer : (k step offset : ℕ) (basis word values next : List ℕ) → Result Element Cause
fold_answer k step offset basis word values next =
    folded_of (fold_outcome k step basis word values next) (next_offset step offset basis)

-- what list 6, the values, holds afterwards
abbrev pub fold_values_after : (k step offset : ℕ) (basis word : List ℕ) (challenge : ℕ) (values next : List ℕ) → List ℕ
fold_values_after k step offset basis word challenge values next =
    afterwards (fold_outcome k step basis word values next) (folded step offset basis word challenge) values

-- what list 7, the next basis, holds afterwards
abbrev pub next_basis_after : (k step : ℕ) (basis word values next : List ℕ) → List ℕ
next_basis_after k step basis word values next =
    afterwards (fold_outcome k step basis word values next) (next_basis step basis) next

-- the value of an answer: the next offset, or `none` where there is none
abbrev pub value_of_folded : (answer : Result Element Cause) (none : ℕ) → ℕ
value_of_folded (Ok offset) none = offset.0
value_of_folded (Err cause) none = none
