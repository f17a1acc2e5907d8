-- What an operation answers that gives no value: that it went well, or the cause of its refusal.
use Rattle.std.specs.Prelude.{Result, Ok, Err}
use Rattle.refusal.specs.declared.Cause.{Cause}

abbrev pub Outcome : Type 0
Outcome = Result Unit Cause

-- the outcome of an operation that gives a value
abbrev pub outcome_of : {A : Type 0} (result : Result A Cause) → Outcome
outcome_of (Ok value) = Ok tt
outcome_of (Err cause) = Err cause
