-- Checks one after the other, and what a lent list holds after them.
use Rattle.std.specs.Prelude.{Bool, cond, List, ℕ}
use Rattle.refusal.specs.declared.Cause.{Cause}
use Rattle.std.specs.Prelude.{Ok, Err}
use Rattle.refusal.specs.Outcome.{Outcome}

-- refused with the cause unless the test holds, and then as the checks after it say
abbrev pub refused_unless : (holds : Bool) (cause : Cause) (after : Outcome) → Outcome
refused_unless holds cause after = cond holds after (Err cause)

-- the first refusal of two groups of checks
abbrev pub and_then : (first after : Outcome) → Outcome
and_then (Ok _) after = after
and_then (Err cause) after = Err cause

-- what a lent list holds afterwards: what was asked for, or, after a refusal, what it held
abbrev pub afterwards : (outcome : Outcome) (wanted held : List ℕ) → List ℕ
afterwards (Ok _) wanted held = wanted
afterwards (Err cause) wanted held = held
