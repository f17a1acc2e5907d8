-- What is proved of the numbers, as statements: proofs/Theorems.antt has a value of each.
use Rattle.std.specs.Prelude.{◌≡◌, ◌≢◌, ℕ}
use Rattle.refusal.specs.declared.Cause.{Cause}
use Rattle.refusal.specs.declared.Cause.TheVariants.{RoundCheckFails}
use Rattle.std.specs.Prelude.{Some, None}
use Rattle.refusal.specs.Numbers.{number_of, round_of}

-- no cause has a number that is retired
pub record RetiredNumbers : Type 0 where
  -- 15 was the inverse of zero (02, Q-6)
  pub fifteen : (cause : Cause) → number_of cause ≢ 15
  -- 16 was a later layer's basis is dependent (02, Q-7)
  pub sixteen : (cause : Cause) → number_of cause ≢ 16

-- a round goes with a failed round check (11), and with no other cause
pub record RoundNumbers : Type 0 where
  pub eleven : (query round : ℕ) → round_of (RoundCheckFails query round) ≡ Some round
  pub eleven_alone : (cause : Cause) → number_of cause ≢ 11 → round_of cause ≡ None
