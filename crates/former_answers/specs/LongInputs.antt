-- Which answers of the program `judge` 02, Q-8, changed.
use Rattle.std.specs.Prelude.{◌≡◌, ◌≢◌, ◌↔◌, cond, List, ℕ, ◌<◌, leb, length}
use Rattle.refusal.specs.declared.Cause.{Cause}
use Rattle.refusal.specs.declared.Cause.TheVariants.{InputTooLong}
use Rattle.std.specs.Prelude.{None, Err}
use Rattle.fri.specs.declared.Verdict.{Verdict}
use Rattle.refusal.specs.Numbers.{number_of_outcome}
use Rattle.fri.specs.Theorems.{Tells}
use Rattle.transcript.specs.Checks.{front_outcome}
use Rattle.transcript.specs.Judge.{transcript_verdict, input_limit, input_verdict}
use Rattle.transcript.specs.Theorems.{FrontNumber}

-- what the program answered: over the limit 14, whatever the bytes were
abbrev pub former_input_verdict : (bytes : List ℕ) → Verdict
former_input_verdict bytes =
    cond (leb (length bytes) input_limit) (transcript_verdict bytes)
    (record { answer = Err InputTooLong; reads = 0 })

pub record ChangedAnswers : Type 0 where
  -- every input over the limit got 14
  pub former : (bytes : List ℕ) → input_limit < length bytes → Tells (former_input_verdict bytes) 14 None None 0
  -- the answers that changed are those to inputs over the limit that get 2, 4 to 10 or 17 now, and no others
  pub exactly : (bytes : List ℕ)
      → (input_verdict bytes ≢ former_input_verdict bytes)
      ↔ ((input_limit < length bytes) × FrontNumber (number_of_outcome (input_verdict bytes).answer))
  -- that is, to those of them that sections 1 to 4 refuse, and with that refusal
  pub by_sections : (bytes : List ℕ)
      → (input_verdict bytes ≢ former_input_verdict bytes)
      ↔ ((input_limit < length bytes) × ((cause : Cause) × (front_outcome bytes ≡ Err cause)
      × (input_verdict bytes ≡ record { answer = Err cause; reads = 0 })))
