-- A run of the protocol over lists, without its queries. For a judge it is what anybody sent;
-- for a prover it is what it is given, and store and last coefficients are what the two lent lists held before.
-- That all steps are alike is known to `steps_of` alone.
use Rattle.std.specs.Prelude.{List, ℕ, zero, suc, length, get_or}
use Rattle.fri.specs.Layout.{steps_of, step_at, stored_layer}

pub record Run : Type 0 where
  pub k : ℕ
  pub rate : ℕ
  pub step : ℕ
  pub offset : ℕ
  pub basis : List ℕ
  pub challenges : List ℕ
  pub word : List ℕ
  -- layers 1 to r - 1, joined
  pub store : List ℕ
  -- the last coefficients
  pub last : List ℕ

-- the steps of its rounds
abbrev pub steps_in : (run : Run) → List ℕ
steps_in run = steps_of run.k run.rate run.step

-- r, the number of its rounds
abbrev pub rounds_in : (run : Run) → ℕ
rounds_in run = length (steps_in run)

-- the step of round i
abbrev pub step_in : (run : Run) (i : ℕ) → ℕ
step_in run i = step_at (steps_in run) i

-- challenge i
abbrev pub challenge_in : (run : Run) (i : ℕ) → ℕ
challenge_in run i = get_or run.challenges i 0

-- layer i, i < r, as it was sent: the word, or a layer of the store
unfoldable pub layer_in : (run : Run) (i : ℕ) → List ℕ
layer_in run zero = run.word
layer_in run (suc i) = stored_layer run.k (steps_in run) run.store (suc i)
