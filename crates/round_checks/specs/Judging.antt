-- A run as a judge has it: its layers, a query's way through them, and what is known before the queries. Only inner
-- functions cite this.
use Rattle.std.specs.Prelude.{◌≡◌, List, [], ◌∷◌, ℕ, zero, suc, ◌^◌, ◌<◌, length}
use Rattle.std.proofs.Math.Bridge.{le_prop}
use Rattle.gf64.specs.Field.{IsElement}
use Rattle.poly.specs.Polynomial.{All}
use Rattle.std.specs.Prelude.{Ok}
use Rattle.fri.specs.Layout.{dimension, layer_start, stored_layer, index_in}
use Rattle.fri.specs.Run.{Run, steps_in, rounds_in, challenge_in}
use Rattle.fri.specs.Layers.{basis_in, offset_in}
use Rattle.fri.specs.Rounds.{value_computed, value_found}
use Rattle.fri.specs.Judge.{checks_outcome}
use Rattle.fri.specs.Demand.{ValidCoset}
use Rattle.fri.specs.Theorems.{Fit}
use Rattle.layout.specs.declared.Parameters.{Parameters}
use Rattle.layout.specs.Parameters.{steps_by, run_of}
use Rattle.round_checks.specs.declared.Round.{Round}
use Rattle.round_checks.specs.declared.QueryPoint.{QueryPoint}
use Rattle.round_checks.specs.declared.RoundCheck.{RoundCheck}
use Rattle.round_checks.specs.declared.sent.Sent.{Sent}
use Rattle.round_checks.specs.Rounds.{round_over, Holds, query_point_at}

-- ---- the layers

-- layer i of a run with these parameters: the word, or a layer of the store
unfoldable pub layer_of : (p : Parameters) (word store : List ℕ) (i : ℕ) → List ℕ
layer_of p word store zero = word
layer_of p word store (suc i) = stored_layer p.k (steps_by p) store (suc i)

-- an index within layer i, which begins at `start` in the store, if it is stored
pub record EntryWithin (p : Parameters) (i start index : ℕ) : Type 0 where
  pub round : i < length (steps_by p)
  pub starts : start ≡ layer_start p.k (steps_by p) i
  pub inside : index < 2 ^ dimension p.k (steps_by p) i

-- the run that was sent with these layers
abbrev pub run_sent : (sent : Sent) (word store : List ℕ) → Run
run_sent sent word store =
    run_of sent.shape.parameters sent.offset.0 sent.basis.now sent.challenges.now word store sent.last.now

-- ---- a query

-- a query at index j of layer 0: its index in layer i with the point
abbrev pub query_point_of : (run : Run) (j i : ℕ) → QueryPoint
query_point_of run j i = query_point_at (offset_in run i) (basis_in run i) (index_in (steps_in run) j i)

-- some query of layer 0 is there in layer i
abbrev pub Reached : (run : Run) (i : ℕ) (here : QueryPoint) → Type 0
Reached run i here = (j : ℕ) × (j < 2 ^ run.k) × (here ≡ query_point_of run j i)

-- the two values of round i for a query at index j of layer 0, and where it is in the next layer
pub record Made (run : Run) (j i : ℕ) (check : RoundCheck) (next : QueryPoint) : Type 0 where
  pub computed : check.computed.0 ≡ value_computed run j i
  pub found : check.found.0 ≡ value_found run j i
  pub next_is : next ≡ query_point_of run j (suc i)

-- ---- what is known before the queries

-- of the run
pub record Checked (run : Run) : Type 0 where
  pub coset : ValidCoset run
  pub fit : Fit run
  pub challenges_elements : All IsElement run.challenges
  pub word_elements : All IsElement run.word
  pub store_elements : All IsElement run.store

-- round i, as the code has it
abbrev pub round_in : (run : Run) (i : ℕ) → Round
round_in run i = round_over run.step (basis_in run i) (challenge_in run i) (layer_start run.k (steps_in run) i)

-- with the number of rounds and their table
pub record Prepared (run : Run) (queries : List ℕ) (count : ℕ) (table : List Round) : Type 0 where
  pub checks : checks_outcome run queries ≡ Ok tt
  pub ready : Checked run
  pub count_is : count ≡ rounds_in run
  pub held : Holds table (round_in run) count

-- a struct may keep it
pub elements_prop : (xs : List ℕ) → IsProp (All IsElement xs)
elements_prop [] = hlevel
elements_prop (x ∷ xs) = hlevel (le_prop, elements_prop xs)
