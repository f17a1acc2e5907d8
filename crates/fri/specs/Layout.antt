-- Rounds, dimensions, the store and the indices of a query, over a list of steps with one step for each round.
use Rattle.std.specs.Prelude.{List, [], ◌++◌, ℕ, zero, suc, ◌+◌, ◌-◌, ◌/◌, ◌^◌, length, get_or, take, drop, replicate}

-- r, the number of rounds: (k - R) / η rounded down
abbrev pub rounds_of : (k rate step : ℕ) → ℕ
rounds_of k rate step = (k - rate) / step

-- the steps of document 01's parameters: r times η
abbrev pub steps_of : (k rate step : ℕ) → List ℕ
steps_of k rate step = replicate (rounds_of k rate step) step

-- the step of round i
abbrev pub step_at : (steps : List ℕ) (i : ℕ) → ℕ
step_at steps i = get_or steps i 0

-- the dimension of layer i: round i takes its step off
unfoldable pub dimension : (k : ℕ) (steps : List ℕ) (i : ℕ) → ℕ
dimension k steps zero = k
dimension k steps (suc i) = dimension k steps i - step_at steps i

-- d, the number of last coefficients, for layer r
unfoldable pub last_count : (k rate : ℕ) (steps : List ℕ) → ℕ
last_count k rate steps = 2 ^ (dimension k steps (length steps) - rate)

-- where layer i, from 1 on, begins in the store, which holds layers 1 to r - 1 joined
unfoldable pub layer_start : (k : ℕ) (steps : List ℕ) (i : ℕ) → ℕ
layer_start k steps zero = 0
layer_start k steps (suc zero) = 0
layer_start k steps (suc (suc i)) = layer_start k steps (suc i) + 2 ^ dimension k steps (suc i)

-- the length of the store: it ends where layer r would begin
unfoldable pub store_length : (k : ℕ) (steps : List ℕ) → ℕ
store_length k steps = layer_start k steps (length steps)

-- layers 1 to n, joined
unfoldable pub joined_layers : (layer : ℕ → List ℕ) (n : ℕ) → List ℕ
joined_layers layer zero = []
joined_layers layer (suc n) = joined_layers layer n ++ layer (suc n)

-- layer i of a store, 1 ≤ i < r
unfoldable pub stored_layer : (k : ℕ) (steps store : List ℕ) (i : ℕ) → List ℕ
stored_layer k steps store i = take (2 ^ dimension k steps i) (drop (layer_start k steps i) store)

-- the index in layer i of a query at index j of layer 0
unfoldable pub index_in : (steps : List ℕ) (j i : ℕ) → ℕ
index_in steps j zero = j
index_in steps j (suc i) = index_in steps j i / 2 ^ step_at steps i
