-- The layer lookup: a layer as a part of the caller's store.
use Rattle.std.specs.Prelude.{Bool, cond, ◌&&◌, List, [], ℕ, leb, ltb, eqb, length}
use Rattle.std.specs.Prelude.{Ok, Err}
use Rattle.refusal.specs.Outcome.{Outcome}
use Rattle.fri.specs.Layout.{steps_of, store_length, stored_layer}
use Rattle.fri.specs.Checks.{parameters_outcome}

-- the part if the checks pass, else the empty part
abbrev pub part_after : (outcome : Outcome) (part : List ℕ) → List ℕ
part_after (Ok _) part = part
part_after (Err cause) part = []

-- the store has a layer i: 1 ≤ i < r, and the length of the store is the one due
abbrev pub in_store : (k : ℕ) (steps store : List ℕ) (i : ℕ) → Bool
in_store k steps store i = leb 1 i && ltb i (length steps) && eqb (length store) (store_length k steps)

-- the layer lookup: layer i of a store, or the empty part for bad parameters, another i or a store of another length
abbrev pub layer_part : (k rate step : ℕ) (store : List ℕ) (i : ℕ) → List ℕ
layer_part k rate step store i =
    let steps = steps_of k rate step in
    part_after (parameters_outcome k rate step) (cond (in_store k steps store i) (stored_layer k steps store i) [])
