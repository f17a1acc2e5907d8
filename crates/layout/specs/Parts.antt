-- The layer lookup as a part, by its start and its length.
use Rattle.std.specs.Prelude.{cond, ◌&&◌, List, ℕ, ◌^◌, leb, ltb, eqb, length, take, drop}
use Rattle.std.specs.Prelude.{Ok, Err}
use Rattle.refusal.specs.Outcome.{Outcome}
use Rattle.fri.specs.Layout.{dimension, layer_start, store_length}
use Rattle.fri.specs.Checks.{parameters_outcome}
use Rattle.layout.specs.declared.Parameters.{Parameters}
use Rattle.layout.specs.declared.Part.{Part}
use Rattle.layout.specs.Parameters.{steps_by}

-- the empty part
abbrev pub empty : Part
empty = record { start = 0; length = 0 }

-- the part if the checks pass, else the empty part
abbrev pub or_empty : (outcome : Outcome) (part : Part) → Part
or_empty (Ok _) part = part
or_empty (Err cause) part = empty

-- where layer i, 1 ≤ i < r, lies in a store of `count` entries; the empty part for bad parameters, another i or a count
-- that is not the one due
abbrev pub part_of : (p : Parameters) (count i : ℕ) → Part
part_of p count i =
    or_empty (parameters_outcome p.k p.rate p.step)
    (cond (leb 1 i && ltb i (length (steps_by p)) && eqb count (store_length p.k (steps_by p)))
    (record { start = layer_start p.k (steps_by p) i; length = 2 ^ dimension p.k (steps_by p) i })
    empty)

-- a part of a list
abbrev pub part_in : (part : Part) (list : List ℕ) → List ℕ
part_in part list = take part.length (drop part.start list)
