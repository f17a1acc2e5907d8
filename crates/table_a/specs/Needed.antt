-- Case J shows that demand 3 needs its exceptional sets: at challenge 2 a query list covers a run whose word has not
-- low degree. proofs/Needed.antt has a value.
use Rattle.std.specs.Prelude.{[], ◌∷◌}
use Rattle.fri.specs.Demand.{LowDegree, Covered}
use Rattle.table_a.specs.TableA.{small}

pub record ExceptionalSetsNeeded : Type 0 where
  pub covered : Covered (small 2 (0 ∷ 0 ∷ 0 ∷ 1 ∷ []) (0 ∷ [])) ((0 ∷ 2 ∷ []) ∷ [])
  pub not_low : LowDegree (small 2 (0 ∷ 0 ∷ 0 ∷ 1 ∷ []) (0 ∷ [])) → ⊥
