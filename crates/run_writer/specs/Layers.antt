-- The layers of a store, one after the other.
use Rattle.std.specs.Prelude.{List, [], ◌∷◌, ℕ, zero, suc}
use Rattle.fri.specs.Lookup.{layer_part}
use Rattle.layout.specs.declared.Parameters.{Parameters}

-- layer i of a store and those after it, `left` of them, as the lookup hands them back
unfoldable pub stored_layers : (p : Parameters) (store : List ℕ) (i left : ℕ) → List (List ℕ)
stored_layers p store i zero = []
stored_layers p store i (suc left) =
    layer_part p.k p.rate p.step store i ∷ stored_layers p store (suc i) left
