-- The exceptional set of a layer: document 01's own term.
use Rattle.std.specs.Prelude.{List, ℕ, ◌-◌, ◌^◌, length}
use Rattle.gf64.specs.Field.{IsElement}
use Rattle.coset.specs.Subspace.{next_offset, next_basis}
use Rattle.reed_solomon.specs.Codes.{WordDegreeBelow}
use Rattle.fold.specs.Fold.{folded}

-- the fold of the word at the challenge has degree below n
abbrev pub FoldDegreeBelow : (n step offset : ℕ) (basis word : List ℕ) (challenge : ℕ) → Type 0
FoldDegreeBelow n step offset basis word challenge =
    WordDegreeBelow n (next_offset step offset basis) (next_basis step basis) (folded step offset basis word challenge)

-- x lies in the exceptional set of a layer of 2^m values over its coset, m the length of the basis:
-- the set is empty where the layer has degree below 2^(m - rate), and otherwise has all elements at which the layer's
-- fold has degree below 2^(m - rate - step); it is meant for rate + step at most m
abbrev pub Exceptional : (rate step offset : ℕ) (basis layer : List ℕ) (x : ℕ) → Type 0
Exceptional rate step offset basis layer x =
    IsElement x
    × (WordDegreeBelow (2 ^ (length basis - rate)) offset basis layer → ⊥)
    × FoldDegreeBelow (2 ^ (length basis - rate - step)) step offset basis layer x
