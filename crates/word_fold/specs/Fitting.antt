-- What the fold of a word asks of its lists, besides the coset's own facts.
use Rattle.std.specs.Prelude.{◌≡◌, List, ℕ, ◌-◌, ◌^◌, ◌≤◌, length}
use Rattle.coset.specs.Steps.{step_elements}

-- the elements are those of one, two or three maps of a step over this basis
pub record StepFits (elements basis : List ℕ) : Type 0 where
  pub some : 1 ≤ length elements
  pub few : length elements ≤ 3
  pub fits : length elements ≤ length basis
  pub elements_are : elements ≡ step_elements (length elements) basis

-- with a word over the basis, and a place for each value of its fold
pub record WordFits (elements basis word values : List ℕ) : Type 0 where
  pub step : StepFits elements basis
  pub word_fits : length word ≡ 2 ^ length basis
  pub values_fit : length values ≡ 2 ^ (length basis - length elements)
