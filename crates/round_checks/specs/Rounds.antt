-- What the judge computes once for each round, and a query's index and point in a layer, as the code has them. Only
-- inner functions cite this.
use Rattle.std.specs.Prelude.{◌≡◌, List, [], map, ℕ, ◌/◌, ◌%◌, ◌^◌, ◌<◌, get_or, take}
use Rattle.gf64.specs.Field.{sum, inverse}
use Rattle.poly.specs.Carrier.{gf64}
use Rattle.poly.specs.Polynomial.{padded}
use Rattle.coset.specs.Coset.{point, points}
use Rattle.coset.specs.Steps.{composed_maps, step_elements}
use Rattle.fold.specs.Halving.{value_at}
use Rattle.fri.specs.Layout.{layer_start}
use Rattle.fri.specs.Layers.{layer_basis}
use Rattle.layout.specs.declared.Parameters.{Parameters}
use Rattle.layout.specs.Parameters.{steps_by}
use Rattle.round_checks.specs.declared.Round.{Round}
use Rattle.round_checks.specs.declared.QueryPoint.{QueryPoint}

-- a round over a basis, with a challenge; its layer, if it is stored, begins at `start` in the store
abbrev pub round_over : (step : ℕ) (basis : List ℕ) (challenge start : ℕ) → Round
round_over step basis challenge start =
    record {
      elements = padded gf64 3 (step_elements step basis);
      inverses = padded gf64 3 (map inverse (step_elements step basis));
      span = padded gf64 8 (points 0 (take step basis));
      challenge = record { 0 = challenge };
      start = start;
    }

-- what `get_or` gives beyond the table
abbrev pub no_round : Round
no_round =
    record {
      elements = [];
      inverses = [];
      span = [];
      challenge = record { 0 = 0 };
      start = 0;
    }

-- round i
abbrev pub round_at : (p : Parameters) (basis challenges : List ℕ) (i : ℕ) → Round
round_at p basis challenges i =
    round_over p.step (layer_basis (steps_by p) basis i) (get_or challenges i 0) (layer_start p.k (steps_by p) i)

-- the first n rounds stand in the table
abbrev pub Holds : (table : List Round) (round : ℕ → Round) (n : ℕ) → Type 0
Holds table round n = (i : ℕ) → i < n → get_or table i no_round ≡ round i

-- a query at an index of a layer over a coset
abbrev pub query_point_at : (offset : ℕ) (basis : List ℕ) (index : ℕ) → QueryPoint
query_point_at offset basis index = record { index = index; point = record { 0 = point offset basis index } }

-- from one layer to the next
abbrev pub next_query_point : (step : ℕ) (elements : List ℕ) (here : QueryPoint) → QueryPoint
next_query_point step elements here =
    record {
      index = here.index / 2 ^ step;
      point = record { 0 = composed_maps (take step elements) here.point.0 };
    }

-- the fold of the coset that holds the query's index, with these entries
abbrev pub value_folded : (step : ℕ) (round : Round) (here : QueryPoint) (part : List ℕ) → ℕ
value_folded step round here part =
    value_at (take step round.inverses)
    (map (sum (sum round.challenge.0 (sum here.point.0 (get_or round.span (here.index % 2 ^ step) 0))))
    (take (2 ^ step) round.span)) part
