-- A round by value: equal where its parts are; and a table that is being filled with rounds. Assumes nothing.
use mathlib.Core.Path.{◌≡◌, refl, ap, ap₂, ◌∙◌}
use mathlib.Core.List.{List, map}
use Prim.Native.Nat.{ℕ, ◌+◌, ◌<◌}
use lib.ListN.{length, take, set}
use Rattle.gf64.specs.Field.{inverse}
use Rattle.poly.specs.Carrier.{gf64}
use Rattle.poly.specs.Polynomial.{padded}
use Rattle.poly.proofs.Entries.{entries_next}
use Rattle.coset.specs.Coset.{points}
use Rattle.coset.specs.Steps.{step_elements}
use Rattle.fri.specs.Layout.{layer_start}
use Rattle.round_checks.specs.declared.Round.{Round}
use Rattle.round_checks.specs.Rounds.{no_round, round_over, Holds}

-- a round with these three lists, as the code makes it
abbrev round_with : (elements inverses span : List ℕ) (challenge start : ℕ) → Round
round_with elements inverses span challenge start =
    record {
      elements = elements;
      inverses = inverses;
      span = span;
      challenge = record { 0 = challenge };
      start = start;
    }

pub round_equal : (step : ℕ) (basis : List ℕ) (challenge start : ℕ) (elements inverses span : List ℕ)
    → elements ≡ padded gf64 3 (step_elements step basis)
    → inverses ≡ padded gf64 3 (map inverse (step_elements step basis))
    → span ≡ padded gf64 8 (points 0 (take step basis))
    → round_with elements inverses span challenge start ≡ round_over step basis challenge start
round_equal step basis challenge start elements inverses span e i s =
    ap₂ (λ (es is : List ℕ). round_with es is span challenge start) e i
    ∙ ap
    (λ (l : List ℕ).
    round_with (padded gf64 3 (step_elements step basis)) (padded gf64 3 (map inverse (step_elements step basis))) l
    challenge start)
    s

pub holds_next : (table : List Round) (round : ℕ → Round) (n : ℕ) (value : Round) → n < length table
    → Holds table round n → value ≡ round n → Holds (set table n value) round (n + 1)
holds_next = entries_next no_round

pub start_of_word : (k : ℕ) (steps : List ℕ) → 0 ≡ layer_start k steps 0
unfolding layer_start
start_of_word k steps = refl
