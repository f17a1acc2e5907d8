-- A search of the library over a query list finds what the definitions of the checks find. Assumes nothing.
use mathlib.Core.Path.{◌≡◌, refl, ap, ◌∙◌}
use mathlib.Core.Bool.{Bool, true, false, ◌||◌}
use mathlib.Core.List.{List, [], ◌∷◌, map}
use Prim.Native.Nat.{ℕ, ◌+◌, ◌/◌, ◌^◌}
use lib.Dec.{leb, eqb}
use denote.Ref.{Bor}
use Rattle.std.specs.Prelude.{Option}
use Rattle.std.specs.List.{position, position_from, fold}
use Rattle.std.proofs.lemmas.Iterator.Adapters.{position_from-zero}
use Rattle.std.proofs.lemmas.Grind.{common_steps}
use Rattle.std.proofs.Common.{arith}
use Rattle.std.proofs.lemmas.Bool.Decides.{nat_tests}
use Rattle.fri.specs.Checks.{first_outside, among, visited_cosets}

-- the first query outside, its place counted from any
outside_from : (size : ℕ) (queries : List ℕ) (place : ℕ)
    → position_from (λ j. leb size j) place queries ≡ first_outside size queries place
unfolding first_outside
outside_from size [] place = refl
outside_from size (j ∷ queries) place = grind (arith, common_steps, nat_tests, outside_from size queries (place + 1))

pub outside_found : (size : ℕ) (queries : List ℕ) (r : Option ℕ) → r ≡ position (λ j. leb size j) queries
    → r ≡ first_outside size queries 0
outside_found size queries r e =
    e ∙ position_from-zero (λ j. leb size j) queries ∙ outside_from size queries 0

-- one query more, as the code has it
abbrev pub seen_by : (step coset : ℕ) → Bool → Bor ℕ → Bool
seen_by step coset seen j = seen || eqb (j.now / 2 ^ step) coset

or_false : (a : Bool) → a ≡ (a || false)
or_false true = refl
or_false false = refl

or_or : (a b c : Bool) → ((a || b) || c) ≡ (a || (b || c))
or_or true b c = refl
or_or false b c = refl

visited_behind : (step coset : ℕ) (items : List (Bor ℕ)) (seen : Bool)
    → fold (seen_by step coset) seen items
    ≡ (seen || among (visited_cosets step (map (λ (j : Bor ℕ). j.now) items)) coset)
unfolding among
visited_behind step coset [] seen = or_false seen
visited_behind step coset (j ∷ items) seen =
    visited_behind step coset items (seen_by step coset seen j)
    ∙ or_or seen (eqb (j.now / 2 ^ step) coset) (among (visited_cosets step (map (λ (j : Bor ℕ). j.now) items)) coset)

pub visited : (step coset : ℕ) (items : List (Bor ℕ)) (queries : List ℕ) → map (λ (j : Bor ℕ). j.now) items ≡ queries
    → fold (seen_by step coset) false items ≡ among (visited_cosets step queries) coset
visited step coset items queries e =
    visited_behind step coset items false ∙ ap (λ (q : List ℕ). among (visited_cosets step q) coset) e
