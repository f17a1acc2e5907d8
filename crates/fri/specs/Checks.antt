-- The checks of parameters, lists, basis and queries, in the order of documents 01 and 02.
use Rattle.std.specs.Prelude.{Bool, false, cond, ◌&&◌, ◌||◌, List, [], ◌∷◌, ◌++◌, map, ℕ, suc, ◌+◌, ◌/◌, ◌^◌, leb, ltb, eqb, length}
use Rattle.refusal.specs.declared.Cause.TheVariants.{DimensionOutOfRange, RateOutOfRange, StepOutOfRange}
use Rattle.refusal.specs.declared.Cause.TheVariants.{DimensionTooSmall, WrongLength}
use Rattle.refusal.specs.declared.Cause.TheVariants.{QueryCountOutOfRange, QueryOutOfRange, CosetShared}
use Rattle.refusal.specs.declared.Lent.TheVariants as lent
use Rattle.std.specs.Prelude.{Option, Some, None, Ok, Err}
use Rattle.refusal.specs.Outcome.{Outcome}
use Rattle.refusal.specs.Checks.{refused_unless, and_then}
use Rattle.coset.specs.Answers.{basis_outcome}
use Rattle.fri.specs.Layout.{last_count, store_length}
use Rattle.fri.specs.Run.{Run, steps_in, rounds_in}

-- the ranges: k 2..20 (number 4), R 1..6 (5), η 1..3 (6), k at least R + η (7)
abbrev pub parameters_outcome : (k rate step : ℕ) → Outcome
parameters_outcome k rate step =
    refused_unless (leb 2 k && leb k 20) DimensionOutOfRange
    (refused_unless (leb 1 rate && leb rate 6) RateOutOfRange
    (refused_unless (leb 1 step && leb step 3) StepOutOfRange
    (refused_unless (leb (rate + step) k) DimensionTooSmall
    (Ok tt))))

-- lists 1 to 5: the lowest one whose length is not the one due (13)
abbrev pub lengths_outcome : (run : Run) → Outcome
lengths_outcome run =
    refused_unless (eqb (length run.basis) run.k) (WrongLength lent.Basis)
    (refused_unless (eqb (length run.challenges) (rounds_in run)) (WrongLength lent.Challenges)
    (refused_unless (eqb (length run.word) (2 ^ run.k)) (WrongLength lent.Word)
    (refused_unless (eqb (length run.store) (store_length run.k (steps_in run))) (WrongLength lent.Store)
    (refused_unless (eqb (length run.last) (last_count run.k run.rate (steps_in run))) (WrongLength lent.Last)
    (Ok tt)))))

-- the checks that prover and judge have in common: 4, 5, 6, 7, 13, 8
abbrev pub run_outcome : (run : Run) → Outcome
run_outcome run =
    and_then (parameters_outcome run.k run.rate run.step)
    (and_then (lengths_outcome run) (basis_outcome run.basis))

-- the first query, its place counted from `place`, whose index is not below the size
unfoldable pub first_outside : (size : ℕ) (queries : List ℕ) (place : ℕ) → Option ℕ
first_outside size [] place = None
first_outside size (j ∷ queries) place = cond (ltb j size) (first_outside size queries (suc place)) (Some place)

-- a query outside is refused (10)
abbrev pub outcome_of_outside : (outside : Option ℕ) → Outcome
outcome_of_outside (Some query) = Err (QueryOutOfRange query)
outcome_of_outside None = Ok tt

-- x is one of the entries
unfoldable pub among : (entries : List ℕ) (x : ℕ) → Bool
among [] x = false
among (y ∷ entries) x = eqb y x || among entries x

-- the first of the entries that is one of those before it, `earlier` ones included;
-- the first entry has the place given
unfoldable pub first_repeated_after : (earlier entries : List ℕ) (place : ℕ) → Option ℕ
first_repeated_after earlier [] place = None
first_repeated_after earlier (x ∷ entries) place =
    cond (among earlier x) (Some place) (first_repeated_after (earlier ++ (x ∷ [])) entries (suc place))

-- the first-layer coset that each query visits, by its number: coset j / 2^η holds point j, where η, here `first_step`,
-- is the step of round 0
abbrev pub visited_cosets : (first_step : ℕ) (queries : List ℕ) → List ℕ
visited_cosets first_step queries = map (λ j. j / 2 ^ first_step) queries

-- the first place, from 0, whose query lies in the first-layer coset of an earlier one
unfoldable pub first_shared : (first_step : ℕ) (queries : List ℕ) → Option ℕ
first_shared first_step queries = first_repeated_after [] (visited_cosets first_step queries) 0

-- a query that shares a first-layer coset with an earlier one is refused (17)
abbrev pub outcome_of_shared : (shared : Option ℕ) → Outcome
outcome_of_shared (Some query) = Err (CosetShared query)
outcome_of_shared None = Ok tt

-- the indices of a query list: each below 2^k (10), then no two in one first-layer coset (17)
abbrev pub indices_outcome : (k first_step : ℕ) (queries : List ℕ) → Outcome
indices_outcome k first_step queries =
    and_then (outcome_of_outside (first_outside (2 ^ k) queries 0)) (outcome_of_shared (first_shared first_step queries))

-- a query list: 1 to 256 queries (9), then their indices
abbrev pub queries_outcome : (k first_step : ℕ) (queries : List ℕ) → Outcome
queries_outcome k first_step queries =
    refused_unless (leb 1 (length queries) && leb (length queries) 256) QueryCountOutOfRange
    (indices_outcome k first_step queries)
