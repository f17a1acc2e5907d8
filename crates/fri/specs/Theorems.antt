-- What is proved of the definitions besides demand 3 and Table A, as statements; Layers, Lookups, Refusals,
-- RoundChecks and Provers of proofs/ have the values.
use Rattle.std.specs.Prelude.{◌≡◌, ◌≢◌, ◌⊎◌, ◌↔◌, List, [], ℕ, suc, ◌+◌, ◌*◌, ◌-◌, ◌/◌, ◌^◌, ◌≤◌, ◌<◌, min, length, get_or, take}
use Rattle.gf64.specs.Field.{IsElement}
use Rattle.poly.specs.Polynomial.{All, evaluate}
use Rattle.poly.specs.Degree.{degree_bound}
use Rattle.poly.specs.Carrier.{gf64}
use Rattle.reed_solomon.specs.Codes.{interpolated}
use Rattle.fold.specs.Fold.{folded}
use Rattle.refusal.specs.declared.Cause.{Cause}
use Rattle.refusal.specs.declared.Cause.TheVariants.{RoundCheckFails, DegreeTooLarge, CosetShared}
use Rattle.std.specs.Prelude.{Option, Some, None, Ok, Err}
use Rattle.refusal.specs.Numbers.{number_of, number_of_outcome, place_of_outcome, round_of_outcome}
use Rattle.coset.specs.Coset.{point}
use Rattle.coset.specs.Span.{first_dependent, Independent}
use Rattle.coset.specs.Subspace.{image}
use Rattle.fri.specs.declared.Verdict.{Verdict}
use Rattle.fri.specs.Layout.{rounds_of, steps_of, step_at, dimension, last_count}
use Rattle.fri.specs.Layout.{layer_start, store_length, stored_layer, index_in}
use Rattle.fri.specs.Run.{Run, steps_in, rounds_in, step_in, layer_in}
use Rattle.fri.specs.Layers.{layer_basis, basis_in, offset_in, fold_of, honest_layer, honest_store}
use Rattle.fri.specs.Layers.{last_interpolant, honest_last}
use Rattle.fri.specs.Checks.{run_outcome, first_outside, first_shared}
use Rattle.fri.specs.Lookup.{layer_part}
use Rattle.fri.specs.Judge.{checks_outcome, verdict_of}
use Rattle.fri.specs.Rounds.{value_computed, value_found}
use Rattle.fri.specs.Prover.{prove_outcome, store_after, last_after}
use Rattle.fri.specs.Demand.{ValidParameters, ValidCoset, ProverInput, ValidQueries, Apart, Accepted}

-- the layout of document 01's parameters: r steps of η
pub record Layouts : Type 0 where
  pub rounds : (k rate step : ℕ) → length (steps_of k rate step) ≡ rounds_of k rate step
  pub steps : (k rate step i : ℕ) → i < rounds_of k rate step → step_at (steps_of k rate step) i ≡ step
  -- layer i has dimension k - iη
  pub dimensions : (k rate step i : ℕ) → i ≤ rounds_of k rate step → dimension k (steps_of k rate step) i ≡ k - i * step
  -- d is 2^(k - R - rη)
  pub last-count : (k rate step : ℕ)
      → last_count k rate (steps_of k rate step) ≡ 2 ^ (k - rate - rounds_of k rate step * step)
  -- for valid parameters there is a round, layer r has at most 256 points and d is 1, 2 or 4
  pub some_round : (k rate step : ℕ) → ValidParameters k rate step → 1 ≤ rounds_of k rate step
  pub few_points : (k rate step : ℕ) → ValidParameters k rate step
      → 2 ^ dimension k (steps_of k rate step) (rounds_of k rate step) ≤ 256
  pub few_coefficients : (k rate step : ℕ) → ValidParameters k rate step
      → (last_count k rate (steps_of k rate step) ≡ 1) ⊎ (last_count k rate (steps_of k rate step) ≡ 2)
      ⊎ (last_count k rate (steps_of k rate step) ≡ 4)
  -- layer 1 begins the store, the next one begins where one ends, and the store ends where layer r would begin
  pub first_start : (k rate step : ℕ) → layer_start k (steps_of k rate step) 1 ≡ 0
  pub next_start : (k rate step i : ℕ) → 1 ≤ i → i < rounds_of k rate step
      → layer_start k (steps_of k rate step) (suc i) ≡ layer_start k (steps_of k rate step) i + 2 ^ (k - i * step)
  pub store_end : (k rate step : ℕ)
      → store_length k (steps_of k rate step) ≡ layer_start k (steps_of k rate step) (rounds_of k rate step)
  -- so that it is empty when r = 1
  pub empty_store : (k rate step : ℕ) → rounds_of k rate step ≡ 1 → store_length k (steps_of k rate step) ≡ 0
  -- a query at index j has index j / 2^(ηi) in layer i
  pub indices : (k rate step j i : ℕ) → i ≤ rounds_of k rate step
      → index_in (steps_of k rate step) j i ≡ j / 2 ^ (step * i)

-- the cosets of the layers
pub record LayerCosets : Type 0 where
  -- layer 0 has the coset that was sent
  pub first : (run : Run) → (offset_in run 0 ≡ run.offset) × (basis_in run 0 ≡ run.basis)
  pub dimensions : (run : Run) (i : ℕ) → ValidCoset run → i ≤ rounds_in run
      → length (basis_in run i) ≡ run.k - i * run.step
  pub independent : (run : Run) (i : ℕ) → ValidCoset run → Independent (basis_in run i)
  -- for every list of steps, whatever their number and size: a layer's basis is independent where the one before it is,
  -- and so all are where the first one is
  pub next_independent : (steps basis : List ℕ) (i : ℕ) → All IsElement basis
      → Independent (layer_basis steps basis i) → Independent (layer_basis steps basis (suc i))
  pub all_independent : (steps basis : List ℕ) (i : ℕ) → All IsElement basis → Independent basis
      → Independent (layer_basis steps basis i)
  -- point j of layer i + 1 is the image of the points of layer i from j · 2^η on, 2^η of them
  pub points : (run : Run) (i j t : ℕ) → ValidCoset run → i < rounds_in run → t < 2 ^ run.step
      → image run.step (basis_in run i) (point (offset_in run i) (basis_in run i) (j * 2 ^ run.step + t))
      ≡ point (offset_in run (suc i)) (basis_in run (suc i)) j

-- the honest layers and last coefficients, whatever the word's degree
pub record HonestLayers : Type 0 where
  -- round i folds with step η, over layer i's coset, at challenge i
  pub folds : (run : Run) (i : ℕ) (entries : List ℕ) → i < rounds_in run
      → fold_of run i entries ≡ folded run.step (offset_in run i) (basis_in run i) entries (get_or run.challenges i 0)
  pub word : (run : Run) → honest_layer run 0 ≡ run.word
  pub next : (run : Run) (i : ℕ) → honest_layer run (suc i) ≡ fold_of run i (honest_layer run i)
  -- the first d coefficients of layer r's interpolant
  pub interpolant : (run : Run)
      → last_interpolant run
      ≡ interpolated (offset_in run (rounds_in run)) (basis_in run (rounds_in run)) (honest_layer run (rounds_in run))
  pub last : (run : Run) → honest_last run ≡ take (last_count run.k run.rate (steps_in run)) (last_interpolant run)
  -- store and last coefficients have the lengths due
  pub counts : (run : Run) → ValidCoset run → ProverInput run
      → (length (honest_store run) ≡ store_length run.k (steps_in run))
      × (length (honest_last run) ≡ last_count run.k run.rate (steps_in run))
  pub elements : (run : Run) → ValidCoset run → ProverInput run
      → All IsElement (honest_store run) × All IsElement (honest_last run)

-- the layer lookup
pub record Lookups : Type 0 where
  -- layer i of the store, of as many entries as layer i has
  pub found : (k rate step : ℕ) (store : List ℕ) (i : ℕ) → ValidParameters k rate step → 1 ≤ i
      → i < rounds_of k rate step
      → length store ≡ store_length k (steps_of k rate step)
      → (layer_part k rate step store i ≡ stored_layer k (steps_of k rate step) store i)
      × (length (layer_part k rate step store i) ≡ 2 ^ (k - i * step))
  -- entry t of layer i is entry t from where layer i begins
  pub entries : (k rate step : ℕ) (store : List ℕ) (i t : ℕ) → ValidParameters k rate step → 1 ≤ i
      → i < rounds_of k rate step
      → length store ≡ store_length k (steps_of k rate step) → t < 2 ^ (k - i * step)
      → get_or (layer_part k rate step store i) t 0 ≡ get_or store (layer_start k (steps_of k rate step) i + t) 0
  -- the empty part for bad parameters, another i or a store of another length
  pub bad_parameters : (k rate step : ℕ) (store : List ℕ) (i : ℕ) → (ValidParameters k rate step → ⊥)
      → layer_part k rate step store i ≡ []
  pub other_layer : (k rate step : ℕ) (store : List ℕ) (i : ℕ) → (i < 1) ⊎ (rounds_of k rate step ≤ i)
      → layer_part k rate step store i ≡ []
  pub other_length : (k rate step : ℕ) (store : List ℕ) (i : ℕ) → length store ≢ store_length k (steps_of k rate step)
      → layer_part k rate step store i ≡ []
  -- each layer of the honest store is the honest layer
  pub of_honest : (run : Run) (i : ℕ) → ValidCoset run → length run.word ≡ 2 ^ run.k → 1 ≤ i → i < rounds_in run
      → layer_part run.k run.rate run.step (honest_store run) i ≡ honest_layer run i

-- the layers as they were sent, which the judge reads: the word, and what the lookup hands back of the store
pub record SentLayers : Type 0 where
  pub word : (run : Run) → layer_in run 0 ≡ run.word
  pub stored : (run : Run) (i : ℕ) → ValidParameters run.k run.rate run.step → 1 ≤ i → i < rounds_in run
      → length run.store ≡ store_length run.k (steps_in run)
      → layer_in run i ≡ layer_part run.k run.rate run.step run.store i

-- the lists have the lengths due
pub record Fit (run : Run) : Type 0 where
  pub basis : length run.basis ≡ run.k
  pub challenges : length run.challenges ≡ rounds_in run
  pub word : length run.word ≡ 2 ^ run.k
  pub store : length run.store ≡ store_length run.k (steps_in run)
  pub last : length run.last ≡ last_count run.k run.rate (steps_in run)

-- the checks that prover and judge have in common, and those of the queries, pass exactly where parameters, lists,
-- basis and queries are valid, and no two queries share a first-layer coset
pub record Passing : Type 0 where
  pub common : (run : Run)
      → (run_outcome run ≡ Ok tt)
      ↔ (ValidParameters run.k run.rate run.step × Fit run × Independent run.basis)
  pub all : (run : Run) (queries : List ℕ)
      → (checks_outcome run queries ≡ Ok tt)
      ↔ ((run_outcome run ≡ Ok tt) × ValidQueries run.k queries × Apart (step_in run 0) queries)

-- a verdict's number, place, round and reads
abbrev pub Tells : (verdict : Verdict) (number : ℕ) (place round : Option ℕ) (reads : ℕ) → Type 0
Tells verdict number place round reads =
    (number_of_outcome verdict.answer ≡ number) × (place_of_outcome verdict.answer ≡ place)
    × (round_of_outcome verdict.answer ≡ round) × (verdict.reads ≡ reads)

-- prover and judge both refuse with this number and place: nothing is read, whatever the queries,
-- and both lent lists are left as they were
abbrev pub BothRefuse : (run : Run) (number : ℕ) (place : Option ℕ) → Type 0
BothRefuse run number place =
    ((queries : List ℕ) → Tells (verdict_of run queries) number place None 0)
    × (number_of_outcome (prove_outcome run) ≡ number) × (place_of_outcome (prove_outcome run) ≡ place)
    × (round_of_outcome (prove_outcome run) ≡ None)
    × (store_after run ≡ run.store) × (last_after run ≡ run.last)

-- the refusals before the round checks, by the first check that fails
pub record Refusals : Type 0 where
  pub dimension : (run : Run) → (run.k < 2) ⊎ (20 < run.k) → BothRefuse run 4 None
  pub rate : (run : Run) → 2 ≤ run.k → run.k ≤ 20 → (run.rate < 1) ⊎ (6 < run.rate) → BothRefuse run 5 None
  pub step : (run : Run) → 2 ≤ run.k → run.k ≤ 20 → 1 ≤ run.rate → run.rate ≤ 6 → (run.step < 1) ⊎ (3 < run.step)
      → BothRefuse run 6 None
  pub too_small : (run : Run) → 2 ≤ run.k → run.k ≤ 20 → 1 ≤ run.rate → run.rate ≤ 6 → 1 ≤ run.step → run.step ≤ 3
      → run.k < run.rate + run.step
      → BothRefuse run 7 None
  pub list1 : (run : Run) → ValidParameters run.k run.rate run.step → length run.basis ≢ run.k
      → BothRefuse run 13 (Some 1)
  pub list2 : (run : Run) → ValidParameters run.k run.rate run.step → length run.basis ≡ run.k
      → length run.challenges ≢ rounds_in run → BothRefuse run 13 (Some 2)
  pub list3 : (run : Run) → ValidParameters run.k run.rate run.step → length run.basis ≡ run.k
      → length run.challenges ≡ rounds_in run → length run.word ≢ 2 ^ run.k → BothRefuse run 13 (Some 3)
  pub list4 : (run : Run) → ValidParameters run.k run.rate run.step → length run.basis ≡ run.k
      → length run.challenges ≡ rounds_in run → length run.word ≡ 2 ^ run.k
      → length run.store ≢ store_length run.k (steps_in run) → BothRefuse run 13 (Some 4)
  pub list5 : (run : Run) → ValidParameters run.k run.rate run.step → length run.basis ≡ run.k
      → length run.challenges ≡ rounds_in run → length run.word ≡ 2 ^ run.k
      → length run.store ≡ store_length run.k (steps_in run)
      → length run.last ≢ last_count run.k run.rate (steps_in run) → BothRefuse run 13 (Some 5)
  pub dependent : (run : Run) (place : ℕ) → ValidParameters run.k run.rate run.step → Fit run
      → first_dependent run.basis ≡ Some place
      → BothRefuse run 8 (Some place)
  -- the judge alone
  pub query_count : (run : Run) (queries : List ℕ) → run_outcome run ≡ Ok tt
      → (length queries < 1) ⊎ (256 < length queries)
      → Tells (verdict_of run queries) 9 None None 0
  pub query_outside : (run : Run) (queries : List ℕ) (query : ℕ) → run_outcome run ≡ Ok tt → 1 ≤ length queries
      → length queries ≤ 256
      → first_outside (2 ^ run.k) queries 0 ≡ Some query → Tells (verdict_of run queries) 10 (Some query) None 0
  -- which is the first query whose index is not below 2^k
  pub first-outside : (size : ℕ) (queries : List ℕ) (query : ℕ) → first_outside size queries 0 ≡ Some query
      → (query < length queries) × (size ≤ get_or queries query 0) × ((t : ℕ) → t < query → get_or queries t 0 < size)
  -- `SharedCosets` says which query that is
  pub query_shared : (run : Run) (queries : List ℕ) (query : ℕ) → run_outcome run ≡ Ok tt → ValidQueries run.k queries
      → first_shared (step_in run 0) queries ≡ Some query → Tells (verdict_of run queries) 17 (Some query) None 0

-- all checks of the run and of its queries pass but the last: this query is the first that shares a first-layer coset
-- with an earlier one
abbrev pub SharedAt : (run : Run) (queries : List ℕ) (query : ℕ) → Type 0
SharedAt run queries query =
    (run_outcome run ≡ Ok tt) × ValidQueries run.k queries × (first_shared (step_in run 0) queries ≡ Some query)

-- queries that share a first-layer coset; `first_step` is the step of round 0
pub record SharedCosets : Type 0 where
  -- the place told is the first whose query lies in the first-layer coset of an earlier one
  pub found : (first_step : ℕ) (queries : List ℕ) (query : ℕ) → first_shared first_step queries ≡ Some query
      → (query < length queries)
      × ((t : ℕ) × (t < query) × (get_or queries t 0 / 2 ^ first_step ≡ get_or queries query 0 / 2 ^ first_step))
  pub earliest : (first_step : ℕ) (queries : List ℕ) (query : ℕ) → first_shared first_step queries ≡ Some query
      → (t u : ℕ) → t < u → u < query → get_or queries t 0 / 2 ^ first_step ≢ get_or queries u 0 / 2 ^ first_step
  -- none is told exactly where no two share one
  pub none : (first_step : ℕ) (queries : List ℕ) → (first_shared first_step queries ≡ None) ↔ Apart first_step queries
  -- 17 comes exactly where all other checks before the round checks pass and a place is told, in the checks and so in
  -- the judge's answer
  pub checks : (run : Run) (queries : List ℕ) (query : ℕ)
      → (checks_outcome run queries ≡ Err (CosetShared query)) ↔ SharedAt run queries query
  pub refused : (run : Run) (queries : List ℕ) (query : ℕ)
      → ((verdict_of run queries).answer ≡ Err (CosetShared query)) ↔ SharedAt run queries query
  -- no two queries of what is accepted share a coset: it visits as many as it has queries
  pub accepted : (run : Run) (queries : List ℕ) → Accepted run queries → Apart (step_in run 0) queries
  -- and there are 2^(k - η) first-layer cosets
  pub most : (k first_step : ℕ) (queries : List ℕ) → first_step ≤ k → ValidQueries k queries → Apart first_step queries
      → length queries ≤ 2 ^ (k - first_step)

-- every round check of a query at index j passes
abbrev pub PassesEveryRound : (run : Run) (j : ℕ) → Type 0
PassesEveryRound run j = (i : ℕ) → i < rounds_in run → value_computed run j i ≡ value_found run j i

-- the check of this query in this round fails, and all before it pass
pub record FailsFirst (run : Run) (queries : List ℕ) (query round : ℕ) : Type 0 where
  pub query_within : query < length queries
  pub round_within : round < rounds_in run
  pub fails : value_computed run (get_or queries query 0) round ≢ value_found run (get_or queries query 0) round
  pub rounds_before : (i : ℕ) → i < round
      → value_computed run (get_or queries query 0) i ≡ value_found run (get_or queries query 0) i
  pub queries_before : (t : ℕ) → t < query → PassesEveryRound run (get_or queries t 0)

-- the round checks
pub record RoundChecks : Type 0 where
  -- the value computed is the entry of layer i's fold at index j / 2^(η(i + 1)); the value found is the entry of layer
  -- i + 1 there or, in the last round, the last polynomial at that point of layer r
  pub computed : (run : Run) (j i : ℕ) → ValidCoset run → j < 2 ^ run.k → i < rounds_in run
      → value_computed run j i ≡ get_or (fold_of run i (layer_in run i)) (j / 2 ^ (run.step * suc i)) 0
  pub found : (run : Run) (j i : ℕ) → suc i < rounds_in run
      → value_found run j i ≡ get_or (layer_in run (suc i)) (j / 2 ^ (run.step * suc i)) 0
  pub found_last : (run : Run) (j i : ℕ) → suc i ≡ rounds_in run
      → value_found run j i
      ≡ evaluate gf64 run.last (point (offset_in run (suc i)) (basis_in run (suc i)) (j / 2 ^ (run.step * suc i)))
  -- accepted exactly where the checks before them pass and every query passes in every round
  pub accepted : (run : Run) (queries : List ℕ)
      → Accepted run queries
      ↔ ((checks_outcome run queries ≡ Ok tt) × ((t : ℕ) → t < length queries → PassesEveryRound run (get_or queries t 0)))
  -- refused by 11 exactly at the first check that fails, lowest query first, then lowest round
  pub refused : (run : Run) (queries : List ℕ) (query round : ℕ)
      → ((verdict_of run queries).answer ≡ Err (RoundCheckFails query round))
      ↔ ((checks_outcome run queries ≡ Ok tt) × FailsFirst run queries query round)

-- the verdict after the round checks, with document 01's two formulas for the entries read
pub record Reads : Type 0 where
  pub accepted : (run : Run) (queries : List ℕ) → Accepted run queries
      → Tells (verdict_of run queries) 0 None None (length queries * rounds_in run * 2 ^ run.step)
  pub refused : (run : Run) (queries : List ℕ) (query round : ℕ)
      → (verdict_of run queries).answer ≡ Err (RoundCheckFails query round)
      → Tells (verdict_of run queries) 11 (Some query) (Some round)
      (query * rounds_in run * 2 ^ run.step + min (round + 2) (rounds_in run) * 2 ^ run.step)
  -- other refusals read nothing
  pub others : (run : Run) (queries : List ℕ) (cause : Cause) → (verdict_of run queries).answer ≡ Err cause
      → number_of cause ≢ 11
      → (verdict_of run queries).reads ≡ 0

-- the prover
pub record ProverAnswers : Type 0 where
  -- done exactly where the checks before it pass and layer r has degree below d; both lists then hold the honest ones
  pub done : (run : Run) → (prove_outcome run ≡ Ok tt)
      ↔ ((run_outcome run ≡ Ok tt) × (degree_bound (last_interpolant run) ≤ last_count run.k run.rate (steps_in run)))
  pub holds : (run : Run) → prove_outcome run ≡ Ok tt
      → (store_after run ≡ honest_store run) × (last_after run ≡ honest_last run)
  -- refused by 12 exactly where they pass and layer r has that degree, d or more; the store then holds the honest
  -- folds, the last coefficients are left
  pub too_high : (run : Run) (degree : ℕ)
      → (prove_outcome run ≡ Err (DegreeTooLarge degree))
      ↔ ((run_outcome run ≡ Ok tt) × (degree_bound (last_interpolant run) ≡ suc degree)
      × (last_count run.k run.rate (steps_in run) ≤ degree))
  pub too_high_holds : (run : Run) (degree : ℕ) → prove_outcome run ≡ Err (DegreeTooLarge degree)
      → (store_after run ≡ honest_store run) × (last_after run ≡ run.last)

abbrev pub JudgeNumber : (n : ℕ) → Type 0
JudgeNumber n = (n ≡ 0) ⊎ ((4 ≤ n) × (n ≤ 11)) ⊎ (n ≡ 13) ⊎ (n ≡ 17)

abbrev pub ProverNumber : (n : ℕ) → Type 0
ProverNumber n = (n ≡ 0) ⊎ ((4 ≤ n) × (n ≤ 8)) ⊎ ((12 ≤ n) × (n ≤ 13))

-- no number is given otherwise
pub record OnlyNumbers : Type 0 where
  -- the judge: 0, 4 to 11, 13 and 17
  pub judge : (run : Run) (queries : List ℕ) → JudgeNumber (number_of_outcome (verdict_of run queries).answer)
  -- the prover: 0, 4 to 8, 12 and 13
  pub prover : (run : Run) → ProverNumber (number_of_outcome (prove_outcome run))
