-- Demand 3 over the definitions: every honest run of a word of low degree is accepted, with valid queries of which no
-- two share a first-layer coset; and what holds of the layers where the accepted judgings of them together visit every
-- first-layer coset.
-- proofs/Completeness.antt has a value of the first half, proofs/Soundness.antt of the second.
use Rattle.std.specs.Prelude.{◌≡◌, ◌≢◌, ◌⊎◌, List, [], ◌∷◌, ℕ, suc, ◌+◌, ◌*◌, ◌-◌, ◌/◌, ◌^◌, ◌≤◌, ◌<◌, length}
use Rattle.gf64.specs.Field.{IsElement}
use Rattle.poly.specs.Polynomial.{All, Distinct}
use Rattle.std.specs.Prelude.{Ok}
use Rattle.refusal.specs.Numbers.{number_of_outcome}
use Rattle.coset.specs.Span.{Independent}
use Rattle.reed_solomon.specs.Codes.{encoded, WordDegreeBelow}
use Rattle.fold.specs.Exceptional.{Exceptional}
use Rattle.fri.specs.Layout.{dimension, last_count, store_length}
use Rattle.fri.specs.Run.{Run, steps_in, rounds_in, step_in, challenge_in, layer_in}
use Rattle.fri.specs.Layers.{basis_in, offset_in, fold_of, honest_store, honest_last, honest}
use Rattle.fri.specs.Checks.{visited_cosets}
use Rattle.fri.specs.Judge.{verdict_of}
use Rattle.fri.specs.Prover.{prove_outcome, store_after, last_after}

-- parameters in the ranges of document 01
pub record ValidParameters (k rate step : ℕ) : Type 0 where
  pub k_least : 2 ≤ k
  pub k_most : k ≤ 20
  pub rate_least : 1 ≤ rate
  pub rate_most : rate ≤ 6
  pub step_least : 1 ≤ step
  pub step_most : step ≤ 3
  pub k_enough : rate + step ≤ k

-- parameters in range, and a coset: any offset, a basis of k independent elements
pub record ValidCoset (run : Run) : Type 0 where
  pub parameters : ValidParameters run.k run.rate run.step
  pub offset_element : IsElement run.offset
  pub basis_elements : All IsElement run.basis
  pub basis_count : length run.basis ≡ run.k
  pub independent : Independent run.basis

-- a word over the coset and a challenge for each round, any elements
pub record ProverInput (run : Run) : Type 0 where
  pub word_elements : All IsElement run.word
  pub word_count : length run.word ≡ 2 ^ run.k
  pub challenges_elements : All IsElement run.challenges
  pub challenges_count : length run.challenges ≡ rounds_in run

-- the word's degree is below 2^(k - R)
abbrev pub LowDegree : (run : Run) → Type 0
LowDegree run = WordDegreeBelow (2 ^ (run.k - run.rate)) run.offset run.basis run.word

-- 1 to 256 indices below 2^k
pub record ValidQueries (k : ℕ) (queries : List ℕ) : Type 0 where
  pub least : 1 ≤ length queries
  pub most : length queries ≤ 256
  pub within : All (λ j. j < 2 ^ k) queries

-- no two queries share a first-layer coset; `first_step` is the step of round 0
abbrev pub Apart : (first_step : ℕ) (queries : List ℕ) → Type 0
Apart first_step queries = Distinct (visited_cosets first_step queries)

-- P holds of some entry
abbrev pub Any : {A : Type 0} (P : A → Type 0) (xs : List A) → Type 0
Any P [] = ⊥
Any P (x ∷ xs) = P x ⊎ Any P xs

-- the judging with this query list is accepted
abbrev pub Accepted : (run : Run) (queries : List ℕ) → Type 0
Accepted run queries = (verdict_of run queries).answer ≡ Ok tt

-- document 01's own term: a query list visits the first-layer cosets that hold the points of its indices;
-- coset j / 2^η holds point j, by `NextCosets`, and the step of round 0 is η
abbrev pub Visits : (run : Run) (queries : List ℕ) (coset : ℕ) → Type 0
Visits run queries coset = Any (λ j. j / 2 ^ step_in run 0 ≡ coset) queries

-- the accepted ones of the query lists together visit every first-layer coset
abbrev pub Covered : (run : Run) (query_lists : List (List ℕ)) → Type 0
Covered run query_lists =
    (coset : ℕ) → coset < 2 ^ (run.k - step_in run 0)
    → Any (λ queries. Accepted run queries × Visits run queries coset) query_lists

-- demand 3, first half: every honest run of a word of low degree is accepted with every valid query list in which no
-- two queries share a first-layer coset, and queries · r · 2^η entries are read
abbrev pub Completeness : Type 0
Completeness =
    (run : Run) (queries : List ℕ) → ValidCoset run → ProverInput run → LowDegree run
    → ValidQueries run.k queries → Apart (step_in run 0) queries
    → verdict_of (honest run) queries
    ≡ record { answer = Ok tt; reads = length queries * rounds_in run * 2 ^ run.step }

-- all numbers of a run are 64-bit numbers; nothing is said of lengths
pub record Elements (run : Run) : Type 0 where
  pub offset : IsElement run.offset
  pub basis : All IsElement run.basis
  pub challenges : All IsElement run.challenges
  pub word : All IsElement run.word
  pub store : All IsElement run.store
  pub last : All IsElement run.last

-- x lies in the exceptional set of layer i as it was sent
abbrev pub ExceptionalIn : (run : Run) (i x : ℕ) → Type 0
ExceptionalIn run i x = Exceptional run.rate (step_in run i) (offset_in run i) (basis_in run i) (layer_in run i) x

-- layer i's exceptional set has at most 2^η - 1 elements, η the step of round i: no list of different ones is longer
abbrev pub FewExceptionalIn : (run : Run) (i : ℕ) → Type 0
FewExceptionalIn run i =
    (xs : List ℕ) → All (ExceptionalIn run i) xs → Distinct xs → length xs ≤ 2 ^ step_in run i - 1

-- what is claimed together of the layers as they were sent
pub record Sound (run : Run) : Type 0 where
  -- there is a round
  pub some_round : 0 < rounds_in run
  -- layers 1 to r - 1 are the exact folds of those before them
  pub folds : (i : ℕ) → suc i < rounds_in run → layer_in run (suc i) ≡ fold_of run i (layer_in run i)
  -- the last fold has the values of the last polynomial at every point of layer r
  pub last : (i : ℕ) → suc i ≡ rounds_in run
      → fold_of run i (layer_in run i) ≡ encoded (offset_in run (rounds_in run)) (basis_in run (rounds_in run)) run.last
  -- the word has low degree, or some challenge lies in its layer's exceptional set
  pub degree : LowDegree run ⊎ ((i : ℕ) × (i < rounds_in run) × ExceptionalIn run i (challenge_in run i))
  -- which has at most 2^η - 1 elements in each layer
  pub few : (i : ℕ) → i < rounds_in run → FewExceptionalIn run i

-- demand 3, second half: one claim over any list of judgings of one and the same run, from anybody.
-- A judging writes nothing, so that each finds the run as the one before did; that parameters, basis and lengths are
-- valid follows from acceptance
abbrev pub Soundness : Type 0
Soundness = (run : Run) (query_lists : List (List ℕ)) → Elements run → Covered run query_lists → Sound run

-- the bound by itself: whatever layer i holds, and whatever the rest of the run, where parameters and basis are valid
abbrev pub FewExceptional : Type 0
FewExceptional =
    (run : Run) (i : ℕ) → ValidCoset run → i < rounds_in run
    → All IsElement (layer_in run i) → length (layer_in run i) ≡ 2 ^ dimension run.k (steps_in run) i
    → FewExceptionalIn run i

-- what goes with the two halves
pub record HonestProofs : Type 0 where
  -- the prover makes the honest run, where the two lent lists have the lengths due
  pub proves : (run : Run) → ValidCoset run → ProverInput run → LowDegree run
      → length run.store ≡ store_length run.k (steps_in run)
      → length run.last ≡ last_count run.k run.rate (steps_in run)
      → (prove_outcome run ≡ Ok tt) × (store_after run ≡ honest_store run) × (last_after run ≡ honest_last run)
  -- it never answers 12 on such a word
  pub never12 : (run : Run) → ValidCoset run → ProverInput run → LowDegree run → number_of_outcome (prove_outcome run) ≢ 12
  -- the second half is about something: an honest run has 64-bit numbers, and some query lists cover it
  pub covered : (run : Run) → ValidCoset run → ProverInput run → LowDegree run
      → Elements (honest run) × ((query_lists : List (List ℕ)) × Covered (honest run) query_lists)
