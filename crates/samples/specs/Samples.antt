-- The forms of the samples, whose values the reference computes from document 01, and the tests that the
-- definitions give the same.
use Rattle.std.specs.Prelude.{Bool, true, false, ◌&&◌, List, [], ◌∷◌, ℕ, suc, eqb, length}
use Rattle.std.specs.Prelude.{Option, Some, None}
use Rattle.refusal.specs.Numbers.{number_of_outcome, place_of_outcome, round_of_outcome}
use Rattle.coset.specs.Coset.{tabulated}
use Rattle.fri.specs.Layout.{steps_of, dimension, last_count, layer_start, store_length, index_in}
use Rattle.fri.specs.Run.{Run}
use Rattle.fri.specs.Layers.{layer_basis, layer_offset}
use Rattle.fri.specs.Lookup.{layer_part}
use Rattle.fri.specs.Judge.{verdict_of}
use Rattle.fri.specs.Prover.{prove_outcome, store_after, last_after}

-- the test passes in every row
unfoldable pub every : {A : Type 0} (test : A → Bool) (rows : List A) → Bool
every test [] = true
every test (row ∷ rows) = test row && every test rows

-- two lists are the same
unfoldable pub same : (xs ys : List ℕ) → Bool
same [] [] = true
same [] (y ∷ ys) = false
same (x ∷ xs) [] = false
same (x ∷ xs) (y ∷ ys) = eqb x y && same xs ys

-- two positions are the same
abbrev pub same_position : (found due : Option ℕ) → Bool
same_position None None = true
same_position None (Some n) = false
same_position (Some m) None = false
same_position (Some m) (Some n) = eqb m n

-- parameters with r, d, the length of the store, the dimensions of layers 0 to r and where layers 1 to r - 1 begin
pub record LayoutSample : Type 0 where
  pub k : ℕ
  pub rate : ℕ
  pub step : ℕ
  pub rounds : ℕ
  pub last_count : ℕ
  pub store_length : ℕ
  pub dimensions : List ℕ
  pub starts : List ℕ

abbrev pub layout_agrees : (row : LayoutSample) → Bool
layout_agrees row =
    let steps = steps_of row.k row.rate row.step in
    eqb (length steps) row.rounds && eqb (last_count row.k row.rate steps) row.last_count
    && eqb (store_length row.k steps) row.store_length
    && same (tabulated (dimension row.k steps) 0 (suc row.rounds)) row.dimensions
    && same (tabulated (layer_start row.k steps) 1 (length row.starts)) row.starts
    && eqb (suc (length row.starts)) row.rounds

-- parameters and a query's index in layers 0 to r
pub record IndexSample : Type 0 where
  pub k : ℕ
  pub rate : ℕ
  pub step : ℕ
  pub query : ℕ
  pub indices : List ℕ

abbrev pub index_agrees : (row : IndexSample) → Bool
index_agrees row =
    let steps = steps_of row.k row.rate row.step in
    same (tabulated (index_in steps row.query) 0 (suc (length steps))) row.indices

-- parameters and a coset with the offsets and bases of layers 0 to r
pub record CosetSample : Type 0 where
  pub k : ℕ
  pub rate : ℕ
  pub step : ℕ
  pub offset : ℕ
  pub basis : List ℕ
  pub offsets : List ℕ
  pub bases : List (List ℕ)

-- the bases of layers i, i + 1, ..
unfoldable pub bases_agree : (steps basis : List ℕ) (i : ℕ) (bases : List (List ℕ)) → Bool
bases_agree steps basis i [] = true
bases_agree steps basis i (due ∷ others) = same (layer_basis steps basis i) due && bases_agree steps basis (suc i) others

abbrev pub coset_agrees : (row : CosetSample) → Bool
coset_agrees row =
    let steps = steps_of row.k row.rate row.step in
    same (tabulated (layer_offset steps row.offset row.basis) 0 (suc (length steps))) row.offsets
    && eqb (length row.bases) (suc (length steps)) && bases_agree steps row.basis 0 row.bases

-- a store and the part of it that the lookup of a layer hands back
pub record LookupSample : Type 0 where
  pub k : ℕ
  pub rate : ℕ
  pub step : ℕ
  pub store : List ℕ
  pub layer : ℕ
  pub part : List ℕ

abbrev pub lookup_agrees : (row : LookupSample) → Bool
lookup_agrees row = same (layer_part row.k row.rate row.step row.store row.layer) row.part

-- a judging with the number, place, round and reads of its verdict
pub record JudgedSample : Type 0 where
  pub run : Run
  pub queries : List ℕ
  pub number : ℕ
  pub place : Option ℕ
  pub round : Option ℕ
  pub reads : ℕ

abbrev pub judged_agrees : (row : JudgedSample) → Bool
judged_agrees row =
    let verdict = verdict_of row.run row.queries in
    eqb (number_of_outcome verdict.answer) row.number && same_position (place_of_outcome verdict.answer) row.place
    && same_position (round_of_outcome verdict.answer) row.round && eqb verdict.reads row.reads

-- a call of the prover with the number and place of its answer and what the two lent lists hold afterwards
pub record ProvedSample : Type 0 where
  pub run : Run
  pub number : ℕ
  pub place : Option ℕ
  pub store : List ℕ
  pub last : List ℕ

abbrev pub proved_agrees : (row : ProvedSample) → Bool
proved_agrees row =
    eqb (number_of_outcome (prove_outcome row.run)) row.number
    && same_position (place_of_outcome (prove_outcome row.run)) row.place
    && same (store_after row.run) row.store && same (last_after row.run) row.last
