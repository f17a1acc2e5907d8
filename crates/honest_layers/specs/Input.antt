-- What the prover works on after the checks: the run of a claim without what the two lent lists held, since honest
-- layers do not depend on that.
use Rattle.std.specs.Prelude.{◌≡◌, List, [], ℕ, suc, ◌^◌, ◌≤◌, length, take}
use Rattle.coset.specs.Span.{Independent}
use Rattle.fri.specs.Layout.{dimension, layer_start, store_length, joined_layers}
use Rattle.fri.specs.Run.{Run, steps_in, rounds_in}
use Rattle.fri.specs.Layers.{basis_in, offset_in, honest_layer}
use Rattle.fri.specs.Demand.{ValidParameters}
use Rattle.layout.specs.declared.Claim.{Claim}
use Rattle.layout.specs.Parameters.{run_claimed}
use Rattle.layer_cosets.specs.declared.LayerCoset.{LayerCoset}
use Rattle.layer_cosets.specs.Cosets.{layer_coset_of}

-- the run of a prover, with empty lists in the place of the lent ones
abbrev pub input_of : (claim : Claim) → Run
input_of claim = run_claimed claim [] []

-- the coset of layer i, by value
abbrev pub coset_in : (run : Run) (i : ℕ) → LayerCoset
coset_in run i = layer_coset_of (offset_in run i) (basis_in run i)

module _ (claim : Claim) where
  abbrev run : Run
  run = input_of claim

  -- what is known of a claim after the checks
  pub record Sound : Type 0 where
    pub parameters : ValidParameters run.k run.rate run.step
    pub basis : length run.basis ≡ run.k
    pub challenges : length run.challenges ≡ rounds_in run

  -- and of the number of entries in the store, and in the list for layer r
  pub record Passed (stored last : ℕ) : Type 0 where
    pub claim_fits : Sound
    pub word : length run.word ≡ 2 ^ run.k
    pub store : stored ≡ store_length run.k (steps_in run)
    pub last_fits : last ≡ 2 ^ dimension run.k (steps_in run) (rounds_in run)
    pub independent : Independent run.basis

  -- layers 1 to i, i < r, joined, and the coset of layer i
  pub record Joined (i offset : ℕ) (basis joined : List ℕ) : Type 0 where
    pub claim_fits : Sound
    pub word : length run.word ≡ 2 ^ run.k
    pub round : suc i ≤ rounds_in run
    pub offset_is : offset ≡ offset_in run i
    pub basis_is : basis ≡ basis_in run i
    pub joined_is : joined ≡ joined_layers (honest_layer run) i

  -- and where they stand in front of the store, layer i + 1 due from `start` on
  pub record Filled (i offset : ℕ) (basis : List ℕ) (start : ℕ) (store : List ℕ) : Type 0 where
    pub joined : Joined i offset basis (take start store)
    pub start_is : start ≡ layer_start run.k (steps_in run) (suc i)
    pub store_fits : length store ≡ store_length run.k (steps_in run)
