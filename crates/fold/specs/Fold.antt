-- The fold of a word over a coset, with a step and at a challenge. The dimension k is the length of the basis.
use Rattle.std.specs.Prelude.{List, ℕ, ◌*◌, ◌-◌, ◌^◌, length, take, drop}
use Rattle.poly.specs.Carrier.{gf64}
use Rattle.poly.specs.Polynomial.{evaluate, interpolant}
use Rattle.coset.specs.Coset.{point, tabulated}

-- the points of coset j of the fold, document 01's term: the old points from j · 2^step on, 2^step of them
unfoldable pub coset_points : (step offset : ℕ) (basis : List ℕ) (j : ℕ) → List ℕ
coset_points step offset basis j = tabulated (point offset basis) (j * 2 ^ step) (2 ^ step)

-- the word's entries at the points of coset j
unfoldable pub coset_entries : (step : ℕ) (word : List ℕ) (j : ℕ) → List ℕ
coset_entries step word j = take (2 ^ step) (drop (j * 2 ^ step) word)

-- entry j of the fold: the value at the challenge of the one polynomial of degree below 2^step that agrees with the
-- word at the points of coset j, where the basis is independent; by `NextCosets` these are the points that q sends to
-- point j of the next coset
unfoldable pub fold_entry : (step offset : ℕ) (basis word : List ℕ) (challenge j : ℕ) → ℕ
fold_entry step offset basis word challenge j =
    evaluate gf64 (interpolant gf64 (coset_points step offset basis j) (coset_entries step word j)) challenge

-- the fold at the challenge: 2^(k - step) values, a word over the next coset
unfoldable pub folded : (step offset : ℕ) (basis word : List ℕ) (challenge : ℕ) → List ℕ
folded step offset basis word challenge =
    tabulated (fold_entry step offset basis word challenge) 0 (2 ^ (length basis - step))
