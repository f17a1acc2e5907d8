-- The values of the cosets one after the other are the fold, and so is one of them where a caller
-- reads it. Assumes nothing.
use mathlib.Core.Path.{◌≡◌, sym, ap, ap₂, ◌∙◌}
use mathlib.Core.List.{List, map}
use Prim.Native.Nat.{ℕ, ◌*◌, ◌-◌, ◌^◌, ◌<◌, ◌≤◌}
use native.Mathlib.Omega.{arith}
use lib.ListN.{length, take, drop, length-map, length-drop}
use lib.Seq.{length-take-le}
use lib.Bits.{xor_comm}
use Rattle.gf64.specs.Field.{IsElement, sum, inverse}
use Rattle.poly.specs.Carrier.{gf64}
use Rattle.poly.specs.Polynomial.{padded}
use Rattle.poly.proofs.Filling.{padded_taken}
use Rattle.poly.proofs.Parts.{mid_suffix}
use Rattle.coset.specs.Coset.{point, points, tabulated}
use Rattle.coset.specs.Steps.{step_elements}
use Rattle.coset.proofs.Points.{length-points, tabulated_agree}
use Rattle.coset.proofs.Dependence.{point_moved, points_moved}
use Rattle.coset.proofs.Subspace.{cosets_of}
use Rattle.fold.specs.Fold.{coset_entries, fold_entry, folded}
use Rattle.fold.specs.Halving.{value_at, coset_value, coset_values, CosetsFit}
use Rattle.fold.specs.Theorems.{IsWord}
use Rattle.fold.proofs.Lines.{entry_by_halving}

pub length_span : (step : ℕ) (basis : List ℕ) → step ≤ length basis → length (points 0 (take step basis)) ≡ 2 ^ step
length_span step basis h = length-points 0 (take step basis) ∙ ap (λ (n : ℕ). 2 ^ n) (length-take-le step basis h)

module _ (step offset : ℕ) (basis word : List ℕ) (x : ℕ) (w : IsWord offset basis word) (hx : IsElement x)
    (fits : step ≤ length basis) where
  abbrev inverses : List ℕ
  inverses = map inverse (step_elements step basis)

  abbrev span : List ℕ
  span = points 0 (take step basis)

  -- a coset's moved points are its first point, moved by the challenge, plus the span
  pub entry_of_moved : (j : ℕ) → j < 2 ^ (length basis - step)
      → value_at (map inverse (step_elements step basis))
      (map (sum (sum x (point offset (drop step basis) j))) (points 0 (take step basis))) (coset_entries step word j)
      ≡ fold_entry step offset basis word x j
  entry_of_moved j h =
      ap (λ (l : List ℕ). value_at inverses l (coset_entries step word j))
      (points_moved 0 (sum x first) (take step basis) ∙ ap (λ (o : ℕ). points o (take step basis)) (xor_comm x first))
      ∙ entry_by_halving step offset basis word x j w hx fits h
    where
      first : ℕ
      first = point offset (drop step basis) j

  value_is_entry : (j : ℕ) → j < 2 ^ (length basis - step)
      → coset_value inverses span (sum offset x) (drop step basis) word j ≡ fold_entry step offset basis word x j
  unfolding coset_value coset_entries
  value_is_entry j h =
      ap₂ (λ (m : ℕ) (l : List ℕ). value_at inverses (map (sum m) span) l) (point_moved offset x (drop step basis) j)
      (ap (λ (m : ℕ). take m (drop (j * m) word)) (length_span step basis fits))
      ∙ entry_of_moved j h

  values_are_fold : coset_values inverses span (sum offset x) (drop step basis) word ≡ folded step offset basis word x
  unfolding coset_values folded
  values_are_fold =
      ap (λ (n : ℕ). tabulated (coset_value inverses span (sum offset x) (drop step basis) word) 0 (2 ^ n))
      (length-drop step basis)
      ∙ tabulated_agree (coset_value inverses span (sum offset x) (drop step basis) word)
      (fold_entry step offset basis word x) 0 (2 ^ (length basis - step)) (λ j l u. value_is_entry j (omega arith))

-- what the code has of them, in arrays with zeros behind
pub record Ready (elements basis inverses span : List ℕ) (size : ℕ) : Type 0 where
  pub some : 1 ≤ length elements
  pub few : length elements ≤ 3
  pub fits : length elements ≤ length basis
  pub basis_fits : length basis ≤ 20
  pub elements_are : elements ≡ step_elements (length elements) basis
  pub inverted : inverses ≡ padded gf64 3 (map inverse elements)
  pub spanned : span ≡ padded gf64 8 (points 0 (take (length elements) basis))
  pub sized : size ≡ 2 ^ length elements

-- the basis from the step's place on, as it is lent
abbrev pub upper_of : List ℕ → List ℕ → List ℕ
upper_of elements basis = take (length basis - length elements) (drop (length elements) basis)

module _ {elements basis inverses span : List ℕ} {size : ℕ} (r : Ready elements basis inverses span size) where
  inverses_taken : take (length elements) inverses ≡ map inverse elements
  inverses_taken =
      padded_taken 3 (length elements) (map inverse elements) inverses r.inverted (length-map elements inverse)

  pub length_inverses_taken : length (take (length elements) inverses) ≡ length elements
  length_inverses_taken = ap length inverses_taken ∙ length-map elements inverse

  span_taken : take size span ≡ points 0 (take (length elements) basis)
  span_taken =
      padded_taken 8 size (points 0 (take (length elements) basis)) span r.spanned
      (length_span (length elements) basis r.fits ∙ sym r.sized)

  pub length_span_taken : length (take size span) ≡ 2 ^ length elements
  length_span_taken = ap length span_taken ∙ length_span (length elements) basis r.fits

  pub length_upper : length (upper_of elements basis) ≡ length basis - length elements
  length_upper = ap length (mid_suffix (length elements) basis) ∙ length-drop (length elements) basis

  pub cosets_fit : CosetsFit (take (length elements) inverses) (take size span) (upper_of elements basis)
  cosets_fit =
      record {
        some = omega (arith, length_inverses_taken, r.some);
        few = omega (arith, length_inverses_taken, r.few);
        span_fits = length_span_taken ∙ ap (λ (n : ℕ). 2 ^ n) (sym length_inverses_taken);
        upper_fits = omega (arith, length_upper, r.basis_fits);
      }

  -- as many entries as a word has over the basis
  pub entries_fit : 2 ^ length (upper_of elements basis) * length (take size span) ≡ 2 ^ length basis
  entries_fit =
      ap₂ (λ (m n : ℕ). 2 ^ m * n) length_upper length_span_taken ∙ cosets_of (length elements) (length basis) r.fits

  pub all_cosets : (offset : ℕ) (word : List ℕ) (x : ℕ) → IsWord offset basis word → IsElement x
      → coset_values (take (length elements) inverses) (take size span) (sum offset x) (upper_of elements basis) word
      ≡ folded (length elements) offset basis word x
  all_cosets offset word x w hx =
      ap (λ (is : List ℕ). coset_values is (take size span) (sum offset x) (upper_of elements basis) word)
      (inverses_taken ∙ ap (map inverse) r.elements_are)
      ∙ ap₂ (λ (sp others : List ℕ). coset_values (map inverse (step_elements (length elements) basis)) sp
      (sum offset x) others word) span_taken (mid_suffix (length elements) basis)
      ∙ values_are_fold (length elements) offset basis word x w hx r.fits
