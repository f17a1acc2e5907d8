-- The run of a call and the prover's input: the checks of the one are what is known of the other, and their honest
-- layers are the same. Assumes nothing.
use mathlib.Core.Path.{◌≡◌, refl, sym, ap, ap₂, ◌∙◌, subst}
use mathlib.Core.List.{List, ◌++◌}
use Prim.Native.Nat.{ℕ, zero, suc, ◌*◌, ◌-◌, ◌%◌, ◌^◌, ◌≤◌, ◌<◌}
use native.Mathlib.Nat.{le_trans, le_of_eq}
use native.Mathlib.Omega.{arith}
use lib.Pow.{pow_mono}
use lib.ListN.{length, take}
use Rattle.std.specs.Prelude.{Ok}
use Rattle.refusal.specs.Outcome.{Outcome}
use Rattle.refusal.specs.Checks.{afterwards}
use Rattle.reed_solomon.specs.Codes.{interpolated}
use Rattle.fri.specs.Layout.{dimension, last_count, joined_layers}
use Rattle.fri.specs.Run.{Run, steps_in, rounds_in}
use Rattle.fri.specs.Layers.{basis_in, offset_in, fold_of, honest_layer, honest_store, last_interpolant, honest_last}
use Rattle.fri.specs.Checks.{run_outcome}
use Rattle.fri.specs.Prover.{degree_outcome}
use Rattle.fri.proofs.Checks.{run_valid}
use Rattle.fri.proofs.Layouts.{length_steps}
use Rattle.fri.proofs.Layers.{layouts}
use Rattle.layout.specs.declared.Parameters.{Parameters}
use Rattle.layout.specs.declared.Claim.{Claim}
use Rattle.layout.specs.Parameters.{steps_by, Valid, run_claimed}
use Rattle.layout.proofs.Sizes.{last_count_is, dimension_most}
use Rattle.prover.specs.Last.{last_outcome, last_coefficients}
use Rattle.layer_cosets.specs.declared.LayerCoset.{LayerCoset}
use Rattle.points.specs.declared.Coset.{Coset}
use Rattle.field.specs.declared.Element.{Element}
use Rattle.fri.proofs.Cosets.{length_basis}
use Rattle.coset.proofs.Sizes.{size_shifted}
use Rattle.honest_layers.specs.Input.{input_of, Passed, coset_in}

-- ---- layer r is small

pub last_size : (p : Parameters) → Valid p → 2 ^ dimension p.k (steps_by p) (length (steps_by p)) ≤ 256
last_size p v =
    subst (λ (r : ℕ). 2 ^ dimension p.k (steps_by p) r ≤ 256) (sym (length_steps p.k p.rate p.step))
    (layouts.few_points p.k p.rate p.step v)

-- the room for it, as the code computes its size
module _ (p : Parameters) (v : Valid p) (dim : ℕ)
    (is : dim ≡ dimension p.k (steps_by p) (length (steps_by p))) where
  pub small : dim < 64
  small = omega (arith, is, dimension_most p v (length (steps_by p)))

  pub room_size : 1 * 2 ^ dim % 2 ^ 64 ≡ 2 ^ dimension p.k (steps_by p) (length (steps_by p))
  room_size = size_shifted dim small ∙ ap (λ (n : ℕ). 2 ^ n) is

  pub room_fits : 1 * 2 ^ dim % 2 ^ 64 ≤ 256
  room_fits = le_trans (le_of_eq room_size) (last_size p v)

-- there are no more last coefficients than layer r has entries
pub coefficients_fit : (p : Parameters)
    → last_count p.k p.rate (steps_by p) ≤ 2 ^ dimension p.k (steps_by p) (length (steps_by p))
coefficients_fit p =
    let n = dimension p.k (steps_by p) (length (steps_by p)) in
    le_trans (le_of_eq (sym (last_count_is p.k p.rate (steps_by p))))
    (pow_mono {i = n - p.rate} {j = n} (omega arith))

-- ---- the two runs

module _ (claim : Claim) (store last : List ℕ) where
  abbrev called : Run
  called = run_claimed claim store last

  abbrev given : Run
  given = input_of claim

  abbrev d : ℕ
  d = last_count called.k called.rate (steps_in called)

  abbrev r : ℕ
  r = rounds_in called

  module _ (done : run_outcome called ≡ Ok tt) where
    pub input_passed : (room : ℕ) → room ≡ 2 ^ dimension given.k (steps_in given) (rounds_in given)
        → Passed claim (length store) room
    input_passed room e =
        let facts = run_valid called done in
        record {
          claim_fits = record { parameters = facts.0; basis = facts.1.basis; challenges = facts.1.challenges };
          word = facts.1.word;
          store = facts.1.store;
          last_fits = e;
          independent = facts.2;
        }

    pub last_counted : length called.last ≡ d
    last_counted = (run_valid called done).1.last

    pub coset_counted : (coset : LayerCoset) → coset ≡ coset_in given r
        → length coset.basis ≡ dimension called.k (steps_in called) r
    coset_counted coset is =
        ap (λ (c : LayerCoset). length c.basis) is
        ∙ length_basis called.k (steps_in called) called.basis (run_valid called done).1.basis r

  same_layer : (i : ℕ) → honest_layer given i ≡ honest_layer called i
  unfolding honest_layer fold_of
  same_layer zero = refl
  same_layer (suc i) = ap (fold_of called i) (same_layer i)

  same_joined : (n : ℕ) → joined_layers (honest_layer given) n ≡ joined_layers (honest_layer called) n
  unfolding joined_layers
  same_joined zero = refl
  same_joined (suc n) = ap₂ {B = List ℕ} (λ (front layer : List ℕ). front ++ layer) (same_joined n) (same_layer (suc n))

  pub same_store : honest_store given ≡ honest_store called
  unfolding honest_store
  same_store = same_joined (r - 1)

  -- what is interpolated is layer r, over its coset
  pub interpolant_is : (here : Coset) (coset : LayerCoset)
      → (here.offset ≡ coset.offset) × (here.basis.now ≡ coset.basis)
      → coset ≡ coset_in given r → (layer : List ℕ) → layer ≡ honest_layer given r
      → interpolated here.offset.0 here.basis.now layer ≡ last_interpolant called
  unfolding last_interpolant
  interpolant_is here coset same is layer l =
      ap₂ (λ (o : Element) (b : List ℕ). interpolated o.0 b layer) same.0 same.1
      ∙ ap (λ (c : LayerCoset). interpolated c.offset.0 c.basis layer) is
      ∙ ap (interpolated (offset_in called r) (basis_in called r)) (l ∙ same_layer r)

  -- the degree check of a run is that of its interpolant
  module _ (interpolant : List ℕ) (is : interpolant ≡ last_interpolant called)
      (counted : length called.last ≡ d) where
    pub degree_answered : last_outcome interpolant (length called.last) ≡ degree_outcome called
    degree_answered = ap₂ last_outcome is counted

    pub degree_holds : last_coefficients interpolant called.last
        ≡ afterwards (degree_outcome called) (honest_last called) called.last
    unfolding honest_last
    degree_holds =
        ap₂ (λ (o : Outcome) (l : List ℕ). afterwards o l called.last) degree_answered
        (ap₂ (λ (n : ℕ) (l : List ℕ). take n l) counted is)
