-- Newton's form over the points of a coset, one coefficient after the other. Assumes nothing.
use mathlib.Core.Path.{◌≡◌, sym, ap, ap₂, ◌∙◌, subst}
use mathlib.Core.Logic.{◌≢◌}
use mathlib.Core.List.{List, [], ◌∷◌, ◌++◌}
use Prim.Native.Nat.{ℕ, zero, suc, ◌+◌, ◌^◌, ◌≤◌, ◌<◌}
use native.Mathlib.Nat.{le_of_lt}
use native.Mathlib.Numerals.{add-one}
use native.Mathlib.Omega.{arith}
use lib.ListN.{length, get_or, take}
use lib.Seq.{take-suc, length-take-le, take-length}
use lib.Bits.{bit_xor, xor_zero_r}
use Rattle.gf64.specs.Field.{IsElement, sum, product, inverse}
use Rattle.gf64.proofs.Ring.{product-zero_r}
use Rattle.poly.specs.Carrier.{gf64}
use Rattle.poly.specs.Polynomial.{All, Distinct}
use Rattle.poly.specs.Newton.{newton_value, vanishing, newton_coefficient, newton_coefficients}
use Rattle.poly.proofs.AtField.{gf64_laws}
use Rattle.poly.proofs.Entries.{all_at, all_take}
use Rattle.poly.proofs.Filling.{filled, take_filled}
use Rattle.poly.proofs.Newton.{newton_split, vanishing-last, newton_coefficients-get_or, length-newton_coefficients}
use Rattle.poly.proofs.Newton.{vanishing_not_zero}
use Rattle.coset.specs.Coset.{points}
use Rattle.coset.proofs.Points.{points-elements, all_elements}

-- one point, one coefficient
single : (x c z : ℕ) → newton_value gf64 (x ∷ []) (c ∷ []) z ≡ c
unfolding newton_value
single x c z = ap (bit_xor c) (product-zero_r (bit_xor z x)) ∙ xor_zero_r c

one_more : (l : List ℕ) (j : ℕ) → j < length l → take (j + 1) l ≡ take j l ++ (get_or l j 0 ∷ [])
one_more l j h = ap (λ (n : ℕ). take n l) (add-one j) ∙ take-suc l j 0 h

-- coefficient j adds its multiple of the vanishing
pub value_next : (points known : List ℕ) (j z v w : ℕ) → j < length points → j < length known
    → IsElement (get_or known j 0)
    → v ≡ newton_value gf64 (take j points) (take j known) z → w ≡ vanishing gf64 (take j points) z
    → sum v (product w (get_or known j 0)) ≡ newton_value gf64 (take (j + 1) points) (take (j + 1) known) z
value_next points known j z v w hp hk e ev ew =
    ap₂ (λ (a b : ℕ). sum a (product b c)) ev ew
    ∙ ap (λ (s : ℕ). sum (newton_value gf64 (take j points) (take j known) z)
    (product (vanishing gf64 (take j points) z) s)) (sym (single x c z))
    ∙ sym
    (ap₂ (λ (ps cs : List ℕ). newton_value gf64 ps cs z) (one_more points j hp) (one_more known j hk)
    ∙ newton_split gf64 IsElement gf64_laws (take j points) (take j known) (x ∷ []) (c ∷ []) z
    (length-take-le j points (le_of_lt hp) ∙ sym (length-take-le j known (le_of_lt hk)))
    (subst IsElement (sym (single x c z)) e))
  where
    x : ℕ
    x = get_or points j 0

    c : ℕ
    c = get_or known j 0

-- point j multiplies the vanishing by its difference from z
pub vanishing_next : (points : List ℕ) (j z w : ℕ) → j < length points → w ≡ vanishing gf64 (take j points) z
    → product w (sum z (get_or points j 0)) ≡ vanishing gf64 (take (j + 1) points) z
vanishing_next points j z w h e =
    ap (λ (s : ℕ). product s (sum z (get_or points j 0))) e
    ∙ sym (ap (λ (ps : List ℕ). vanishing gf64 ps z) (one_more points j h)
    ∙ vanishing-last gf64 IsElement gf64_laws (take j points) (get_or points j 0) z)

-- all known coefficients are used
pub coefficient_end : (points known : List ℕ) (j z y v w : ℕ) → j ≤ length known → length known ≤ j
    → v ≡ newton_value gf64 (take j points) (take j known) z → w ≡ vanishing gf64 (take j points) z
    → product (sum y v) (inverse w) ≡ newton_coefficient gf64 (take (length known) points) known z y
unfolding newton_coefficient
coefficient_end points known j z y v w l m ev ew =
    ap₂ (λ (a b : ℕ). product (sum y a) (inverse b))
    (ev ∙ ap₂ (λ (n : ℕ) (cs : List ℕ). newton_value gf64 (take n points) cs z) all
    (ap (λ (n : ℕ). take n known) all ∙ take-length known))
    (ew ∙ ap (λ (n : ℕ). vanishing gf64 (take n points) z) all)
  where
    all : j ≡ length known
    all = omega arith

-- ---- the list of coefficients

module _ (points word held now : List ℕ) (i z y : ℕ) (same : length points ≡ length word)
    (as_many : length held ≡ length points)
    (inside : i < length held) (at : z ≡ get_or points i 0) (value : y ≡ get_or word i 0)
    (inv : now ≡ filled (newton_coefficients gf64 points word) held i) where
  target_length : length (newton_coefficients gf64 points word) ≡ length held
  target_length = length-newton_coefficients gf64 points word same ∙ sym as_many

  known : take i now ≡ take i (newton_coefficients gf64 points word)
  known = ap (take i) inv ∙ take_filled (newton_coefficients gf64 points word) held i (omega (arith, target_length))

  known_length : length (take i now) ≡ i
  known_length = ap length known ∙ length-take-le i (newton_coefficients gf64 points word) (omega (arith, target_length))

  pub coefficient_next : newton_coefficient gf64 (take (length (take i now)) points) (take i now) z y
      ≡ get_or (newton_coefficients gf64 points word) i 0
  coefficient_next =
      ap₂ (λ (n : ℕ) (cs : List ℕ). newton_coefficient gf64 (take n points) cs z y) known_length known
      ∙ ap₂ (newton_coefficient gf64 (take i points) (take i (newton_coefficients gf64 points word))) at value
      ∙ sym (newton_coefficients-get_or gf64 0 points word i same (omega arith))

-- ---- no point comes twice

none_before : (xs : List ℕ) (i : ℕ) → Distinct xs → i < length xs → All (λ x. get_or xs i 0 ≢ x) (take i xs)
none_before [] i d h = absurd (omega arith)
none_before (x ∷ xs) zero d h = record {}
none_before (x ∷ xs) (suc i) d h =
    (all_at (λ y. y ≢ x) xs i 0 d.0 (omega arith), none_before xs i d.1 (omega arith))

-- a point is none of those passed before it
pub none_passed : (xs : List ℕ) (i n z : ℕ) → Distinct xs → i < length xs → n ≡ i → z ≡ get_or xs i 0
    → All (λ x. z ≢ x) (take n xs)
none_passed xs i n z d h e ez =
    subst (λ (m : ℕ). All (λ x. z ≢ x) (take m xs)) (sym e)
    (subst (λ (y : ℕ). All (λ x. y ≢ x) (take i xs)) (sym ez) (none_before xs i d h))

-- so the vanishing polynomial of the points passed is not zero at z
pub not_passed : (offset : ℕ) (basis : List ℕ) (j n z w : ℕ) → IsElement offset → IsElement z
    → ((i : ℕ) → get_or basis i 0 < 2 ^ 64) → j ≡ n → All (λ x. z ≢ x) (take n (points offset basis))
    → w ≡ vanishing gf64 (take j (points offset basis)) z → w ≢ 0
not_passed offset basis j n z w eo ez eb e apart h zero_here =
    vanishing_not_zero gf64 IsElement gf64_laws (take n (points offset basis)) z
    (all_take IsElement n (points offset basis) (points-elements offset basis eo (all_elements basis eb))) ez apart
    (ap (λ (m : ℕ). vanishing gf64 (take m (points offset basis)) z) (sym e) ∙ sym h ∙ zero_here)
