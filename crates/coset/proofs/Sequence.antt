-- Points in sequence: point j + 1 is point j plus the sum of the first t + 1 basis elements,
-- where t counts the zeros at the end of j + 1. Assumes nothing.
use mathlib.Core.Path.{◌≡◌, refl, sym, ap, ap₂, ◌∙◌}
use mathlib.Core.List.{List, [], ◌∷◌}
use Prim.Native.Nat.{ℕ, zero, suc, ◌+◌, ◌*◌, ◌/◌, ◌%◌, ◌^◌, ◌<◌, ◌≤◌, min}
use native.Mathlib.Nat.{zero-mul, one-mul, pow-suc}
use native.Mathlib.Omega.{arith}
use lib.ListN.{length, get_or, take, length-take}
use lib.Seq.{get_or-take, take_all}
use native.Mathlib.Numerals.{add-one}
use lib.Count.{count_trailing_zeros, under}
use lib.Bits.{bit_xor, xor_self, xor_zero_r}
use Rattle.gf64.specs.Field.{sum}
use Rattle.gf64.proofs.Xor.{xor_assoc, xor_left_comm, xor_cancel}
use Rattle.poly.specs.Carrier.{gf64}
use Rattle.poly.specs.Polynomial.{padded}
use Rattle.poly.proofs.Filling.{get_or-padded}
use Rattle.coset.specs.Coset.{point}
use Rattle.coset.specs.Sequence.{prefix_sums}

-- ---- the sums one after the other

pub length-prefix_sums : (s : ℕ) (basis : List ℕ) → length (prefix_sums s basis) ≡ length basis
unfolding prefix_sums
length-prefix_sums s [] = refl
length-prefix_sums s (b ∷ basis) = ap suc (length-prefix_sums (bit_xor s b) basis)

-- sum t is the one before it plus element t
pub prefix_sums_next : (s : ℕ) (basis : List ℕ) (t : ℕ) → t < length basis
    → bit_xor (get_or (s ∷ prefix_sums s basis) t 0) (get_or basis t 0) ≡ get_or (prefix_sums s basis) t 0
unfolding prefix_sums
prefix_sums_next s [] t h = absurd (omega arith)
prefix_sums_next s (b ∷ basis) zero h = refl
prefix_sums_next s (b ∷ basis) (suc t) h = prefix_sums_next (bit_xor s b) basis t (omega arith)

-- the same among the first 20 elements of a list
pub prefix_sums_taken : (basis : List ℕ) (t s : ℕ) → t < min (length basis) 20
    → s ≡ get_or (0 ∷ prefix_sums 0 (take 20 basis)) t 0
    → bit_xor s (get_or basis t 0) ≡ get_or (prefix_sums 0 (take 20 basis)) t 0
prefix_sums_taken basis t s h e =
    ap₂ bit_xor e (sym (get_or-take 20 basis t 0 (omega arith)))
    ∙ prefix_sums_next 0 (take 20 basis) t (omega (arith, length-take 20 basis))

-- ---- from point to point

-- from point j to point j + 1
abbrev step : ℕ → List ℕ → ℕ → ℕ
step offset basis j = bit_xor (point offset basis j) (point offset basis (suc j))

step_odd : (offset b : ℕ) (basis : List ℕ) (j : ℕ) → suc j % 2 ≡ 1 → step offset (b ∷ basis) j ≡ b
unfolding point
step_odd offset b basis j odd =
    ap₂ bit_xor
    (ap (λ (r : ℕ). bit_xor (r * b) (point offset basis (j / 2))) even
    ∙ ap (λ (s : ℕ). bit_xor s (point offset basis (j / 2))) (zero-mul b))
    (ap₂ (λ (r m : ℕ). bit_xor (r * b) (point offset basis m)) odd same
    ∙ ap (λ (s : ℕ). bit_xor s (point offset basis (j / 2))) (one-mul b))
    ∙ xor_left_comm (point offset basis (j / 2)) b (point offset basis (j / 2))
    ∙ ap (bit_xor b) (xor_self (point offset basis (j / 2))) ∙ xor_zero_r b
  where
    even : j % 2 ≡ 0
    even = omega arith

    same : suc j / 2 ≡ j / 2
    same = omega arith

step_even : (offset b : ℕ) (basis : List ℕ) (j : ℕ) → suc j % 2 ≡ 0
    → step offset (b ∷ basis) j ≡ bit_xor b (step offset basis (j / 2))
unfolding point
step_even offset b basis j even =
    ap₂ bit_xor
    (ap (λ (r : ℕ). bit_xor (r * b) (point offset basis (j / 2))) odd
    ∙ ap (λ (s : ℕ). bit_xor s (point offset basis (j / 2))) (one-mul b))
    (ap₂ (λ (r m : ℕ). bit_xor (r * b) (point offset basis m)) even next
    ∙ ap (λ (s : ℕ). bit_xor s (point offset basis (suc (j / 2)))) (zero-mul b))
    ∙ xor_assoc b (point offset basis (j / 2)) (point offset basis (suc (j / 2)))
  where
    odd : j % 2 ≡ 1
    odd = omega arith

    next : suc j / 2 ≡ suc (j / 2)
    next = omega arith

sum_of_step : (w s offset : ℕ) (basis : List ℕ) (j : ℕ) → length basis ≤ w → suc j < 2 ^ length basis
    → get_or (prefix_sums s basis) (count_trailing_zeros w (suc j)) 0 ≡ bit_xor s (step offset basis j)
unfolding prefix_sums count_trailing_zeros
sum_of_step w s offset [] j l h = absurd (omega arith)
sum_of_step zero s offset (b ∷ basis) j l h = absurd (omega arith)
sum_of_step (suc w) s offset (b ∷ basis) j l h =
    by_parity (suc j % 2) refl (omega arith) (sum_of_step w (bit_xor s b) offset basis (j / 2) (omega arith))
  where
    by_parity : (r : ℕ) → suc j % 2 ≡ r → r < 2
        → (suc (j / 2) < 2 ^ length basis → get_or (prefix_sums (bit_xor s b) basis) (count_trailing_zeros w (suc (j / 2))) 0
        ≡ bit_xor (bit_xor s b) (step offset basis (j / 2)))
        → get_or (bit_xor s b ∷ prefix_sums (bit_xor s b) basis) (under (suc j % 2) (count_trailing_zeros w (suc j / 2))) 0
        ≡ bit_xor s (step offset (b ∷ basis) j)
    by_parity zero e r ih =
        ap₂ (λ (d n : ℕ). get_or (bit_xor s b ∷ prefix_sums (bit_xor s b) basis) (under d (count_trailing_zeros w n)) 0) e
        (halved e)
        ∙ ih (omega (arith, pow-suc 2 (length basis))) ∙ xor_assoc s b (step offset basis (j / 2))
        ∙ ap (bit_xor s) (sym (step_even offset b basis j e))
      where
        halved : suc j % 2 ≡ 0 → suc j / 2 ≡ suc (j / 2)
        halved even = omega arith
    by_parity (suc r) e l ih =
        ap (λ (d : ℕ). get_or (bit_xor s b ∷ prefix_sums (bit_xor s b) basis) (under d (count_trailing_zeros w (suc j / 2))) 0) e
        ∙ ap (bit_xor s) (sym (step_odd offset b basis j (omega arith)))

-- one sum takes point j to point j + 1
pub point_next : (offset : ℕ) (basis : List ℕ) (j : ℕ) → length basis ≤ 64 → suc j < 2 ^ length basis
    → bit_xor (point offset basis j) (get_or (prefix_sums 0 basis) (count_trailing_zeros 64 (suc j)) 0)
    ≡ point offset basis (suc j)
point_next offset basis j l h =
    ap (bit_xor (point offset basis j)) (sum_of_step 64 0 offset basis j l h)
    ∙ xor_cancel (point offset basis j) (point offset basis (suc j))

-- from point j to point j + 1 by the sums that `prefix_sums` gives
pub point_stepped : (offset : ℕ) (basis : List ℕ) (j x : ℕ) → length basis ≤ 20 → x ≡ point offset basis j
    → j + 1 < 2 ^ length basis
    → sum x (get_or (padded gf64 20 (prefix_sums 0 (take 20 basis))) (count_trailing_zeros 64 (j + 1)) 0)
    ≡ point offset basis (j + 1)
point_stepped offset basis j x k e h =
    ap₂ sum e
    (get_or-padded 20 (prefix_sums 0 (take 20 basis)) (count_trailing_zeros 64 (j + 1))
    ∙ ap₂ (λ (l : List ℕ) (n : ℕ). get_or (prefix_sums 0 l) (count_trailing_zeros 64 n) 0)
    (take_all 20 basis (omega arith)) (add-one j))
    ∙ point_next offset basis j (omega arith) (omega arith) ∙ ap (point offset basis) (sym (add-one j))
