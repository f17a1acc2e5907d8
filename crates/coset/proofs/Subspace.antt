-- The subspace polynomial and the next coset: what `Steps` shows of the composition,
-- of their definitions. Assumes nothing.
use mathlib.Core.Path.{◌≡◌, sym, ap, ap₂, ◌∙◌, subst}
use mathlib.Core.Logic.{◌↔◌}
use mathlib.Core.Bool.{true}
use mathlib.Core.List.{List, [], ◌∷◌, ◌++◌, map, append-nil}
use Prim.Native.Nat.{ℕ, ◌+◌, ◌*◌, ◌-◌, ◌/◌, ◌^◌, ◌<◌, ◌≤◌}
use native.Mathlib.Nat.{div-lt_iff_lt-mul, le_of_eq, le_refl}
use native.Mathlib.Omega.{arith}
use lib.Pow.{pow_pos, pow-add, high}
use lib.Dec.{T, eqb, eqb→eq}
use lib.ListN.{length, get_or, take, drop, replicate, length-map, length-drop, length-append, drop_of_length-le}
use lib.Seq.{length-take-le, get_or_at, take_at}
use borrow.Author.Tests.{eq-eqb}
use Rattle.gf64.specs.Field.{IsElement, sum}
use Rattle.poly.specs.Carrier.{gf64}
use Rattle.poly.specs.Polynomial.{All, padded}
use Rattle.poly.proofs.Filling.{padded_taken, padded_front}
use Rattle.poly.proofs.Parts.{mid_suffix}
use Rattle.poly.specs.Rows.{monic}
use Rattle.poly.proofs.AtField.{gf64_laws}
use Rattle.poly.proofs.Entries.{all_map, all_drop, all_take}
use Rattle.poly.proofs.Vanishing.{lower, length_lower, lower_elements, vanishing-monic}
use Rattle.coset.specs.Coset.{point, points}
use Rattle.coset.specs.Span.{in_span, Independent}
use Rattle.coset.specs.Subspace.{subspace_polynomial, lower_coefficients, image, next_offset, next_basis}
use Rattle.coset.specs.Steps.{composed_maps, step_elements}
use Rattle.coset.proofs.Points.{point_injective, point-element, length-points, points-elements}
use Rattle.coset.proofs.Steps.{image_through, images_through, through_additive, through_element}
use Rattle.coset.proofs.Steps.{through_point, independent_through, zero_through, length-elements}
use lib.Bits.{xor_lt}

-- ---- the coefficients of q below the leading one

length_below : (step : ℕ) (basis : List ℕ) → step ≤ length basis
    → length (lower gf64 (points 0 (take step basis))) ≡ 2 ^ step
length_below step basis h =
    length_lower gf64 (points 0 (take step basis)) ∙ length-points 0 (take step basis)
    ∙ ap (λ (n : ℕ). 2 ^ n) (length-take-le step basis h)

below_leading : (step : ℕ) (basis : List ℕ) → step ≤ length basis
    → lower_coefficients step basis ≡ lower gf64 (points 0 (take step basis))
unfolding subspace_polynomial lower_coefficients monic
below_leading step basis h =
    ap (take (2 ^ step)) (vanishing-monic gf64 (points 0 (take step basis)))
    ∙ take_at (lower gf64 (points 0 (take step basis))) (1 ∷ []) (2 ^ step) (length_below step basis h)

pub length-lower_coefficients : (step : ℕ) (basis : List ℕ) → step ≤ length basis
    → length (lower_coefficients step basis) ≡ 2 ^ step
length-lower_coefficients step basis h = ap length (below_leading step basis h) ∙ length_below step basis h

pub subspace_monic : (step : ℕ) (basis : List ℕ) → step ≤ length basis
    → subspace_polynomial step basis ≡ monic gf64 (lower_coefficients step basis)
unfolding subspace_polynomial
subspace_monic step basis h =
    vanishing-monic gf64 (points 0 (take step basis)) ∙ ap (monic gf64) (sym (below_leading step basis h))

pub lower_coefficients-elements : (step : ℕ) (basis : List ℕ) → step ≤ length basis → All IsElement basis
    → All IsElement (lower_coefficients step basis)
lower_coefficients-elements step basis h e =
    subst (All IsElement) (sym (below_leading step basis h))
    (lower_elements gf64 IsElement gf64_laws (points 0 (take step basis))
    (points-elements 0 (take step basis) (omega arith) (all_take IsElement step basis e)))

pub subspace_lower : (step : ℕ) (basis : List ℕ) → step ≤ length basis
    → subspace_polynomial step basis ≡ lower_coefficients step basis ++ (1 ∷ [])
unfolding monic
subspace_lower step basis h = subspace_monic step basis h

-- 2^step + 1 coefficients, the leading one 1
pub subspace_degree : (step : ℕ) (basis : List ℕ) → step ≤ length basis
    → (length (subspace_polynomial step basis) ≡ 2 ^ step + 1) × (get_or (subspace_polynomial step basis) (2 ^ step) 0 ≡ 1)
unfolding monic
subspace_degree step basis h = (
  ap length (subspace_monic step basis h) ∙ length-append (lower_coefficients step basis) (1 ∷ [])
      ∙ ap (λ (n : ℕ). n + 1) (length-lower_coefficients step basis h),
  ap (λ (l : List ℕ). get_or l (2 ^ step) 0) (subspace_monic step basis h)
      ∙ get_or_at (lower_coefficients step basis) 1 [] 0 (2 ^ step) (length-lower_coefficients step basis h),
)

-- ---- the map

pub image-element : (step : ℕ) (basis : List ℕ) (x : ℕ) → IsElement x → IsElement (image step basis x)
image-element step basis x h =
    subst IsElement (sym (image_through step basis x h)) (through_element (step_elements step basis) x h)

pub image_additive : (step : ℕ) (basis : List ℕ) (a b : ℕ) → IsElement a → IsElement b
    → image step basis (sum a b) ≡ sum (image step basis a) (image step basis b)
image_additive step basis a b ha hb =
    image_through step basis (sum a b) (xor_lt 64 a b ha hb) ∙ through_additive (step_elements step basis) a b
    ∙ sym (ap₂ sum (image_through step basis a ha) (image_through step basis b hb))

pub image-zero : (step : ℕ) (basis : List ℕ) (x : ℕ) → All IsElement basis → IsElement x
    → (image step basis x ≡ 0) ↔ (in_span (take step basis) x ≡ true)
image-zero step basis x h k = (
  λ e. sym test ∙ eq-eqb (image step basis x) 0 e,
  λ e. eqb→eq (image step basis x) 0 (subst T (sym (test ∙ e)) tt),
)
  where
    test : eqb (image step basis x) 0 ≡ in_span (take step basis) x
    test = ap (λ (s : ℕ). eqb s 0) (image_through step basis x k) ∙ zero_through step basis x h k

-- ---- the next coset

pub next_basis_through : (step : ℕ) (basis : List ℕ) → All IsElement basis
    → next_basis step basis ≡ map (composed_maps (step_elements step basis)) (drop step basis)
unfolding next_basis
next_basis_through step basis h = images_through step basis (drop step basis) (all_drop IsElement step basis h)

pub length-next_basis : (step : ℕ) (basis : List ℕ) → length (next_basis step basis) ≡ length basis - step
unfolding next_basis
length-next_basis step basis = length-map (drop step basis) (image step basis) ∙ length-drop step basis

pub next_basis-elements : (step : ℕ) (basis : List ℕ) → All IsElement basis → All IsElement (next_basis step basis)
unfolding next_basis
next_basis-elements step basis h =
    all_map IsElement IsElement (image step basis) (image-element step basis) (drop step basis)
    (all_drop IsElement step basis h)

pub next_offset-element : (step offset : ℕ) (basis : List ℕ) → IsElement offset
    → IsElement (next_offset step offset basis)
unfolding next_offset
next_offset-element step offset basis h = image-element step basis offset h

pub next_offset_through : (step offset : ℕ) (basis : List ℕ) → IsElement offset
    → next_offset step offset basis ≡ composed_maps (step_elements step basis) offset
unfolding next_offset
next_offset_through step offset basis h = image_through step basis offset h

pub next_independent : (step : ℕ) (basis : List ℕ) → All IsElement basis → Independent basis
    → Independent (next_basis step basis)
next_independent step basis h d =
    subst Independent (sym (next_basis_through step basis h)) (independent_through step basis h d)

-- old point i goes to point i / 2^step
pub image-point : (step offset : ℕ) (basis : List ℕ) (i : ℕ) → IsElement offset → All IsElement basis
    → image step basis (point offset basis i)
    ≡ point (next_offset step offset basis) (next_basis step basis) (i / 2 ^ step)
image-point step offset basis i ho hb =
    image_through step basis (point offset basis i) (point-element offset basis i ho hb)
    ∙ through_point step offset basis i
    ∙ sym (ap₂ (λ (o : ℕ) (l : List ℕ). point o l (i / 2 ^ step)) (next_offset_through step offset basis ho)
    (next_basis_through step basis hb))

pub image_of_coset : (step offset : ℕ) (basis : List ℕ) (j i : ℕ) → IsElement offset → All IsElement basis
    → i < 2 ^ step
    → image step basis (point offset basis (j * 2 ^ step + i))
    ≡ point (next_offset step offset basis) (next_basis step basis) j
image_of_coset step offset basis j i ho hb h =
    image-point step offset basis (j * 2 ^ step + i) ho hb
    ∙ ap (point (next_offset step offset basis) (next_basis step basis)) (high j step h)

-- 2^k points are 2^(k - step) cosets of 2^step points
pub cosets_of : (step k : ℕ) → step ≤ k → 2 ^ (k - step) * 2 ^ step ≡ 2 ^ k
cosets_of step k h = sym (pow-add 2 (k - step) step) ∙ ap (λ (n : ℕ). 2 ^ n) (back step k h)
  where
    back : (s n : ℕ) → s ≤ n → n - s + s ≡ n
    back s n l = omega arith

-- and no other point goes there
pub image_only : (step offset : ℕ) (basis : List ℕ) (i j : ℕ) → IsElement offset → All IsElement basis
    → Independent basis
    → step ≤ length basis → i < 2 ^ length basis → j < 2 ^ (length basis - step)
    → image step basis (point offset basis i) ≡ point (next_offset step offset basis) (next_basis step basis) j
    → i / 2 ^ step ≡ j
image_only step offset basis i j ho hb d h hi hj e =
    point_injective (next_offset step offset basis) (next_basis step basis) (i / 2 ^ step) j
    (next_independent step basis hb d)
    (subst (λ (n : ℕ). i / 2 ^ step < 2 ^ n) (sym (length-next_basis step basis))
    ((div-lt_iff_lt-mul (pow_pos step)).1 inside)) (subst (λ (n : ℕ). j < 2 ^ n) (sym (length-next_basis step basis)) hj)
    (sym (image-point step offset basis i ho hb) ∙ e)
  where
    inside : i < 2 ^ (length basis - step) * 2 ^ step
    inside = subst (λ (n : ℕ). i < n) (sym (cosets_of step (length basis) h)) hi

-- ---- as the code gets them

-- the elements of a whole basis in the front of an array
pub elements-padded : (n : ℕ) (basis held : List ℕ)
    → held ≡ step_elements (length basis) basis ++ drop (length basis) (replicate n 0)
    → held ≡ padded gf64 n (step_elements (length basis) basis)
elements-padded n basis held e =
    let elements = step_elements (length basis) basis in
    e
    ∙ ap (λ (m : ℕ). elements ++ drop m (replicate n 0))
    (sym (length-elements (length basis) basis (le_refl (length basis))))
    ∙ padded_front n elements

-- the elements of a step in an array of three
pub elements_taken : (step : ℕ) (basis elements : List ℕ) → step ≤ length basis
    → elements ≡ padded gf64 3 (step_elements step basis)
    → take step elements ≡ step_elements step basis
elements_taken step basis elements h e =
    padded_taken 3 step (step_elements step basis) elements e (length-elements step basis h)

-- the images of what is behind them
pub next_filled : (step : ℕ) (basis elements : List ℕ) → All IsElement basis → step ≤ length basis
    → elements ≡ padded gf64 3 (step_elements step basis)
    → map (composed_maps (take step elements)) (take (length basis - step) (drop step basis)) ≡ next_basis step basis
next_filled step basis elements eb h e =
    ap₂ (λ (es xs : List ℕ). map (composed_maps es) xs) (elements_taken step basis elements h e) (mid_suffix step basis)
    ∙ sym (next_basis_through step basis eb)

-- an array with the images in its front has the next basis there, and zeros follow
pub next_padded : (n step : ℕ) (basis elements filled : List ℕ) → All IsElement basis → step ≤ length basis
    → elements ≡ padded gf64 3 (step_elements step basis)
    → filled ≡ map (composed_maps (take step elements)) (take (length basis - step) (drop step basis))
    ++ drop (length (take (length basis - step) (drop step basis))) (replicate n 0)
    → filled ≡ padded gf64 n (next_basis step basis)
next_padded n step basis elements filled eb h e f =
    f
    ∙ ap (λ (m : ℕ). images ++ drop m (replicate n 0))
    (sym (length-map (take (length basis - step) (drop step basis)) (composed_maps (take step elements))))
    ∙ padded_front n images ∙ ap (padded gf64 n) (next_filled step basis elements eb h e)
  where
    images : List ℕ
    images = map (composed_maps (take step elements)) (take (length basis - step) (drop step basis))

-- a list of their number is the next basis
pub next_whole : (step : ℕ) (basis elements held filled : List ℕ) → All IsElement basis → step ≤ length basis
    → elements ≡ padded gf64 3 (step_elements step basis)
    → length held ≡ length basis - step
    → filled ≡ map (composed_maps (take step elements)) (take (length basis - step) (drop step basis))
    ++ drop (length (take (length basis - step) (drop step basis))) held
    → filled ≡ next_basis step basis
next_whole step basis elements held filled eb h e l f =
    f
    ∙ ap₂ (λ (front rest : List ℕ). front ++ rest) (next_filled step basis elements eb h e)
    (drop_of_length-le held (le_of_eq (l ∙ sym (ap length (mid_suffix step basis) ∙ length-drop step basis))))
    ∙ append-nil (next_basis step basis)
