-- The points of a coset: images under additive maps, distinctness over an independent basis, elements. Assumes nothing.
use mathlib.Core.Path.{◌≡◌, refl, sym, ap, ap₂, ◌∙◌, subst}
use mathlib.Core.Logic.{◌≢◌}
use mathlib.Core.Bool.{Bool, cond}
use mathlib.Core.List.{List, [], ◌∷◌, map}
use Prim.Native.Nat.{ℕ, zero, suc, ◌+◌, ◌*◌, ◌/◌, ◌%◌, ◌^◌, ◌<◌, ◌≤◌}
use native.Mathlib.Nat.{zero-mul, one-mul, mul-zero, mul_assoc, pow-suc, add-zero, zero-add, add-suc, suc-add}
use native.Mathlib.Omega.{arith}
use lib.ListN.{length, get_or, take, drop, length-map, length-drop}
use lib.Seq.{ext_get_or, get_or-take, get_or-drop, length-take-le}
use lib.Bits.{bit_xor, xor_comm, xor_lt}
use borrow.Author.Tests.{eq-eqb, ne_eqb}
use Rattle.gf64.specs.Field.{IsElement}
use Rattle.gf64.proofs.Xor.{xor_cancel, by_bit, halves_eq}
use Rattle.gf64.proofs.Additive.{Additive, additive_zero}
use Rattle.std.specs.Prelude.{Some, None}
use Rattle.poly.specs.Polynomial.{All, Distinct}
use Rattle.poly.proofs.Entries.{all_of}
use Rattle.coset.specs.Coset.{point, tabulated, points}
use Rattle.coset.specs.Span.{in_span, first_dependent_after, first_dependent, Independent}
use Rattle.coset.specs.Elimination.{cleared}
use Rattle.coset.proofs.Span.{first_image, at_not_absent}
use Rattle.coset.proofs.Clearing.{cleared_additive, cleared_self, cleared_kernel}

-- ---- images

bit_image : (f : ℕ → ℕ) → Additive f → (j b : ℕ) → f (j % 2 * b) ≡ j % 2 * f b
bit_image f additive j b =
    by_bit (λ (r : ℕ). f (r * b) ≡ r * f b)
    (ap f (zero-mul b) ∙ additive_zero f additive ∙ sym (zero-mul (f b)))
    (ap f (one-mul b) ∙ sym (one-mul (f b))) j

pub point-image : (f : ℕ → ℕ) → Additive f → (offset : ℕ) (basis : List ℕ) (j : ℕ)
    → f (point offset basis j) ≡ point (f offset) (map f basis) j
unfolding point
point-image f additive offset [] j = refl
point-image f additive offset (b ∷ basis) j =
    additive (j % 2 * b) (point offset basis (j / 2))
    ∙ ap₂ bit_xor (bit_image f additive j b) (point-image f additive offset basis (j / 2))

-- ---- one element of the basis at a time

-- points 2 j and 2 j + 1 over a basis with one element more
pub point_even : (offset b : ℕ) (basis : List ℕ) (j : ℕ) → point offset (b ∷ basis) (j * 2) ≡ point offset basis j
unfolding point
point_even offset b basis j =
    ap₂ (λ (r m : ℕ). bit_xor (r * b) (point offset basis m)) lowest half
    ∙ ap (λ (s : ℕ). bit_xor s (point offset basis j)) (zero-mul b)
  where
    lowest : j * 2 % 2 ≡ 0
    lowest = omega arith

    half : j * 2 / 2 ≡ j
    half = omega arith

pub point_odd : (offset b : ℕ) (basis : List ℕ) (j : ℕ)
    → point offset (b ∷ basis) (suc (j * 2)) ≡ bit_xor b (point offset basis j)
unfolding point
point_odd offset b basis j =
    ap₂ (λ (r m : ℕ). bit_xor (r * b) (point offset basis m)) lowest half
    ∙ ap (λ (s : ℕ). bit_xor s (point offset basis j)) (one-mul b)
  where
    lowest : suc (j * 2) % 2 ≡ 1
    lowest = omega arith

    half : suc (j * 2) / 2 ≡ j
    half = omega arith

-- the first element is not zero, and the others are independent once it is taken out of them
pub first_taken : (b : ℕ) (basis : List ℕ) (place : ℕ) → b ≢ 0
    → first_dependent_after [] (b ∷ basis) place ≡ first_dependent_after [] (map (cleared b) basis) (suc place)
unfolding first_dependent_after in_span
first_taken b basis place nz =
    ap (λ (t : Bool). cond t (Some place) (first_dependent_after (b ∷ []) basis (suc place))) (ne_eqb b 0 nz)
    ∙ first_image (λ a. record {}) (λ a c pa pc. record {}) (cleared b) b (cleared_additive b nz)
    (cleared_kernel b nz) [] basis (suc place) (record {}) (all_of (λ a. record {}) (λ a. record {}) basis)

pub first_zero : (b : ℕ) (basis : List ℕ) (place : ℕ) → b ≡ 0 → first_dependent_after [] (b ∷ basis) place ≡ Some place
unfolding first_dependent_after in_span
first_zero b basis place z =
    ap (λ (t : Bool). cond t (Some place) (first_dependent_after (b ∷ []) basis (suc place))) (eq-eqb b 0 z)

pub first_not_zero : (b : ℕ) (basis : List ℕ) (place : ℕ) → first_dependent_after [] (b ∷ basis) place ≡ None → b ≢ 0
first_not_zero b basis place e z = at_not_absent place (sym (first_zero b basis place z) ∙ e)

-- the first elements of the basis go by the lower bits of the index, the others by the upper ones
pub point_parted : (n offset : ℕ) (basis : List ℕ) (j i : ℕ) → i < 2 ^ n → n ≤ length basis
    → point offset basis (j * 2 ^ n + i) ≡ point (point offset (drop n basis) j) (take n basis) i
unfolding point
point_parted zero offset basis j i h l = ap (point offset basis) (omega arith)
point_parted (suc n) offset [] j i h l = absurd (omega arith)
point_parted (suc n) offset (b ∷ basis) j i h l =
    ap₂ (λ (r m : ℕ). bit_xor (r * b) (point offset basis m)) lowest half
    ∙ ap (bit_xor (i % 2 * b)) (point_parted n offset basis j (i / 2) (omega (arith, pow-suc 2 n)) (omega arith))
  where
    doubled : j * 2 ^ suc n ≡ j * 2 ^ n * 2
    doubled = ap (λ (m : ℕ). j * m) (pow-suc 2 n) ∙ sym (mul_assoc j (2 ^ n) 2)

    lowest : (j * 2 ^ suc n + i) % 2 ≡ i % 2
    lowest = omega (arith, doubled)

    half : (j * 2 ^ suc n + i) / 2 ≡ j * 2 ^ n + i / 2
    half = omega (arith, doubled)

-- ---- distinctness

-- the image of a point under a map that sends the first element to zero is a point over the images of the others
pub point_halved : (f : ℕ → ℕ) → Additive f → (b : ℕ) → f b ≡ 0 → (offset : ℕ) (basis : List ℕ) (j : ℕ)
    → f (point offset (b ∷ basis) j) ≡ point (f offset) (map f basis) (j / 2)
unfolding point
point_halved f additive b z offset basis j =
    additive (j % 2 * b) (point offset basis (j / 2))
    ∙ ap₂ bit_xor (bit_image f additive j b ∙ ap (λ (s : ℕ). j % 2 * s) z ∙ mul-zero (j % 2))
    (point-image f additive offset basis (j / 2))

point-cleared : (b : ℕ) → b ≢ 0 → (offset : ℕ) (basis : List ℕ) (j : ℕ)
    → cleared b (point offset (b ∷ basis) j) ≡ point (cleared b offset) (map (cleared b) basis) (j / 2)
point-cleared b nz = point_halved (cleared b) (cleared_additive b nz) b (cleared_self b nz)

multiple_injective : (b i j : ℕ) → b ≢ 0 → i < 2 → j < 2 → i * b ≡ j * b → i ≡ j
multiple_injective b zero zero nz hi hj e = refl
multiple_injective b zero (suc zero) nz hi hj e = absurd (nz (sym (one-mul b) ∙ sym e ∙ zero-mul b))
multiple_injective b zero (suc (suc j)) nz hi hj e = absurd (omega arith)
multiple_injective b (suc zero) zero nz hi hj e = absurd (nz (sym (one-mul b) ∙ e ∙ zero-mul b))
multiple_injective b (suc zero) (suc zero) nz hi hj e = refl
multiple_injective b (suc zero) (suc (suc j)) nz hi hj e = absurd (omega arith)
multiple_injective b (suc (suc i)) j nz hi hj e = absurd (omega arith)

xor_cancel_r : (a b c : ℕ) → bit_xor a c ≡ bit_xor b c → a ≡ b
xor_cancel_r a b c e =
    sym (xor_cancel c a) ∙ ap (bit_xor c) (xor_comm c a ∙ e ∙ xor_comm b c) ∙ xor_cancel c b

-- equal points with equal upper bits have equal lowest bits
lowest_bit : (b offset : ℕ) (basis : List ℕ) (i j : ℕ) → b ≢ 0 → i / 2 ≡ j / 2
    → point offset (b ∷ basis) i ≡ point offset (b ∷ basis) j → i % 2 ≡ j % 2
unfolding point
lowest_bit b offset basis i j nz h e =
    multiple_injective b (i % 2) (j % 2) nz (omega arith) (omega arith)
    (xor_cancel_r (i % 2 * b) (j % 2 * b) (point offset basis (j / 2))
    (ap (λ (m : ℕ). bit_xor (i % 2 * b) (point offset basis m)) (sym h) ∙ e))

injective_of : (k : ℕ) (offset : ℕ) (basis : List ℕ) (place i j : ℕ) → length basis ≡ k
    → first_dependent_after [] basis place ≡ None → i < 2 ^ k → j < 2 ^ k
    → point offset basis i ≡ point offset basis j → i ≡ j
injective_of zero offset basis place i j l d hi hj e = omega arith
injective_of (suc k) offset [] place i j l d hi hj e = absurd (omega arith)
injective_of (suc k) offset (b ∷ basis) place i j l d hi hj e =
    let nz : b ≢ 0 = first_not_zero b basis place d in
    let halves : i / 2 ≡ j / 2 =
    injective_of k (cleared b offset) (map (cleared b) basis) (suc place) (i / 2) (j / 2)
    (length-map basis (cleared b) ∙ omega arith) (sym (first_taken b basis place nz) ∙ d) (omega arith) (omega arith)
    (sym (point-cleared b nz offset basis i) ∙ ap (cleared b) e ∙ point-cleared b nz offset basis j)
    in
    halves_eq i j halves (lowest_bit b offset basis i j nz halves e)

pub point_injective : (offset : ℕ) (basis : List ℕ) (i j : ℕ) → Independent basis → i < 2 ^ length basis
    → j < 2 ^ length basis
    → point offset basis i ≡ point offset basis j → i ≡ j
unfolding first_dependent
point_injective offset basis i j d hi hj e = injective_of (length basis) offset basis 0 i j refl d hi hj e

-- ---- the list of points

pub length-tabulated : (f : ℕ → ℕ) (start count : ℕ) → length (tabulated f start count) ≡ count
unfolding tabulated
length-tabulated f start zero = refl
length-tabulated f start (suc count) = ap suc (length-tabulated f (suc start) count)

pub get_or-tabulated : (f : ℕ → ℕ) (start count j : ℕ) → j < count → get_or (tabulated f start count) j 0 ≡ f (start + j)
unfolding tabulated
get_or-tabulated f start zero j h = absurd (omega arith)
get_or-tabulated f start (suc count) zero h = ap f (sym (add-zero start))
get_or-tabulated f start (suc count) (suc j) h =
    get_or-tabulated f (suc start) count j (omega arith) ∙ ap f (suc-add start j ∙ sym (add-suc start j))

pub all_tabulated : (P : ℕ → Type 0) (f : ℕ → ℕ) (start count : ℕ) → ((j : ℕ) → start ≤ j → j < start + count → P (f j))
    → All P (tabulated f start count)
unfolding tabulated
all_tabulated P f start zero h = record {}
all_tabulated P f start (suc count) h = (
  h start (omega arith) (omega arith),
  all_tabulated P f (suc start) count (λ j l u. h j (omega arith) (omega arith)),
)

pub distinct_tabulated : (f : ℕ → ℕ) (start count : ℕ)
    → ((i j : ℕ) → i < start + count → j < start + count → f i ≡ f j → i ≡ j) → Distinct (tabulated f start count)
unfolding tabulated
distinct_tabulated f start zero h = record {}
distinct_tabulated f start (suc count) h = (
  all_tabulated (λ y. y ≢ f start) f (suc start) count
      (λ j l u e. later_differs j l (h j start (omega arith) (omega arith) e)),
  distinct_tabulated f (suc start) count (λ i j hi hj e. h i j (omega arith) (omega arith) e),
)
  where
    later_differs : (j : ℕ) → suc start ≤ j → j ≡ start → ⊥
    later_differs j l e = omega arith

-- tables of functions that agree
pub tabulated_agree : (f g : ℕ → ℕ) (start count : ℕ) → ((j : ℕ) → start ≤ j → j < start + count → f j ≡ g j)
    → tabulated f start count ≡ tabulated g start count
unfolding tabulated
tabulated_agree f g start zero h = refl
tabulated_agree f g start (suc count) h =
    ap₂ (λ (a : ℕ) (l : List ℕ). a ∷ l) (h start (omega arith) (omega arith))
    (tabulated_agree f g (suc start) count (λ j l u. h j (omega arith) (omega arith)))

pub map-tabulated : (g f : ℕ → ℕ) (start count : ℕ)
    → map g (tabulated f start count) ≡ tabulated (λ j. g (f j)) start count
unfolding tabulated
map-tabulated g f start zero = refl
map-tabulated g f start (suc count) = ap {B = List ℕ} (λ l. g (f start) ∷ l) (map-tabulated g f (suc start) count)

-- a part of a table is a table
pub tabulated_part : (f : ℕ → ℕ) (from count whole : ℕ) → from + count ≤ whole
    → take count (drop from (tabulated f 0 whole)) ≡ tabulated f from count
tabulated_part f from count whole h =
    ext_get_or 0 (take count (drop from (tabulated f 0 whole))) (tabulated f from count)
    (length_part ∙ sym (length-tabulated f from count)) entry
  where
    length_part : length (take count (drop from (tabulated f 0 whole))) ≡ count
    length_part =
        length-take-le count (drop from (tabulated f 0 whole))
        (omega (arith, length-drop from (tabulated f 0 whole), length-tabulated f 0 whole))

    entry : (i : ℕ) → i < length (take count (drop from (tabulated f 0 whole)))
        → get_or (take count (drop from (tabulated f 0 whole))) i 0 ≡ get_or (tabulated f from count) i 0
    entry i l =
        let inside : i < count = omega (arith, length_part) in
        get_or-take count (drop from (tabulated f 0 whole)) i 0 inside
        ∙ get_or-drop from (tabulated f 0 whole) i 0
        ∙ get_or-tabulated f 0 whole (from + i) (omega arith) ∙ ap f (zero-add (from + i))
        ∙ sym (get_or-tabulated f from count i inside)

pub length-points : (offset : ℕ) (basis : List ℕ) → length (points offset basis) ≡ 2 ^ length basis
unfolding points
length-points offset basis = length-tabulated (point offset basis) 0 (2 ^ length basis)

pub get_or-points : (offset : ℕ) (basis : List ℕ) (j : ℕ) → j < 2 ^ length basis
    → get_or (points offset basis) j 0 ≡ point offset basis j
unfolding points
get_or-points offset basis j h =
    get_or-tabulated (point offset basis) 0 (2 ^ length basis) j h ∙ ap (point offset basis) (zero-add j)

-- the points over an independent basis are pairwise distinct
pub points_distinct : (offset : ℕ) (basis : List ℕ) → Independent basis → Distinct (points offset basis)
unfolding points
points_distinct offset basis d =
    distinct_tabulated (point offset basis) 0 (2 ^ length basis)
    (λ i j hi hj e. point_injective offset basis i j d (omega arith) (omega arith) e)

-- ---- elements

-- a list of 64-bit numbers is a list of elements
pub all_elements : (xs : List ℕ) → ((i : ℕ) → get_or xs i 0 < 2 ^ 64) → All IsElement xs
all_elements [] h = record {}
all_elements (x ∷ xs) h = (h 0, all_elements xs (λ i. h (suc i)))

bit_element : (j b : ℕ) → IsElement b → IsElement (j % 2 * b)
bit_element j b h =
    by_bit (λ (r : ℕ). r * b < 2 ^ 64) (subst (λ (s : ℕ). s < 2 ^ 64) (sym (zero-mul b)) (omega arith))
    (subst (λ (s : ℕ). s < 2 ^ 64) (sym (one-mul b)) h) j

pub point-element : (offset : ℕ) (basis : List ℕ) (j : ℕ) → IsElement offset → All IsElement basis
    → IsElement (point offset basis j)
unfolding point
point-element offset [] j eo eb = eo
point-element offset (b ∷ basis) j eo eb =
    xor_lt 64 (j % 2 * b) (point offset basis (j / 2)) (bit_element j b eb.0)
    (point-element offset basis (j / 2) eo eb.1)

pub points-elements : (offset : ℕ) (basis : List ℕ) → IsElement offset → All IsElement basis
    → All IsElement (points offset basis)
unfolding points
points-elements offset basis eo eb =
    all_tabulated IsElement (point offset basis) 0 (2 ^ length basis) (λ j l u. point-element offset basis j eo eb)
