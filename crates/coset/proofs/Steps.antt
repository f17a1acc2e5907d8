-- The subspace polynomial is a composition of maps X · (X - e). So it is additive, it is zero exactly on the span
-- that it was built from, it sends an independent basis to an independent one and the points of a coset to those of
-- the next. Assumes nothing.
use mathlib.Core.Path.{◌≡◌, refl, sym, ap, ap₂, ◌∙◌, subst}
use mathlib.Core.Logic.{◌≢◌, ◌⊎◌, inl, inr}
use mathlib.Core.Bool.{Bool, true, false, cond}
use mathlib.Core.List.{List, [], ◌∷◌, ◌++◌, map, map-id, map-map}
use Prim.Native.Nat.{ℕ, zero, suc, ◌+◌, ◌*◌, ◌/◌, ◌^◌, ◌<◌, ◌≤◌}
use native.Mathlib.Nat.{pow-suc}
use native.Mathlib.Omega.{arith}
use lib.Pow.{shr-shr}
use lib.Dec.{eqb}
use lib.ListN.{length, get_or, take, drop, length-map, drop_of_length-le}
use lib.Seq.{drop-cons}
use native.Mathlib.Numerals.{add-one}
use lib.Bits.{bit_xor, xor_self, xor_comm, xor_zero_r, xor_lt}
use borrow.Author.Tests.{ne_eqb}
use Rattle.gf64.specs.Field.{IsElement, sum, product}
use Rattle.gf64.proofs.Xor.{xor_assoc}
use Rattle.gf64.proofs.Additive.{Additive, additive_zero, sum_additive}
use Rattle.gf64.proofs.Ring.{product_lt, product-add_r, product-add_l, product-zero_r}
use Rattle.gf64.proofs.Ring.{product_one_r, product_assoc, square_add}
use Rattle.gf64.proofs.Inverse.{no_zero_divisors}
use Rattle.poly.specs.Carrier.{gf64}
use Rattle.poly.specs.Polynomial.{All}
use Rattle.poly.specs.Newton.{vanishing}
use Rattle.poly.proofs.AtField.{gf64_laws}
use Rattle.poly.proofs.Entries.{all_map, all_take, map_agree, map-take, map-drop}
use Rattle.poly.proofs.Sums.{equal_of_sum}
use Rattle.poly.proofs.Filling.{get_d_map}
use Rattle.poly.proofs.Vanishing.{evaluate-vanishing}
use Rattle.std.specs.Prelude.{Some, None}
use Rattle.coset.specs.Coset.{point, tabulated, points}
use Rattle.coset.specs.Span.{in_span, first_dependent_after, first_dependent, Independent}
use Rattle.coset.specs.Subspace.{subspace_polynomial, image}
use Rattle.coset.specs.Steps.{one_step, composed_maps, step_elements}
use Rattle.coset.proofs.Span.{Kernel, span_image, first_image, at_not_absent}
use Rattle.coset.proofs.Clearing.{zero_test}
use Rattle.coset.proofs.Points.{point-image, point_even, point_odd, point_halved, first_not_zero}

-- ---- one map

one_step_terms : (e x : ℕ) → one_step e x ≡ bit_xor (product x x) (product x e)
unfolding one_step
one_step_terms e x = product-add_r x x e

pub one_step_additive : (e : ℕ) → Additive (one_step e)
one_step_additive e a b =
    one_step_terms e (bit_xor a b)
    ∙ sum_additive (λ x. product x x) (λ x. product x e) square_add (λ c d. product-add_l c d e) a b
    ∙ sym (ap₂ bit_xor (one_step_terms e a) (one_step_terms e b))

pub one_step_self : (e : ℕ) → one_step e e ≡ 0
unfolding one_step
one_step_self e = ap (product e) (xor_self e) ∙ product-zero_r e

pub one_step_element : (e x : ℕ) → IsElement (one_step e x)
unfolding one_step
one_step_element e x = product_lt x (bit_xor x e)

one_step_kernel : (e : ℕ) → IsElement e → Kernel IsElement (one_step e) e
unfolding one_step
one_step_kernel e he a ha =
    zero_test a e (one_step e a) (by_cases a ha refl)
    (λ z. ap (one_step e) z ∙ additive_zero (one_step e) (one_step_additive e)) (λ z. ap (one_step e) z ∙ one_step_self e)
  where
    not_zero : (n : ℕ) → suc n ≡ 0 → ⊥
    not_zero n z = omega arith

    by_cases : (c : ℕ) → IsElement c → a ≡ c → product a (bit_xor a e) ≡ 0 → (a ≡ 0) ⊎ (a ≡ e)
    by_cases zero hc s z = inl s
    by_cases (suc c) hc s z =
        inr
        (equal_of_sum gf64 IsElement gf64_laws a e
        (no_zero_divisors a (bit_xor a e) ha (xor_lt 64 a e ha he) (λ n. not_zero c (sym s ∙ n)) z))

-- ---- one map after the other

pub through_additive : (elements : List ℕ) → Additive (composed_maps elements)
unfolding composed_maps
through_additive [] a b = refl
through_additive (e ∷ elements) a b =
    ap (composed_maps elements) (one_step_additive e a b) ∙ through_additive elements (one_step e a) (one_step e b)

pub through_element : (elements : List ℕ) (x : ℕ) → IsElement x → IsElement (composed_maps elements x)
unfolding composed_maps
through_element [] x h = h
through_element (e ∷ elements) x h = through_element elements (one_step e x) (one_step_element e x)

pub mapped_elements : (e : ℕ) (basis : List ℕ) → All IsElement basis → All IsElement (map (one_step e) basis)
mapped_elements e basis h = all_map IsElement IsElement (one_step e) (λ a k. one_step_element e a) basis h

-- the elements are those of the prefix alone
pub elements_of_prefix : (n : ℕ) (basis : List ℕ) → step_elements n (take n basis) ≡ step_elements n basis
unfolding step_elements
elements_of_prefix zero basis = refl
elements_of_prefix (suc n) [] = refl
elements_of_prefix (suc n) (b ∷ basis) =
    ap {B = List ℕ} (λ l. b ∷ l)
    (ap (step_elements n) (map-take (one_step b) n basis) ∙ elements_of_prefix n (map (one_step b) basis))

pub length-elements : (n : ℕ) (basis : List ℕ) → n ≤ length basis → length (step_elements n basis) ≡ n
unfolding step_elements
length-elements zero basis h = refl
length-elements (suc n) [] h = absurd (omega arith)
length-elements (suc n) (b ∷ basis) h =
    ap suc (length-elements n (map (one_step b) basis) (omega (arith, length-map basis (one_step b))))

-- element t is what the maps before it make of basis element t
pub element_at : (n : ℕ) (basis : List ℕ) (t : ℕ) → t < n → n ≤ length basis
    → composed_maps (take t (step_elements n basis)) (get_or basis t 0) ≡ get_or (step_elements n basis) t 0
unfolding step_elements composed_maps
element_at zero basis t h l = absurd (omega arith)
element_at (suc n) [] t h l = absurd (omega arith)
element_at (suc n) (b ∷ basis) zero h l = refl
element_at (suc n) (b ∷ basis) (suc t) h l =
    ap (composed_maps (take t (step_elements n (map (one_step b) basis))))
    (sym (get_d_map (one_step b) basis t (omega arith)))
    ∙ element_at n (map (one_step b) basis) t (omega arith) (omega (arith, length-map basis (one_step b)))

-- from one map to the next
pub through_next : (elements : List ℕ) (t y : ℕ) → t < length elements
    → composed_maps (drop (t + 1) elements) (product y (sum y (get_or elements t 0))) ≡ composed_maps (drop t elements) y
unfolding composed_maps one_step
through_next elements t y h =
    ap (λ (n : ℕ). composed_maps (drop n elements) (one_step (get_or elements t 0) y)) (add-one t)
    ∙ sym (ap (λ (l : List ℕ). composed_maps l y) (drop-cons elements t 0 h))

pub through_end : (elements : List ℕ) (t y : ℕ) → length elements ≤ t → composed_maps (drop t elements) y ≡ y
unfolding composed_maps
through_end elements t y h = ap (λ (l : List ℕ). composed_maps l y) (drop_of_length-le elements h)

-- ---- the composition is the product of X - a over the span

twice : ℕ → ℕ
twice zero = zero
twice (suc n) = suc (suc (twice n))

twice_is : (n : ℕ) → twice n ≡ n * 2
unfolding twice
twice_is zero = refl
twice_is (suc n) = omega (arith, twice_is n)

-- factors two by two
vanishing_pairs : (g h : ℕ → ℕ) (x z start count : ℕ)
    → ((j v : ℕ)
    → product (bit_xor x (g (twice j))) (product (bit_xor x (g (suc (twice j)))) v) ≡ product (bit_xor z (h j)) v)
    → vanishing gf64 (tabulated g (twice start) (twice count)) x ≡ vanishing gf64 (tabulated h start count) z
unfolding tabulated vanishing twice
vanishing_pairs g h x z start zero pair = refl
vanishing_pairs g h x z start (suc count) pair =
    pair start (vanishing gf64 (tabulated g (twice (suc start)) (twice count)) x)
    ∙ ap (product (bit_xor z (h start))) (vanishing_pairs g h x z (suc start) count pair)

-- (x + p) · (x + p + b) = f(x) + f(p) for f the map of b
pair_step : (b x p : ℕ) → product (bit_xor x p) (bit_xor x (bit_xor b p)) ≡ bit_xor (one_step b x) (one_step b p)
unfolding one_step
pair_step b x p =
    ap (product (bit_xor x p)) (ap (bit_xor x) (xor_comm b p) ∙ sym (xor_assoc x p b)) ∙ one_step_additive b x p

vanishing_step : (b : ℕ) (basis : List ℕ) (x : ℕ)
    → vanishing gf64 (points 0 (b ∷ basis)) x ≡ vanishing gf64 (points 0 (map (one_step b) basis)) (one_step b x)
unfolding points twice
vanishing_step b basis x =
    ap (λ (n : ℕ). vanishing gf64 (tabulated (point 0 (b ∷ basis)) 0 n) x) doubled
    ∙ vanishing_pairs (point 0 (b ∷ basis)) (point 0 (map (one_step b) basis)) x (one_step b x) 0 (2 ^ length basis) pair
    ∙ ap (λ (n : ℕ). vanishing gf64 (tabulated (point 0 (map (one_step b) basis)) 0 (2 ^ n)) (one_step b x))
    (sym (length-map basis (one_step b)))
  where
    doubled : 2 ^ length (b ∷ basis) ≡ twice (2 ^ length basis)
    doubled = pow-suc 2 (length basis) ∙ sym (twice_is (2 ^ length basis))

    image_of : (j : ℕ) → one_step b (point 0 basis j) ≡ point 0 (map (one_step b) basis) j
    image_of j =
        point-image (one_step b) (one_step_additive b) 0 basis j
        ∙ ap (λ (o : ℕ). point o (map (one_step b) basis) j) (additive_zero (one_step b) (one_step_additive b))

    pair : (j v : ℕ)
        → product (bit_xor x (point 0 (b ∷ basis) (twice j)))
        (product (bit_xor x (point 0 (b ∷ basis) (suc (twice j)))) v)
        ≡ product (bit_xor (one_step b x) (point 0 (map (one_step b) basis) j)) v
    pair j v =
        ap₂ (λ (s t : ℕ). product (bit_xor x s) (product (bit_xor x t) v))
        (ap (point 0 (b ∷ basis)) (twice_is j) ∙ point_even 0 b basis j)
        (ap (λ (n : ℕ). point 0 (b ∷ basis) (suc n)) (twice_is j) ∙ point_odd 0 b basis j)
        ∙ sym (product_assoc (bit_xor x (point 0 basis j)) (bit_xor x (bit_xor b (point 0 basis j))) v)
        ∙ ap (λ (s : ℕ). product s v) (pair_step b x (point 0 basis j) ∙ ap (bit_xor (one_step b x)) (image_of j))

vanishing_through : (n : ℕ) (basis : List ℕ) (x : ℕ) → IsElement x
    → vanishing gf64 (points 0 (take n basis)) x ≡ composed_maps (step_elements n basis) x
unfolding step_elements composed_maps points point tabulated vanishing
vanishing_through zero basis x h = ap (λ (s : ℕ). product s 1) (xor_zero_r x) ∙ product_one_r x h
vanishing_through (suc n) [] x h = ap (λ (s : ℕ). product s 1) (xor_zero_r x) ∙ product_one_r x h
vanishing_through (suc n) (b ∷ basis) x h =
    vanishing_step b (take n basis) x
    ∙ ap (λ (l : List ℕ). vanishing gf64 (points 0 l) (one_step b x)) (map-take (one_step b) n basis)
    ∙ vanishing_through n (map (one_step b) basis) (one_step b x) (one_step_element b x)

pub image_through : (step : ℕ) (basis : List ℕ) (x : ℕ) → IsElement x
    → image step basis x ≡ composed_maps (step_elements step basis) x
unfolding image subspace_polynomial
image_through step basis x h =
    evaluate-vanishing gf64 IsElement gf64_laws (points 0 (take step basis)) x ∙ vanishing_through step basis x h

pub images_through : (step : ℕ) (basis xs : List ℕ) → All IsElement xs
    → map (image step basis) xs ≡ map (composed_maps (step_elements step basis)) xs
images_through step basis xs h = map_agree (image step basis) (composed_maps (step_elements step basis)) xs (every xs h)
  where
    every : (ys : List ℕ) → All IsElement ys
        → All (λ y. image step basis y ≡ composed_maps (step_elements step basis) y) ys
    every [] k = record {}
    every (y ∷ ys) k = (image_through step basis y k.0, every ys k.1)

-- ---- the image of a coset

composed_images : (elements : List ℕ) (b n : ℕ) (basis : List ℕ)
    → map (composed_maps elements) (drop n (map (one_step b) basis))
    ≡ map (λ x. composed_maps elements (one_step b x)) (drop n basis)
composed_images elements b n basis =
    ap (map (composed_maps elements)) (sym (map-drop (one_step b) n basis))
    ∙ map-map (composed_maps elements) (one_step b) (drop n basis)

pub through_point : (n : ℕ) (offset : ℕ) (basis : List ℕ) (i : ℕ)
    → composed_maps (step_elements n basis) (point offset basis i)
    ≡ point (composed_maps (step_elements n basis) offset)
    (map (composed_maps (step_elements n basis)) (drop n basis)) (i / 2 ^ n)
unfolding step_elements composed_maps point
through_point zero offset basis i = ap₂ (point offset) (sym (map-id basis)) (sym (div_one i))
  where
    div_one : (m : ℕ) → m / 2 ^ 0 ≡ m
    div_one m = omega arith
through_point (suc n) offset [] i = refl
through_point (suc n) offset (b ∷ basis) i =
    ap (composed_maps (step_elements n (map (one_step b) basis)))
    (point_halved (one_step b) (one_step_additive b) b (one_step_self b) offset basis i)
    ∙ through_point n (one_step b offset) (map (one_step b) basis) (i / 2)
    ∙ ap₂ (point (composed_maps (step_elements n (map (one_step b) basis)) (one_step b offset)))
    (composed_images (step_elements n (map (one_step b) basis)) b n basis)
    (shr-shr i 1 n ∙ ap (λ (m : ℕ). i / 2 ^ m) (one_more n))
  where
    one_more : (m : ℕ) → 1 + m ≡ suc m
    one_more m = omega arith

-- ---- independence

absent_anywhere : (earlier elements : List ℕ) (place other : ℕ)
    → first_dependent_after earlier elements place ≡ None → first_dependent_after earlier elements other ≡ None
unfolding first_dependent_after
absent_anywhere earlier [] place other e = refl
absent_anywhere earlier (b ∷ elements) place other e =
    by_test (in_span earlier b) e (absent_anywhere (earlier ++ (b ∷ [])) elements (suc place) (suc other))
  where
    by_test : (t : Bool) → cond t (Some place) (first_dependent_after (earlier ++ (b ∷ [])) elements (suc place)) ≡ None
        → (first_dependent_after (earlier ++ (b ∷ [])) elements (suc place) ≡ None
        → first_dependent_after (earlier ++ (b ∷ [])) elements (suc other) ≡ None)
        → cond t (Some other) (first_dependent_after (earlier ++ (b ∷ [])) elements (suc other)) ≡ None
    by_test true h later = absurd (at_not_absent place h)
    by_test false h later = later h

-- without the first element the others' images are independent
independent_step : (b : ℕ) (basis : List ℕ) → All IsElement (b ∷ basis) → Independent (b ∷ basis)
    → Independent (map (one_step b) basis)
unfolding first_dependent first_dependent_after in_span
independent_step b basis h d =
    absent_anywhere [] (map (one_step b) basis) 1 0
    (sym (first_image IsElement (xor_lt 64) (one_step b) b (one_step_additive b) (one_step_kernel b h.0) [] basis 1
    (record {}) h.1) ∙ others)
  where
    others : first_dependent_after (b ∷ []) basis 1 ≡ None
    others =
        sym (ap (λ (t : Bool). cond t (Some 0) (first_dependent_after (b ∷ []) basis 1))
        (ne_eqb b 0 (first_not_zero b basis 0 d))) ∙ d

pub independent_through : (n : ℕ) (basis : List ℕ) → All IsElement basis → Independent basis
    → Independent (map (composed_maps (step_elements n basis)) (drop n basis))
unfolding step_elements composed_maps
independent_through zero basis h d = subst Independent (sym (map-id basis)) d
independent_through (suc n) [] h d = d
independent_through (suc n) (b ∷ basis) h d =
    subst Independent
    (composed_images (step_elements n (map (one_step b) basis)) b n basis)
    (independent_through n (map (one_step b) basis) (mapped_elements b basis h.1) (independent_step b basis h d))

-- no map of an independent basis has the element zero
pub elements_not_zero : (n : ℕ) (basis : List ℕ) → All IsElement basis → Independent basis
    → All (λ e. e ≢ 0) (step_elements n basis)
unfolding step_elements first_dependent
elements_not_zero zero basis h d = record {}
elements_not_zero (suc n) [] h d = record {}
elements_not_zero (suc n) (b ∷ basis) h d = (
  first_not_zero b basis 0 d,
  elements_not_zero n (map (one_step b) basis) (mapped_elements b basis h.1) (independent_step b basis h d),
)

-- the same for a list that is said to be theirs
pub listed_not_zero : (n : ℕ) (basis elements : List ℕ) → All IsElement basis → Independent basis
    → elements ≡ step_elements n basis → All (λ e. e ≢ 0) elements
listed_not_zero n basis elements h d e = subst (All (λ e. e ≢ 0)) (sym e) (elements_not_zero n basis h d)

-- ---- zero exactly on the span

pub zero_through : (n : ℕ) (basis : List ℕ) (x : ℕ) → All IsElement basis → IsElement x
    → eqb (composed_maps (step_elements n basis) x) 0 ≡ in_span (take n basis) x
unfolding step_elements composed_maps in_span
zero_through zero basis x h k = refl
zero_through (suc n) [] x h k = refl
zero_through (suc n) (b ∷ basis) x h k =
    zero_through n (map (one_step b) basis) (one_step b x) (mapped_elements b basis h.1) (one_step_element b x)
    ∙ ap (λ (l : List ℕ). in_span l (one_step b x)) (sym (map-take (one_step b) n basis))
    ∙ span_image IsElement (xor_lt 64) (one_step b) b (one_step_additive b) (one_step_kernel b h.0) (take n basis) x
    (all_take IsElement n basis h.1) k
