-- Halving a coset, its points moved by the challenge, until one entry is left gives the value of its interpolant at the
-- challenge. Assumes nothing.
use mathlib.Core.Path.{◌≡◌, refl, sym, ap, ap₂, ◌∙◌, subst}
use mathlib.Core.List.{List, [], ◌∷◌, map}
use Prim.Native.Nat.{ℕ, zero, suc, ◌+◌, ◌*◌, ◌-◌, ◌^◌, ◌<◌, ◌≤◌}
use native.Mathlib.Nat.{pow-suc, le_of_eq, zero-add}
use native.Mathlib.Omega.{arith}
use lib.ListN.{length, get_or, take, drop, length-map, length-drop}
use lib.Seq.{length-take-le, drop-cons, ext_get_or}
use lib.Bits.{bit_xor, xor_comm, xor_self, xor_zero_r}
use Rattle.gf64.specs.Field.{IsElement, sum, product, inverse}
use Rattle.gf64.proofs.Ring.{product_comm, product-zero_r}
use Rattle.gf64.proofs.Xor.{xor_assoc}
use Rattle.poly.specs.Carrier.{gf64}
use Rattle.poly.proofs.AtField.{gf64_laws}
use Rattle.poly.proofs.Evaluation.{evaluate-times_linear}
use Rattle.poly.specs.Polynomial.{All, evaluate, divided_differences, interpolant}
use Rattle.coset.specs.Coset.{point, tabulated, points}
use Rattle.coset.specs.Subspace.{next_offset, next_basis, image}
use Rattle.coset.specs.Steps.{one_step, composed_maps, step_elements}
use Rattle.coset.proofs.Points.{point_even, point_odd, point-image, point-element, point_parted}
use Rattle.coset.proofs.Points.{get_or-points, length-tabulated, get_or-tabulated, tabulated_agree}
use Rattle.coset.proofs.Dependence.{point_moved, points_moved}
use Rattle.coset.proofs.Steps.{one_step_additive, one_step_element, length-elements, elements_of_prefix, image_through}
use Rattle.coset.proofs.Subspace.{next_offset_through, next_basis_through, cosets_of}
use Rattle.coset.proofs.Dimension.{independent_prefix}
use Rattle.poly.proofs.Entries.{all_take, all_drop}
use Rattle.reed_solomon.specs.Codes.{interpolated}
use Rattle.fold.specs.Fold.{coset_points, coset_entries, fold_entry, folded}
use Rattle.fold.specs.Halving.{line_at, halved_points, halved_entries, value_at}
use Rattle.fold.specs.Theorems.{IsWord}
use Rattle.fold.proofs.Folding.{coset_within, value_of_fold, fold_is_word}

-- the interpolant of one point is its value
one_point : (p u x : ℕ) → evaluate gf64 (interpolant gf64 (p ∷ []) (u ∷ [])) x ≡ u
unfolding interpolant evaluate
one_point p u x =
    evaluate-times_linear gf64 IsElement gf64_laws u p [] x ∙ ap (bit_xor u) (product-zero_r (bit_xor x p)) ∙ xor_zero_r u

-- that of two points is a line
two_points : (p p' u v x : ℕ)
    → evaluate gf64 (interpolant gf64 (p ∷ p' ∷ []) (u ∷ v ∷ [])) x ≡ line_at (inverse (bit_xor p' p)) (bit_xor x p) u v
unfolding interpolant divided_differences line_at
two_points p p' u v x =
    evaluate-times_linear gf64 IsElement gf64_laws u p (interpolant gf64 (p' ∷ []) (slope ∷ [])) x
    ∙ ap (λ (s : ℕ). bit_xor u (product (bit_xor x p) s))
    (one_point p' slope x ∙ product_comm (inverse (bit_xor p' p)) (bit_xor v u)
    ∙ ap (λ (s : ℕ). product s (inverse (bit_xor p' p))) (xor_comm v u))
  where
    slope : ℕ
    slope = product (inverse (bit_xor p' p)) (bit_xor v u)

pub line_is : (i m u v : ℕ) → sum u (product m (product (sum u v) i)) ≡ line_at i m u v
unfolding line_at
line_is i m u v = refl

-- ---- folding with step 1 is halving

one_step_is : (b x : ℕ) → product x (bit_xor x b) ≡ one_step b x
unfolding one_step
one_step_is b x = refl

length_one_less : (b : ℕ) (basis : List ℕ) → length (b ∷ basis) - 1 ≡ length basis
length_one_less b basis = omega arith

pub next_offset_one : (offset b : ℕ) (basis : List ℕ) → IsElement offset
    → next_offset 1 offset (b ∷ basis) ≡ one_step b offset
unfolding step_elements composed_maps
next_offset_one offset b basis h = next_offset_through 1 offset (b ∷ basis) h

pub next_basis_one : (b : ℕ) (basis : List ℕ) → All IsElement (b ∷ basis)
    → next_basis 1 (b ∷ basis) ≡ map (one_step b) basis
unfolding step_elements composed_maps
next_basis_one b basis h = next_basis_through 1 (b ∷ basis) h

image_one : (b : ℕ) (basis : List ℕ) (x : ℕ) → IsElement x → image 1 (b ∷ basis) x ≡ one_step b x
unfolding step_elements composed_maps
image_one b basis x h = image_through 1 (b ∷ basis) x h

two_entries : (xs : List ℕ) (i : ℕ) → suc i < length xs → take 2 (drop i xs) ≡ get_or xs i 0 ∷ get_or xs (suc i) 0 ∷ []
two_entries xs i h =
    ap (take 2) (drop-cons xs i 0 (omega arith) ∙ ap {B = List ℕ} (λ l. get_or xs i 0 ∷ l) (drop-cons xs (suc i) 0 h))

module _ (offset b : ℕ) (basis word : List ℕ) (fits : length word ≡ 2 ^ length (b ∷ basis)) where
  pair_inside : (j : ℕ) → j < 2 ^ length basis → suc (j * 2) < 2 ^ length (b ∷ basis)
  pair_inside j h = omega (arith, pow-suc 2 (length basis))

  entry_one : (x j : ℕ) → j < 2 ^ length basis
      → line_at (inverse b) (get_or (points (sum offset x) (b ∷ basis)) (j * 2) 0) (get_or word (j * 2) 0)
      (get_or word (suc (j * 2)) 0)
      ≡ fold_entry 1 offset (b ∷ basis) word x j
  unfolding fold_entry coset_points coset_entries tabulated
  entry_one x j h =
      ap (λ (m : ℕ). line_at (inverse b) m u v)
      (get_or-points (sum offset x) (b ∷ basis) (j * 2) (omega (arith, pair_inside j h))
      ∙ point_moved offset x (b ∷ basis) (j * 2))
      ∙ ap (λ (e : ℕ). line_at (inverse e) (sum x (point offset (b ∷ basis) (j * 2))) u v) (sym difference)
      ∙ sym (two_points (point offset (b ∷ basis) (j * 2)) (point offset (b ∷ basis) (suc (j * 2))) u v x)
      ∙ ap (λ (l : List ℕ). evaluate gf64
      (interpolant gf64 (point offset (b ∷ basis) (j * 2) ∷ point offset (b ∷ basis) (suc (j * 2)) ∷ []) l) x)
      (sym (two_entries word (j * 2) (omega (arith, pair_inside j h))))
    where
      u : ℕ
      u = get_or word (j * 2) 0

      v : ℕ
      v = get_or word (suc (j * 2)) 0

      difference : bit_xor (point offset (b ∷ basis) (suc (j * 2))) (point offset (b ∷ basis) (j * 2)) ≡ b
      difference =
          ap₂ bit_xor (point_odd offset b basis j) (point_even offset b basis j)
          ∙ xor_assoc b (point offset basis j) (point offset basis j) ∙ ap (bit_xor b) (xor_self (point offset basis j))
          ∙ xor_zero_r b

  pub halved-entries : (x : ℕ) → halved_entries (inverse b) (2 ^ length basis) (points (sum offset x) (b ∷ basis)) word
      ≡ folded 1 offset (b ∷ basis) word x
  unfolding halved_entries folded
  halved-entries x =
      tabulated_agree
      (λ i. line_at (inverse b) (get_or (points (sum offset x) (b ∷ basis)) (i * 2) 0) (get_or word (i * 2) 0)
      (get_or word (suc (i * 2)) 0))
      (fold_entry 1 offset (b ∷ basis) word x) 0 (2 ^ length basis) (λ j l u. entry_one x j (omega arith))
      ∙ ap (λ (n : ℕ). tabulated (fold_entry 1 offset (b ∷ basis) word x) 0 (2 ^ n)) (sym (length_one_less b basis))

  product_one : (j : ℕ) → j < 2 ^ length basis
      → product (get_or (points offset (b ∷ basis)) (j * 2) 0) (get_or (points offset (b ∷ basis)) (suc (j * 2)) 0)
      ≡ point (one_step b offset) (map (one_step b) basis) j
  product_one j h =
      ap₂ product
      (get_or-points offset (b ∷ basis) (j * 2) (omega (arith, pair_inside j h)) ∙ point_even offset b basis j)
      (get_or-points offset (b ∷ basis) (suc (j * 2)) (pair_inside j h) ∙ point_odd offset b basis j
      ∙ xor_comm b (point offset basis j))
      ∙ one_step_is b (point offset basis j)
      ∙ point-image (one_step b) (one_step_additive b) offset basis j

  pub halved-points : halved_points (2 ^ length basis) (points offset (b ∷ basis))
      ≡ points (one_step b offset) (map (one_step b) basis)
  unfolding halved_points points
  halved-points =
      tabulated_agree
      (λ i. product (get_or (points offset (b ∷ basis)) (i * 2) 0) (get_or (points offset (b ∷ basis)) (suc (i * 2)) 0))
      (point (one_step b offset) (map (one_step b) basis)) 0 (2 ^ length basis) (λ j l u. product_one j (omega arith))
      ∙ ap (λ (n : ℕ). tabulated (point (one_step b offset) (map (one_step b) basis)) 0 (2 ^ n))
      (sym (length-map basis (one_step b)))

-- ---- halving until one entry is left

folded_is_word : (offset b : ℕ) (basis word : List ℕ) (x : ℕ) → IsWord offset (b ∷ basis) word → IsElement x
    → IsWord (one_step b offset) (map (one_step b) basis) (folded 1 offset (b ∷ basis) word x)
folded_is_word offset b basis word x w h =
    subst (λ (o : ℕ). IsWord o (map (one_step b) basis) (folded 1 offset (b ∷ basis) word x))
    (next_offset_one offset b basis w.offset_element)
    (subst (λ (l : List ℕ). IsWord (next_offset 1 offset (b ∷ basis)) l (folded 1 offset (b ∷ basis) word x))
    (next_basis_one b basis w.basis_elements) (fold_is_word 1 offset (b ∷ basis) word w (omega arith) x h))

value_at_one : (offset u x : ℕ) → evaluate gf64 (interpolated offset [] (u ∷ [])) x ≡ u
unfolding interpolated points tabulated point
value_at_one offset u x = one_point offset u x

pub value_by_halving : (offset : ℕ) (basis word : List ℕ) (x n : ℕ) → length basis ≡ n → IsWord offset basis word
    → IsElement x
    → value_at (map inverse (step_elements n basis)) (points (sum offset x) basis) word
    ≡ evaluate gf64 (interpolated offset basis word) x
unfolding value_at step_elements
value_by_halving offset [] [] x zero l w h = absurd (omega (arith, w.count))
value_by_halving offset [] (u ∷ []) x zero l w h = sym (value_at_one offset u x)
value_by_halving offset [] (u ∷ v ∷ word) x zero l w h = absurd (omega (arith, w.count))
value_by_halving offset [] word x (suc n) l w h = absurd (omega arith)
value_by_halving offset (b ∷ basis) word x zero l w h = absurd (omega arith)
value_by_halving offset (b ∷ basis) word x (suc n) l w h =
    ap (λ (c : ℕ). value_at inverses (halved_points c (points (sum offset x) (b ∷ basis)))
    (halved_entries (inverse b) c (points (sum offset x) (b ∷ basis)) word)) count
    ∙ ap₂ (value_at inverses) still_moved (halved-entries offset b basis word w.count x)
    ∙ value_by_halving (one_step b offset) (map (one_step b) basis) (folded 1 offset (b ∷ basis) word x) (one_step b x) n
    (length-map basis (one_step b) ∙ omega arith) (folded_is_word offset b basis word x w h) (one_step_element b x)
    ∙ ap₂ (λ (p : List ℕ) (y : ℕ). evaluate gf64 p y) next_is image_is
    ∙ sym (value_of_fold 1 offset (b ∷ basis) word w (omega arith) x h)
  where
    inverses : List ℕ
    inverses = map inverse (step_elements n (map (one_step b) basis))

    -- by the image of the challenge
    still_moved : halved_points (2 ^ length basis) (points (sum offset x) (b ∷ basis))
        ≡ points (sum (one_step b offset) (one_step b x)) (map (one_step b) basis)
    still_moved =
        halved-points (sum offset x) b basis word w.count
        ∙ ap (λ (o : ℕ). points o (map (one_step b) basis)) (one_step_additive b offset x)

    count : 2 ^ length inverses ≡ 2 ^ length basis
    count =
        ap (λ (m : ℕ). 2 ^ m)
        (length-map (step_elements n (map (one_step b) basis)) inverse
        ∙ length-elements n (map (one_step b) basis) (le_of_eq (omega (arith, length-map basis (one_step b))))
        ∙ omega arith)

    next_is : interpolated (one_step b offset) (map (one_step b) basis) (folded 1 offset (b ∷ basis) word x)
        ≡ interpolated (next_offset 1 offset (b ∷ basis)) (next_basis 1 (b ∷ basis)) (folded 1 offset (b ∷ basis) word x)
    next_is =
        sym
        (ap₂ (λ (o : ℕ) (l : List ℕ). interpolated o l (folded 1 offset (b ∷ basis) word x))
        (next_offset_one offset b basis w.offset_element) (next_basis_one b basis w.basis_elements))

    image_is : one_step b x ≡ image 1 (b ∷ basis) x
    image_is = sym (image_one b basis x h)

-- ---- an entry of the fold

-- coset j of the fold is the coset over the first elements whose offset is point j over the others
pub coset_points_are : (step offset : ℕ) (basis : List ℕ) (j : ℕ) → step ≤ length basis
    → coset_points step offset basis j ≡ points (point offset (drop step basis) j) (take step basis)
unfolding coset_points points
coset_points_are step offset basis j h =
    ext_get_or 0 (tabulated (point offset basis) (j * 2 ^ step) (2 ^ step))
    (tabulated first 0 (2 ^ length (take step basis)))
    (length-tabulated (point offset basis) (j * 2 ^ step) (2 ^ step)
    ∙ sym (length-tabulated first 0 (2 ^ length (take step basis)) ∙ size)) entry
  where
    first : ℕ → ℕ
    first = point (point offset (drop step basis) j) (take step basis)

    size : 2 ^ length (take step basis) ≡ 2 ^ step
    size = ap (λ (n : ℕ). 2 ^ n) (length-take-le step basis h)

    entry : (i : ℕ) → i < length (tabulated (point offset basis) (j * 2 ^ step) (2 ^ step))
        → get_or (tabulated (point offset basis) (j * 2 ^ step) (2 ^ step)) i 0
        ≡ get_or (tabulated first 0 (2 ^ length (take step basis))) i 0
    entry i l =
        let inside : i < 2 ^ step = omega (arith, length-tabulated (point offset basis) (j * 2 ^ step) (2 ^ step)) in
        get_or-tabulated (point offset basis) (j * 2 ^ step) (2 ^ step) i inside
        ∙ point_parted step offset basis j i inside h
        ∙ sym (get_or-tabulated first 0 (2 ^ length (take step basis)) i (subst (λ (n : ℕ). i < n) (sym size) inside)
        ∙ ap first (zero-add i))

pub length-coset_entries : (step : ℕ) (word : List ℕ) (j : ℕ) → j * 2 ^ step + 2 ^ step ≤ length word
    → length (coset_entries step word j) ≡ 2 ^ step
unfolding coset_entries
length-coset_entries step word j h =
    length-take-le (2 ^ step) (drop (j * 2 ^ step) word) (omega (arith, length-drop (j * 2 ^ step) word))

pub coset_is_word : (step offset : ℕ) (basis word : List ℕ) (j : ℕ) → IsWord offset basis word → step ≤ length basis
    → j < 2 ^ (length basis - step)
    → IsWord (point offset (drop step basis) j) (take step basis) (coset_entries step word j)
unfolding coset_entries
coset_is_word step offset basis word j w fits h =
    record {
      offset_element =
          point-element offset (drop step basis) j w.offset_element
          (all_drop IsElement step basis w.basis_elements);
      basis_elements = all_take IsElement step basis w.basis_elements;
      word_elements =
          all_take IsElement (2 ^ step) (drop (j * 2 ^ step) word)
          (all_drop IsElement (j * 2 ^ step) word w.word_elements);
      independent = independent_prefix step basis w.independent;
      count =
          length-coset_entries step word j
          (subst (λ (n : ℕ). j * 2 ^ step + 2 ^ step ≤ n) (cosets_of step (length basis) fits ∙ sym w.count)
          (coset_within j (2 ^ (length basis - step)) (2 ^ step) h))
          ∙ ap (λ (n : ℕ). 2 ^ n) (sym (length-take-le step basis fits));
    }

pub entry_by_halving : (step offset : ℕ) (basis word : List ℕ) (x j : ℕ) → IsWord offset basis word → IsElement x
    → step ≤ length basis → j < 2 ^ (length basis - step)
    → value_at (map inverse (step_elements step basis))
    (points (sum (point offset (drop step basis) j) x) (take step basis)) (coset_entries step word j)
    ≡ fold_entry step offset basis word x j
unfolding fold_entry interpolated
entry_by_halving step offset basis word x j w hx fits h =
    ap (λ (l : List ℕ). value_at (map inverse l) (points (sum first x) (take step basis)) (coset_entries step word j))
    (sym (elements_of_prefix step basis))
    ∙ value_by_halving first (take step basis) (coset_entries step word j) x step (length-take-le step basis fits)
    (coset_is_word step offset basis word j w fits h) hx
    ∙ ap (λ (l : List ℕ). evaluate gf64 (interpolant gf64 l (coset_entries step word j)) x)
    (sym (coset_points_are step offset basis j fits))
  where
    first : ℕ
    first = point offset (drop step basis) j

pub entry_of_coset : (step offset : ℕ) (basis word : List ℕ) → IsWord offset basis word → step ≤ length basis
    → (x j : ℕ) → IsElement x → j < 2 ^ (length basis - step)
    → value_at (map inverse (step_elements step basis)) (map (sum x) (coset_points step offset basis j))
    (coset_entries step word j)
    ≡ fold_entry step offset basis word x j
entry_of_coset step offset basis word w fits x j hx h =
    ap (λ (l : List ℕ). value_at (map inverse (step_elements step basis)) l (coset_entries step word j))
    (ap (map (sum x)) (coset_points_are step offset basis j fits)
    ∙ points_moved (point offset (drop step basis) j) x (take step basis))
    ∙ entry_by_halving step offset basis word x j w hx fits h
