-- The span as the coset with offset 0, points moved by an element, and what `first_dependent` finds. Assumes nothing.
use mathlib.Core.Path.{◌≡◌, refl, sym, ap, ap₂, ◌∙◌, subst}
use mathlib.Core.Bool.{Bool, true, false, cond, ◌||◌, or-true}
use mathlib.Core.List.{List, [], ◌∷◌, ◌++◌, map, append_assoc, append-nil}
use Prim.Native.Nat.{ℕ, zero, suc, ◌+◌, ◌*◌, ◌/◌, ◌%◌, ◌^◌, ◌<◌}
use native.Mathlib.Nat.{zero-mul, one-mul, pow-suc, add-zero, zero-add, add-suc, suc-add, not-suc-le-zero}
use native.Mathlib.Omega.{arith}
use lib.ListN.{length, get_or, take}
use lib.Dec.{T, eqb→eq}
use lib.Bits.{bit_xor, xor_comm, xor_zero_r}
use Rattle.gf64.specs.Field.{sum}
use Rattle.gf64.proofs.Xor.{xor_assoc, xor_left_comm, xor_cancel, by_bit}
use Rattle.std.specs.Prelude.{Some, None}
use Rattle.coset.specs.Coset.{point, points}
use Rattle.coset.specs.Span.{in_span, first_dependent_after, first_dependent, Independent}
use Rattle.coset.proofs.Span.{at_not_absent}
use Rattle.coset.proofs.Points.{point_even, point_odd, map-tabulated, tabulated_agree}

-- ---- the span

pub point_shifted : (offset : ℕ) (basis : List ℕ) (j : ℕ) → point offset basis j ≡ sum offset (point 0 basis j)
unfolding point
point_shifted offset [] j = sym (xor_zero_r offset)
point_shifted offset (b ∷ basis) j =
    ap (bit_xor (j % 2 * b)) (point_shifted offset basis (j / 2))
    ∙ xor_left_comm (j % 2 * b) offset (point 0 basis (j / 2))

-- an element in the offset, or beside it
pub point_moved : (offset x : ℕ) (basis : List ℕ) (j : ℕ) → point (sum offset x) basis j ≡ sum x (point offset basis j)
point_moved offset x basis j =
    point_shifted (sum offset x) basis j ∙ ap (λ (s : ℕ). sum s (point 0 basis j)) (xor_comm offset x)
    ∙ xor_assoc x offset (point 0 basis j) ∙ ap (sum x) (sym (point_shifted offset basis j))

pub points_moved : (offset x : ℕ) (basis : List ℕ) → map (sum x) (points offset basis) ≡ points (sum offset x) basis
unfolding points
points_moved offset x basis =
    map-tabulated (sum x) (point offset basis) 0 (2 ^ length basis)
    ∙ tabulated_agree (λ j. sum x (point offset basis j)) (point (sum offset x) basis) 0 (2 ^ length basis)
    (λ j l u. sym (point_moved offset x basis j))

-- point 0 is the offset
pub point_first : (offset : ℕ) (basis : List ℕ) → point offset basis 0 ≡ offset
unfolding point
point_first offset [] = refl
point_first offset (b ∷ basis) = ap₂ bit_xor (zero-mul b) (point_first offset basis)

abbrev Reached : List ℕ → ℕ → Type 0
Reached elements a = (j : ℕ) × (j < 2 ^ length elements) × (point 0 elements j ≡ a)

or_cases : (s t : Bool) (P : Type 0) → (s ≡ true → P) → (t ≡ true → P) → (s || t) ≡ true → P
or_cases true t P f g e = f refl
or_cases false t P f g e = g e

without_first : (b : ℕ) (elements : List ℕ) (a : ℕ) → Reached elements a → Reached (b ∷ elements) a
without_first b elements a r =
    (r.0 * 2, omega (arith, r.1, pow-suc 2 (length elements)), point_even 0 b elements r.0 ∙ r.2)

with_first : (b : ℕ) (elements : List ℕ) (a : ℕ) → Reached elements (bit_xor a b) → Reached (b ∷ elements) a
with_first b elements a r = (
  suc (r.0 * 2),
  omega (arith, r.1, pow-suc 2 (length elements)),
  point_odd 0 b elements r.0 ∙ ap (bit_xor b) (r.2 ∙ xor_comm a b) ∙ xor_cancel b a,
)

pub reached_of_span : (elements : List ℕ) (a : ℕ) → in_span elements a ≡ true → Reached elements a
unfolding in_span point
reached_of_span [] a e = (0, omega arith, sym (eqb→eq a 0 (subst T (sym e) tt)))
reached_of_span (b ∷ elements) a e =
    or_cases (in_span elements a) (in_span elements (bit_xor a b)) (Reached (b ∷ elements) a)
    (λ s. without_first b elements a (reached_of_span elements a s))
    (λ s. with_first b elements a (reached_of_span elements (bit_xor a b) s)) e

span_cons : (b : ℕ) (elements : List ℕ) (j p : ℕ) → in_span elements p ≡ true
    → in_span (b ∷ elements) (bit_xor (j % 2 * b) p) ≡ true
unfolding in_span
span_cons b elements j p h =
    by_bit (λ (d : ℕ). (in_span elements (bit_xor (d * b) p) || in_span elements (bit_xor (bit_xor (d * b) p) b)) ≡ true)
    (ap (λ (t : Bool). t || in_span elements (bit_xor (bit_xor (0 * b) p) b))
    (ap (λ (s : ℕ). in_span elements (bit_xor s p)) (zero-mul b) ∙ h))
    (ap (λ (t : Bool). in_span elements (bit_xor (1 * b) p) || t)
    (ap (in_span elements) (ap (λ (s : ℕ). bit_xor (bit_xor s p) b) (one-mul b) ∙ xor_comm (bit_xor b p) b ∙ xor_cancel b p)
    ∙ h)
    ∙ or-true (in_span elements (bit_xor (1 * b) p))) j

pub span_of_point : (elements : List ℕ) (j : ℕ) → in_span elements (point 0 elements j) ≡ true
unfolding in_span point
span_of_point [] j = refl
span_of_point (b ∷ elements) j = span_cons b elements j (point 0 elements (j / 2)) (span_of_point elements (j / 2))

-- ---- the first dependent place

-- whether element t lies in the span of those before it, where `earlier` stand before them all
abbrev dependent_at : List ℕ → List ℕ → ℕ → Bool
dependent_at earlier elements t = in_span (earlier ++ take t elements) (get_or elements t 0)

at_first : (earlier : List ℕ) (b : ℕ) (elements : List ℕ) → dependent_at earlier (b ∷ elements) 0 ≡ in_span earlier b
at_first earlier b elements = ap (λ (l : List ℕ). in_span l b) (append-nil earlier)

at_later : (earlier : List ℕ) (b : ℕ) (elements : List ℕ) (t : ℕ)
    → dependent_at earlier (b ∷ elements) (suc t) ≡ dependent_at (earlier ++ (b ∷ [])) elements t
at_later earlier b elements t =
    ap (λ (l : List ℕ). in_span l (get_or elements t 0)) (sym (append_assoc earlier (b ∷ []) (take t elements)))

at_equal : (m n : ℕ) → Some m ≡ Some n → m ≡ n
at_equal m n e = cc

-- the place found is that of the first dependent element
record Found (earlier elements : List ℕ) (place i : ℕ) : Type 0 where
  index : ℕ
  placed : i ≡ place + index
  inside : index < length elements
  dependent : dependent_at earlier elements index ≡ true
  before : (t : ℕ) → t < index → dependent_at earlier elements t ≡ false

found_first : (earlier : List ℕ) (b : ℕ) (elements : List ℕ) (place i : ℕ) → in_span earlier b ≡ true → Some place ≡ Some i
    → Found earlier (b ∷ elements) place i
found_first earlier b elements place i d e =
    record {
      index = 0;
      placed = sym (at_equal place i e) ∙ sym (add-zero place);
      inside = omega arith;
      dependent = at_first earlier b elements ∙ d;
      before = λ t h. absurd (not-suc-le-zero h);
    }

found_later : (earlier : List ℕ) (b : ℕ) (elements : List ℕ) (place i : ℕ) → in_span earlier b ≡ false
    → Found (earlier ++ (b ∷ [])) elements (suc place) i → Found earlier (b ∷ elements) place i
found_later earlier b elements place i d f =
    record {
      index = suc f.index;
      placed = f.placed ∙ suc-add place f.index ∙ sym (add-suc place f.index);
      inside = omega (arith, f.inside);
      dependent = at_later earlier b elements f.index ∙ f.dependent;
      before = none_before;
    }
  where
    none_before : (t : ℕ) → t < suc f.index → dependent_at earlier (b ∷ elements) t ≡ false
    none_before zero h = at_first earlier b elements ∙ d
    none_before (suc t) h = at_later earlier b elements t ∙ f.before t (omega arith)

found_after : (earlier elements : List ℕ) (place i : ℕ) → first_dependent_after earlier elements place ≡ Some i
    → Found earlier elements place i
unfolding first_dependent_after
found_after earlier [] place i e = absurd (at_not_absent i (sym e))
found_after earlier (b ∷ elements) place i e =
    by_test (in_span earlier b) refl e (found_after (earlier ++ (b ∷ [])) elements (suc place) i)
  where
    by_test : (t : Bool) → in_span earlier b ≡ t
        → cond t (Some place) (first_dependent_after (earlier ++ (b ∷ [])) elements (suc place)) ≡ Some i
        → (first_dependent_after (earlier ++ (b ∷ [])) elements (suc place) ≡ Some i
        → Found (earlier ++ (b ∷ [])) elements (suc place) i)
        → Found earlier (b ∷ elements) place i
    by_test true d h later = found_first earlier b elements place i d h
    by_test false d h later = found_later earlier b elements place i d (later h)

none_after : (earlier elements : List ℕ) (place : ℕ) → first_dependent_after earlier elements place ≡ None
    → (t : ℕ) → t < length elements → dependent_at earlier elements t ≡ false
unfolding first_dependent_after
none_after earlier [] place e t h = absurd (omega arith)
none_after earlier (b ∷ elements) place e t h =
    by_test (in_span earlier b) refl e (none_after (earlier ++ (b ∷ [])) elements (suc place)) t h
  where
    by_test : (s : Bool) → in_span earlier b ≡ s
        → cond s (Some place) (first_dependent_after (earlier ++ (b ∷ [])) elements (suc place)) ≡ None
        → (first_dependent_after (earlier ++ (b ∷ [])) elements (suc place) ≡ None → (t : ℕ) → t < length elements
        → dependent_at (earlier ++ (b ∷ [])) elements t ≡ false)
        → (t : ℕ) → t < suc (length elements) → dependent_at earlier (b ∷ elements) t ≡ false
    by_test true d k later t l = absurd (at_not_absent place k)
    by_test false d k later zero l = at_first earlier b elements ∙ d
    by_test false d k later (suc t) l = at_later earlier b elements t ∙ later k t (omega arith)

pub first_found : (basis : List ℕ) (i : ℕ) → first_dependent basis ≡ Some i
    → (i < length basis) × (in_span (take i basis) (get_or basis i 0) ≡ true)
unfolding first_dependent
first_found basis i e =
    let f : Found [] basis 0 i = found_after [] basis 0 i e in
    let same : f.index ≡ i = sym (f.placed ∙ zero-add f.index) in (
      subst (λ (n : ℕ). n < length basis) same f.inside,
      subst (λ (n : ℕ). dependent_at [] basis n ≡ true) same f.dependent,
    )

pub first_before : (basis : List ℕ) (i t : ℕ) → first_dependent basis ≡ Some i → t < i
    → in_span (take t basis) (get_or basis t 0) ≡ false
unfolding first_dependent
first_before basis i t e h =
    let f : Found [] basis 0 i = found_after [] basis 0 i e in
    f.before t (omega (arith, f.placed))

pub none_dependent : (basis : List ℕ) (t : ℕ) → Independent basis → t < length basis
    → in_span (take t basis) (get_or basis t 0) ≡ false
unfolding first_dependent
none_dependent basis t e h = none_after [] basis 0 e t h
