-- The coset value: equal where its three parts are; what halving it gives, what moving its points gives, and the
-- values of the cosets one after the other. Assumes nothing.
use mathlib.Core.Path.{◌≡◌, refl, sym, ap, ap₂, ◌∙◌}
use mathlib.Core.List.{List, [], ◌∷◌, ◌++◌, map}
use Prim.Native.Nat.{ℕ, suc, ◌+◌, ◌*◌, ◌-◌, ◌/◌, ◌^◌, ◌<◌, ◌≤◌}
use native.Mathlib.Nat.{zero-add, pow-suc}
use native.Mathlib.Numerals.{add-one}
use native.Mathlib.Omega.{arith}
use lib.ListN.{length, get_or, take, drop, length-map, length-drop, drop_of_length-le}
use lib.Seq.{drop-cons, get_or-take}
use Rattle.gf64.specs.Field.{sum, product}
use Rattle.gf64.proofs.Xor.{xor_assoc}
use Rattle.poly.specs.Carrier.{gf64}
use Rattle.poly.specs.Polynomial.{padded}
use Rattle.poly.proofs.Evaluation.{length-padded}
use Rattle.poly.proofs.Filling.{filled, take_filled, get_d_map, get_or-padded}
use Rattle.coset.specs.Coset.{point, tabulated}
use Rattle.coset.proofs.Points.{length-tabulated, get_or-tabulated, tabulated_agree}
use Rattle.coset.proofs.Dependence.{point_moved}
use Rattle.fold.specs.Halving.{line_at, halved_points, halved_entries, value_at, coset_value, coset_values}
use Rattle.field.specs.declared.Element.{Element}
use Rattle.coset_value.specs.declared.Coset.{Coset}
use Rattle.coset_value.specs.Cosets.{elements, numbers, coset_read}
use Rattle.coset_value.proofs.Arrays.{numbers_of}

abbrev pub coset : (points entries : List Element) (count : ℕ) → Coset
coset points entries count = record { points = points; entries = entries; count = count }

pub coset_equal : (points points' entries entries' : List Element) (count count' : ℕ)
    → points ≡ points' → entries ≡ entries' → count ≡ count'
    → coset points entries count ≡ coset points' entries' count'
coset_equal points points' entries entries' count count' p e n =
    ap₂ (λ (ps es : List Element). coset ps es count) p e ∙ ap (coset points' entries') n

-- ---- one halving

pub length-halved_points : (count : ℕ) (points : List ℕ) → length (halved_points count points) ≡ count
unfolding halved_points
length-halved_points count points =
    length-tabulated (λ i. product (get_or points (i * 2) 0) (get_or points (suc (i * 2)) 0)) 0 count

pub halved_points_at : (count : ℕ) (points : List ℕ) (i : ℕ) → i < count
    → get_or (halved_points count points) i 0 ≡ product (get_or points (i * 2) 0) (get_or points (suc (i * 2)) 0)
unfolding halved_points
halved_points_at count points i h =
    get_or-tabulated (λ n. product (get_or points (n * 2) 0) (get_or points (suc (n * 2)) 0)) 0 count i h
    ∙ ap (λ (n : ℕ). product (get_or points (n * 2) 0) (get_or points (suc (n * 2)) 0)) (zero-add i)

module _ (inverse count : ℕ) (points entries : List ℕ) where
  line : ℕ → ℕ
  line i = line_at inverse (get_or points (i * 2) 0) (get_or entries (i * 2) 0) (get_or entries (suc (i * 2)) 0)

  pub length-halved_entries : length (halved_entries inverse count points entries) ≡ count
  unfolding halved_entries line
  length-halved_entries = length-tabulated line 0 count

  pub halved_entries_at : (i : ℕ) → i < count → get_or (halved_entries inverse count points entries) i 0
      ≡ line_at inverse (get_or points (i * 2) 0) (get_or entries (i * 2) 0) (get_or entries (suc (i * 2)) 0)
  unfolding halved_entries line
  halved_entries_at i h = get_or-tabulated line 0 count i h ∙ ap line (zero-add i)

-- ---- the value depends on the first entries alone

-- two lists have the same first n entries
abbrev pub Same : (n : ℕ) (l l' : List ℕ) → Type 0
Same n l l' = (i : ℕ) → i < n → get_or l i 0 ≡ get_or l' i 0

module _ (count : ℕ) (points points' : List ℕ) (p : Same (2 * count) points points') where
  halved_points-same : halved_points count points ≡ halved_points count points'
  unfolding halved_points
  halved_points-same =
      tabulated_agree (λ i. product (get_or points (i * 2) 0) (get_or points (suc (i * 2)) 0))
      (λ i. product (get_or points' (i * 2) 0) (get_or points' (suc (i * 2)) 0)) 0 count
      (λ i l u. ap₂ product (p (i * 2) (omega arith)) (p (suc (i * 2)) (omega arith)))

  halved_entries-same : (inverse : ℕ) (entries entries' : List ℕ) → Same (2 * count) entries entries'
      → halved_entries inverse count points entries ≡ halved_entries inverse count points' entries'
  unfolding halved_entries line
  halved_entries-same inverse entries entries' e =
      tabulated_agree (line inverse count points entries) (line inverse count points' entries') 0 count
      (λ i l u. at i (omega arith))
    where
      at : (i : ℕ) → i < count → line inverse count points entries i ≡ line inverse count points' entries' i
      at i h =
          ap (λ (m : ℕ). line_at inverse m (get_or entries (i * 2) 0) (get_or entries (suc (i * 2)) 0))
          (p (i * 2) (omega arith))
          ∙ ap₂ (line_at inverse (get_or points' (i * 2) 0)) (e (i * 2) (omega arith)) (e (suc (i * 2)) (omega arith))

pub value_same : (inverses points points' entries entries' : List ℕ)
    → Same (2 ^ length inverses) points points' → Same (2 ^ length inverses) entries entries'
    → value_at inverses points entries ≡ value_at inverses points' entries'
unfolding value_at
value_same [] points points' entries entries' p e = e 0 (omega arith)
value_same (i ∷ inverses) points points' entries entries' p e =
    ap₂ (value_at inverses) (halved_points-same count points points' p')
    (halved_entries-same count points points' p' i entries entries' e')
  where
    count : ℕ
    count = 2 ^ length inverses

    p' : Same (2 * count) points points'
    p' n h = p n (omega (arith, pow-suc 2 (length inverses)))

    e' : Same (2 * count) entries entries'
    e' n h = e n (omega (arith, pow-suc 2 (length inverses)))

-- the points behind the count change no value, as `moved` leaves them
pub value_moved : (inverses : List ℕ) (x : ℕ) (points held entries : List ℕ) (count : ℕ) → count ≡ 2 ^ length inverses
    → count ≤ length points → held ≡ take count (map (sum x) points) ++ drop count points
    → value_at inverses held entries ≡ value_at inverses (map (sum x) points) entries
unfolding filled
value_moved inverses x points held entries count n fits e =
    value_same inverses held (map (sum x) points) entries entries
    (λ i h. sym (get_or-take count held i 0 (omega arith))
    ∙ ap (λ (l : List ℕ). get_or l i 0)
    (ap (take count) e ∙ take_filled (map (sum x) points) points count (omega (arith, length-map points (sum x))))
    ∙ get_or-take count (map (sum x) points) i 0 (omega arith))
    (λ i h. refl)

-- zeros behind a list change no value
value_padded : (inverses : List ℕ) (m : ℕ) (points entries : List ℕ)
    → value_at inverses (padded gf64 m points) (padded gf64 m entries) ≡ value_at inverses points entries
value_padded inverses m points entries =
    value_same inverses (padded gf64 m points) points (padded gf64 m entries) entries
    (λ i h. get_or-padded m points i) (λ i h. get_or-padded m entries i)

-- ---- from one halving to the next

pub halved_count : (n t count : ℕ) → t < n → count ≡ 2 ^ (n - t) → count / 2 ≡ 2 ^ (n - suc t)
halved_count n t count h e = omega (arith, ap (λ (m : ℕ). 2 ^ m) one_more, pow-suc 2 (n - suc t), e)
  where
    one_more : n - t ≡ suc (n - suc t)
    one_more = omega arith

module _ (inverses : List ℕ) where
  pub value_next : (t n : ℕ) (points entries : List ℕ) → t < length inverses → n ≡ 2 ^ (length inverses - suc t)
      → value_at (drop (t + 1) inverses) (numbers (elements (padded gf64 8 (halved_points n points))))
      (numbers (elements (padded gf64 8 (halved_entries (get_or inverses t 0) n points entries))))
      ≡ value_at (drop t inverses) points entries
  unfolding value_at
  value_next t n points entries h e =
      ap₂ (value_at (drop (t + 1) inverses)) (numbers_of (padded gf64 8 halved)) (numbers_of (padded gf64 8 (lines n)))
      ∙ value_padded (drop (t + 1) inverses) 8 halved (lines n)
      ∙ ap (λ (m : ℕ). value_at (drop m inverses) halved (lines n)) (add-one t)
      ∙ ap (λ (m : ℕ). value_at (drop (suc t) inverses) (halved_points m points) (lines m))
      (e ∙ ap (λ (m : ℕ). 2 ^ m) (sym (length-drop (suc t) inverses)))
      ∙ sym (ap (λ (is : List ℕ). value_at is points entries) (drop-cons inverses t 0 h))
    where
      halved : List ℕ
      halved = halved_points n points

      lines : ℕ → List ℕ
      lines m = halved_entries (get_or inverses t 0) m points entries

  pub value_last : (t : ℕ) (points entries : List ℕ) → suc t ≡ length inverses
      → line_at (get_or inverses t 0) (get_or points 0 0) (get_or entries 0 0) (get_or entries 1 0)
      ≡ value_at (drop t inverses) points entries
  unfolding value_at halved_entries tabulated
  value_last t points entries e =
      sym
      (ap (λ (is : List ℕ). value_at is points entries)
      (drop-cons inverses t 0 (omega arith)
      ∙ ap {B = List ℕ} (λ l. get_or inverses t 0 ∷ l) (drop_of_length-le inverses {i = suc t} (omega arith))))

-- ---- points that are moved by the challenge

module _ (inverses : List ℕ) (x : ℕ) where
  -- the value of a coset that was read: its first point is moved, and with it every point
  pub value_read : (span : List ℕ) (first : ℕ) (part : List ℕ) → length span ≡ 2 ^ length inverses → length span ≤ 8
      → value_at inverses (map (sum x) (numbers (coset_read span first part).points))
      (numbers (coset_read span first part).entries)
      ≡ value_at inverses (map (sum (sum x first)) span) part
  value_read span first part n eight =
      ap₂ (λ (ps es : List ℕ). value_at inverses (map (sum x) ps) es) (numbers_of points)
      (numbers_of (padded gf64 8 part))
      ∙ value_same inverses (map (sum x) points) (map (sum (sum x first)) span) (padded gf64 8 part) part
      (λ i h. at i (omega arith)) (λ i h. get_or-padded 8 part i)
    where
      points : List ℕ
      points = padded gf64 8 (map (sum first) span)

      eight_points : length points ≡ 8
      eight_points = length-padded gf64 8 (map (sum first) span) (omega (arith, length-map span (sum first)))

      at : (i : ℕ) → i < length span → get_or (map (sum x) points) i 0 ≡ get_or (map (sum (sum x first)) span) i 0
      at i h =
          get_d_map (sum x) points i (omega (arith, eight_points))
          ∙ ap (sum x) (get_or-padded 8 (map (sum first) span) i ∙ get_d_map (sum first) span i h)
          ∙ sym (xor_assoc x first (get_or span i 0)) ∙ sym (get_d_map (sum (sum x first)) span i h)

-- ---- where a coset's entries lie

-- as they are lent
pub lent_part : (start m : ℕ) (xs : List ℕ) → take (start + m - start) (drop start xs) ≡ take m (drop start xs)
lent_part start m xs = ap (λ (n : ℕ). take n (drop start xs)) back
  where
    back : start + m - start ≡ m
    back = omega arith

-- ---- the cosets one after the other

module _ (inverses span : List ℕ) (moved : ℕ) (upper word : List ℕ) where
  pub length-coset_values : length (coset_values inverses span moved upper word) ≡ 2 ^ length upper
  unfolding coset_values
  length-coset_values = length-tabulated (coset_value inverses span moved upper word) 0 (2 ^ length upper)

  value_listed : (j : ℕ) → j < 2 ^ length upper
      → coset_value inverses span moved upper word j ≡ get_or (coset_values inverses span moved upper word) j 0
  unfolding coset_values
  value_listed j h =
      sym
      (get_or-tabulated (coset_value inverses span moved upper word) 0 (2 ^ length upper) j h
      ∙ ap (coset_value inverses span moved upper word) (zero-add j))

-- the value of the coset whose first point is point j over the upper basis; the challenge moves all points
pub coset_values_at : (inverses span : List ℕ) (offset x : ℕ) (upper word : List ℕ) (j first : ℕ) (part : List ℕ)
    → j < 2 ^ length upper → first ≡ point offset upper j → part ≡ take (length span) (drop (j * length span) word)
    → value_at inverses (map (sum (sum x first)) span) part
    ≡ get_or (coset_values inverses span (sum offset x) upper word) j 0
unfolding coset_value
coset_values_at inverses span offset x upper word j first part h e l =
    ap₂ (λ (p : ℕ) (es : List ℕ). value_at inverses (map (sum p) span) es)
    (ap (sum x) e ∙ sym (point_moved offset x upper j)) l
    ∙ value_listed inverses span (sum offset x) upper word j h
