-- What holds of every entry of a list holds of its parts, and conversely; images of lists;
-- the entries of a repeated value. Assumes nothing.
use mathlib.Core.Path.{◌≡◌, refl, sym, ap, ap₂, ◌∙◌}
use mathlib.Core.Logic.{◌⊎◌, inl, inr}
use mathlib.Core.Bool.{Bool, true, false}
use mathlib.Core.List.{List, [], ◌∷◌, ◌++◌, map}
use Prim.Native.Nat.{ℕ, zero, suc, ◌+◌, ◌≤◌, ◌<◌}
use native.Mathlib.Nat.{eq-or-lt_of_le}
use native.Mathlib.Numerals.{add-one}
use native.Mathlib.Omega.{arith}
use lib.ListN.{length, take, drop, get_or, set, replicate}
use lib.Dec.{leb}
use lib.Seq.{take_all, get_or-set_same, get_or-set_other}
use borrow.Author.Tests.{leb-true, leb-false}
use Rattle.poly.specs.Polynomial.{All}

module _ {A : Type 0} (P : A → Type 0) where
  pub all_append : (xs ys : List A) → All P xs → All P ys → All P (xs ++ ys)
  all_append [] ys hx hy = hy
  all_append (x ∷ xs) ys hx hy = (hx.0, all_append xs ys hx.1 hy)

  pub all_take : (n : ℕ) (xs : List A) → All P xs → All P (take n xs)
  all_take zero xs h = record {}
  all_take (suc n) [] h = record {}
  all_take (suc n) (x ∷ xs) h = (h.0, all_take n xs h.1)

  pub all_drop : (n : ℕ) (xs : List A) → All P xs → All P (drop n xs)
  all_drop zero xs h = h
  all_drop (suc n) [] h = record {}
  all_drop (suc n) (x ∷ xs) h = all_drop n xs h.1

  pub all_replicate : (n : ℕ) (a : A) → P a → All P (replicate n a)
  all_replicate zero a h = record {}
  all_replicate (suc n) a h = (h, all_replicate n a h)

  pub all_of : ((a : A) → P a) → (xs : List A) → All P xs
  all_of h [] = record {}
  all_of h (x ∷ xs) = (h x, all_of h xs)

  pub all_get_d : (xs : List A) (i : ℕ) (a : A) → P a → All P xs → P (get_or xs i a)
  all_get_d [] i a h all = h
  all_get_d (x ∷ xs) zero a h all = all.0
  all_get_d (x ∷ xs) (suc i) a h all = all_get_d xs i a h all.1

  pub all_at : (xs : List A) (i : ℕ) (a : A) → All P xs → i < length xs → P (get_or xs i a)
  all_at [] i a all h = absurd (omega arith)
  all_at (x ∷ xs) zero a all h = all.0
  all_at (x ∷ xs) (suc i) a all h = all_at xs i a all.1 (omega arith)

-- from one predicate to another
pub all_map : {A B : Type 0} (P : A → Type 0) (Q : B → Type 0) (f : A → B) → ((a : A) → P a → Q (f a)) → (xs : List A)
    → All P xs → All Q (map f xs)
all_map P Q f h [] a = record {}
all_map P Q f h (x ∷ xs) a = (h x a.0, all_map P Q f h xs a.1)

-- two maps that agree on every entry
pub map_agree : {A B : Type 0} (f g : A → B) (xs : List A) → All (λ x. f x ≡ g x) xs → map f xs ≡ map g xs
map_agree f g [] h = refl
map_agree {A = A} {B = B} f g (x ∷ xs) h = ap₂ (λ (b : B) (l : List B). b ∷ l) h.0 (map_agree f g xs h.1)

pub map-take : {A B : Type 0} (f : A → B) (n : ℕ) (xs : List A) → map f (take n xs) ≡ take n (map f xs)
map-take f zero xs = refl
map-take f (suc n) [] = refl
map-take {A = A} {B = B} f (suc n) (x ∷ xs) = ap {B = List B} (λ l. f x ∷ l) (map-take f n xs)

pub map-drop : {A B : Type 0} (f : A → B) (n : ℕ) (xs : List A) → map f (drop n xs) ≡ drop n (map f xs)
map-drop f zero xs = refl
map-drop f (suc n) [] = refl
map-drop f (suc n) (x ∷ xs) = map-drop f n xs

pub get_or_replicated : {A : Type 0} (n i : ℕ) (a : A) → get_or (replicate n a) i a ≡ a
get_or_replicated zero i a = refl
get_or_replicated (suc n) zero a = refl
get_or_replicated (suc n) (suc i) a = get_or_replicated n i a

-- what is made of the first n entries is what is made of all, where there are no more
pub of_first : {A B : Type 0} (f : List A → B) (n : ℕ) (xs : List A) → (n < length xs → f (take n xs) ≡ f xs)
    → f (take n xs) ≡ f xs
of_first f n xs longer = by (leb (length xs) n) refl
  where
    by : (test : Bool) → leb (length xs) n ≡ test → f (take n xs) ≡ f xs
    by true e = ap f (take_all n xs (leb-true (length xs) n e))
    by false e = longer (leb-false (length xs) n e)

-- ---- a list that is being written from the front

-- one entry more is that of f
pub entries_next : {A : Type 0} (d : A) (held : List A) (f : ℕ → A) (n : ℕ) (value : A) → n < length held
    → ((i : ℕ) → i < n → get_or held i d ≡ f i) → value ≡ f n → (i : ℕ) → i < n + 1 → get_or (set held n value) i d ≡ f i
entries_next {A = A} d held f n value h before e i l = by (eq-or-lt_of_le at_most)
  where
    at_most : i ≤ n
    at_most = omega (arith, add-one n)

    by : (i ≡ n) ⊎ (i < n) → get_or (set held n value) i d ≡ f i
    by (inl same) =
        ap (λ (m : ℕ). get_or (set held n value) m d) same ∙ get_or-set_same held n value d h ∙ e ∙ ap f (sym same)
    by (inr earlier) = get_or-set_other held n i value d (λ same. omega arith) ∙ before i earlier
