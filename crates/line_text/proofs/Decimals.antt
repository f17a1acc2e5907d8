-- Decimal digits: how many a number has, what they are, and that they stand for the number. Assumes nothing.
use mathlib.Core.Path.{◌≡◌, refl, sym, ap, subst, ◌∙◌}
use mathlib.Core.Bool.{Bool, true, false, cond}
use mathlib.Core.List.{List, [], ◌∷◌, ◌++◌}
use mathlib.Core.Logic.{◌⊎◌, ⊎_elim}
use Prim.Native.Nat.{ℕ, zero, suc, ◌+◌, ◌*◌, ◌-◌, ◌/◌, ◌%◌, ◌^◌, ◌≤◌, ◌<◌}
use native.Mathlib.Bridge.{IsLe, le_by_compare}
use native.Mathlib.Nat.{lt_of_lt_of_le, eq-zero-or-pos}
use native.Mathlib.Omega.{arith}
use lib.ListN.{length, get_or, length-append, get_or-append}
use lib.Dec.{ltb}
use borrow.Author.Tests.{lt-ltb, le-ltb}
use Rattle.line_text.specs.Digits.{digit, digits, places_within}
use Rattle.line_text.specs.Theorems.{value_after, value_of}

pub length_digits : (base width n : ℕ) → length (digits base width n) ≡ width
unfolding digits
length_digits base zero n = refl
length_digits base (suc width) n =
    length-append (digits base width (n / base)) (digit (n % base) ∷ [])
    ∙ omega (arith, length_digits base width (n / base))

-- ---- how many there are

pub places_digit : (more n : ℕ) → n < 10 → places_within more n ≡ 1
unfolding places_within
places_digit zero n h = refl
places_digit (suc more) n h = ap (λ (b : Bool). cond b 1 (suc (places_within more (n / 10)))) (lt-ltb n 10 h)

pub places_tenth : (more n : ℕ) → 10 ≤ n → places_within (suc more) n ≡ suc (places_within more (n / 10))
unfolding places_within
places_tenth more n h = ap (λ (b : Bool). cond b 1 (suc (places_within more (n / 10)))) (le-ltb n 10 h)

positive : (b : Bool) (m : ℕ) → 0 < cond b 1 (suc m)
positive true m = omega arith
positive false m = omega arith

places_positive : (more n : ℕ) → 0 < places_within more n
unfolding places_within
places_positive zero n = omega arith
places_positive (suc more) n = positive (ltb n 10) (places_within more (n / 10))

-- ---- counting them by division: `count` of them have been seen, and there are `more` at most after the next

pub record Counting (n count rest more : ℕ) : Type 0 where
  pub seen : 1 ≤ count
  pub all : count + more ≡ 20
  pub bound : rest < 10 ^ suc more
  pub same : places_within 19 n + 1 ≡ count + places_within more rest

-- 20 digits are enough for 64 bits
pub below_20_digits : {n : ℕ} → n < 2 ^ 64 → n < 10 ^ suc 19
unfolding IsLe
below_20_digits h = lt_of_lt_of_le h (le_by_compare (2 ^ 64) (10 ^ 20) tt)

pub counting_start : (n : ℕ) → n < 2 ^ 64 → Counting n 1 n 19
counting_start n h = record { seen = omega arith; all = refl; bound = below_20_digits h; same = omega arith }

pub counting_next : (n count rest more : ℕ) → Counting n count rest more → 10 ≤ rest
    → Counting n (count + 1) (rest / 10) (more - 1)
counting_next n count rest zero c h = let b : rest < 10 = c.bound in absurd (omega arith)
counting_next n count rest (suc more) c h =
    let e : more ≡ suc more - 1 = omega arith in
    subst (Counting n (count + 1) (rest / 10)) e
    (record {
      seen = omega arith;
      all = omega arith;
      bound = omega arith;
      same = omega (arith, places_tenth more rest h);
    })

pub counting_end : (n count rest more : ℕ) → Counting n count rest more → rest < 10 → count ≡ places_within 19 n
counting_end n count rest more c h = omega (arith, places_digit more rest h)

-- ---- a number below 10^(more + 1)

by_tenths : (P : ℕ → ℕ → Type 0)
    → ((more n : ℕ) → n < 10 → P more n)
    → ((more n : ℕ) → 10 ≤ n → P more (n / 10) → P (suc more) n)
    → (more n : ℕ) → n < 10 ^ suc more → P more n
by_tenths P one next zero n h = one zero n h
by_tenths P one next (suc more) n h =
    ⊎_elim
    (λ none. next more n (omega arith) (by_tenths P one next more (n / 10) (omega arith)))
    (λ some. one (suc more) n (omega arith))
    (eq-zero-or-pos (10 - n))

abbrev written : ℕ → ℕ → List ℕ
written more n = digits 10 (places_within more n) n

digit-decimal : (d : ℕ) → d < 10 → digit d ≡ 48 + d
digit-decimal d h = ap (λ (b : Bool). cond b (48 + d) (87 + d)) (lt-ltb d 10 h)

pub each_append : (P : ℕ → Type 0) (s : List ℕ) (d : ℕ) → ((i : ℕ) → i < length s → P (get_or s i 0)) → P d
    → (i : ℕ) → i < length (s ++ (d ∷ [])) → P (get_or (s ++ (d ∷ [])) i 0)
each_append P [] d each last zero h = last
each_append P [] d each last (suc i) h = absurd (omega arith)
each_append P (a ∷ s) d each last zero h = each zero (omega arith)
each_append P (a ∷ s) d each last (suc i) h = each_append P s d (λ j l. each (suc j) (omega arith)) last i (omega arith)

-- every byte is a digit's
pub digits_decimal : (width n i : ℕ) → i < length (digits 10 width n)
    → (48 ≤ get_or (digits 10 width n) i 0) × (get_or (digits 10 width n) i 0 ≤ 57)
unfolding digits
digits_decimal zero n i h = absurd (omega arith)
digits_decimal (suc width) n i h =
    each_append (λ d. (48 ≤ d) × (d ≤ 57)) (digits 10 width (n / 10)) (digit (n % 10)) (digits_decimal width (n / 10))
    (omega (arith, digit-decimal (n % 10) (omega arith))) i h

written_digit : (more n : ℕ) → n < 10 → written more n ≡ digit n ∷ []
unfolding digits
written_digit more n h =
    let same : n % 10 ≡ n = omega arith in
    ap (λ (w : ℕ). digits 10 w n) (places_digit more n h) ∙ ap (λ (d : ℕ). digit d ∷ []) same

written_tenth : (more n : ℕ) → 10 ≤ n → written (suc more) n ≡ written more (n / 10) ++ (digit (n % 10) ∷ [])
unfolding digits
written_tenth more n h = ap (λ (w : ℕ). digits 10 w n) (places_tenth more n h)

value_after-append : (before : ℕ) (s t : List ℕ) → value_after before (s ++ t) ≡ value_after (value_after before s) t
unfolding value_after
value_after-append before [] t = refl
value_after-append before (d ∷ s) t = value_after-append (10 * before + (d - 48)) s t

pub value : (more n : ℕ) → n < 10 ^ suc more → value_of (written more n) ≡ n
unfolding value_after
value =
    by_tenths (λ more n. value_of (written more n) ≡ n)
    (λ more n h. ap value_of (written_digit more n h) ∙ omega (arith, digit-decimal n h))
    (λ more n h ih.
    ap value_of (written_tenth more n h) ∙ value_after-append 0 (written more (n / 10)) (digit (n % 10) ∷ [])
    ∙ omega (arith, ih, digit-decimal (n % 10) (omega arith)))

-- the first digit is not zero
pub leading : (more n : ℕ) → n < 10 ^ suc more → 0 < n → get_or (written more n) 0 0 ≡ 48 → ⊥
leading =
    by_tenths (λ more n. 0 < n → get_or (written more n) 0 0 ≡ 48 → ⊥)
    (λ more n h positive e.
    let first : get_or (written more n) 0 0 ≡ digit n = ap (λ (s : List ℕ). get_or s 0 0) (written_digit more n h) in
    omega (arith, digit-decimal n h))
    (λ more n h ih positive e.
    let first : get_or (written (suc more) n) 0 0 ≡ get_or (written more (n / 10)) 0 0 =
    ap (λ (s : List ℕ). get_or s 0 0) (written_tenth more n h)
    ∙ get_or-append (written more (n / 10)) (digit (n % 10) ∷ []) 0 0
    (omega (arith, length_digits 10 (places_within more (n / 10)) (n / 10), places_positive more (n / 10)))
    in
    ih (omega arith) (sym first ∙ e))
