-- The bytes of a line: how many there are, where its line feed stands, and what its mark tells. Assumes nothing.
use mathlib.Core.Path.{◌≡◌, refl, sym, ap, ◌∙◌}
use mathlib.Core.Bool.{Bool, true, false, cond}
use mathlib.Core.List.{List, [], ◌∷◌, ◌++◌}
use mathlib.Core.Logic.{◌≢◌, ◌↔◌}
use Prim.Native.Nat.{ℕ, zero, suc, ◌+◌, ◌-◌, ◌/◌, ◌%◌, ◌^◌, ◌≤◌, ◌<◌}
use native.Mathlib.Omega.{arith}
use lib.Dec.{ltb, eqb}
use lib.ListN.{length, get_or, take, drop, replicate, length-append, length-replicate, get_or-append}
use lib.Seq.{drop_at, get_or-append-add}
use borrow.Author.Tests.{ltb-true, ltb-false, eqb-true, eqb-false, eq-eqb, ne_eqb}
use Rattle.poly.specs.Polynomial.{All}
use Rattle.poly.proofs.Entries.{all_append, all_replicate, all_get_d}
use Rattle.line_text.specs.Digits.{bytes, digit, digits, places_within, decimal}
use Rattle.line_text.proofs.Decimals.{length_digits, places_digit, places_tenth}
use Rattle.sheet_text.specs.Sheet.{decimal_field, value_field, mark_field, line_text, line_length}

-- ---- how many bytes

places-within : (more width n : ℕ) (test : Bool) → ltb n 10 ≡ test → n < 10 ^ suc width
    → places_within more n ≤ suc width
unfolding places_within
places-within zero width n test e h = omega arith
places-within (suc more) width n true e h = omega (arith, places_digit (suc more) n (ltb-true n 10 e))
places-within (suc more) zero n false e h = absurd (omega (arith, ltb-false n 10 e))
places-within (suc more) (suc width) n false e h =
    omega (
      arith,
      places_tenth more n (ltb-false n 10 e),
      places-within more width (n / 10) (ltb (n / 10) 10) refl (omega arith),
    )

-- a number has at most as many decimal digits as a bound on it has zeros
pub decimal_short : (width n : ℕ) → n < 10 ^ suc width → length (decimal n) ≤ suc width
unfolding decimal
decimal_short width n h =
    omega (arith, length_digits 10 (places_within 19 n) n, places-within 19 width n (ltb n 10) refl h)

pub length-decimal_field : (width n : ℕ) → length (decimal n) ≤ width → length (decimal_field width n) ≡ width + 1
unfolding decimal_field bytes
length-decimal_field width n h = simp (length-append, length-replicate) (omega arith)

pub length_value_field : (value : ℕ) → length (value_field value) ≡ 17
unfolding value_field bytes
length_value_field value = length-append (digits 16 16 value) (32 ∷ []) ∙ omega (arith, length_digits 16 16 value)

abbrev marked : Bool → List ℕ
marked test = cond test (bytes "ok\n") (bytes "no\n")

length_marked : (test : Bool) → length (marked test) ≡ 3
unfolding bytes
length_marked true = refl
length_marked false = refl

pub length_mark_field : (computed found : ℕ) → length (mark_field computed found) ≡ 3
unfolding mark_field
length_mark_field computed found = length_marked (eqb computed found)

-- all that stands before the mark
abbrev before_mark : ℕ → ℕ → ℕ → ℕ → ℕ → List ℕ
before_mark query index round computed found =
    decimal_field 5 query ++ decimal_field 8 index ++ decimal_field 3 round ++ value_field computed ++ value_field found

-- ---- the line feed

-- a text without one
abbrev Plain : List ℕ → Type 0
Plain text = All (λ b. b ≢ 10) text

plain_append : (s t : List ℕ) → Plain s → Plain t → Plain (s ++ t)
plain_append s t = all_append (λ b. b ≢ 10) s t

plain_digit : (test : Bool) (d : ℕ) → cond test (48 + d) (87 + d) ≢ 10
plain_digit true d e = omega arith
plain_digit false d e = omega arith

plain_digits : (base width n : ℕ) → Plain (digits base width n)
unfolding digits
plain_digits base zero n = record {}
plain_digits base (suc width) n =
    plain_append (digits base width (n / base)) (digit (n % base) ∷ []) (plain_digits base width (n / base))
    (plain_digit (ltb (n % base) 10) (n % base), record {})

plain_spaces : (n : ℕ) → Plain (replicate n 32)
plain_spaces n = all_replicate (λ b. b ≢ 10) n 32 (λ e. omega arith)

plain_decimal : (width n : ℕ) → Plain (decimal_field width n)
unfolding decimal_field decimal bytes
plain_decimal width n =
    let spaces : Plain (replicate (width - length (decimal n)) 32) = plain_spaces (width - length (decimal n)) in
    let number : Plain (decimal n) = plain_digits 10 (places_within 19 n) n in
    search (plain_append, plain_spaces 1)

plain_value : (value : ℕ) → Plain (value_field value)
unfolding value_field bytes
plain_value value = plain_append (digits 16 16 value) (32 ∷ []) (plain_digits 16 16 value) (plain_spaces 1)

plain_before : (query index round computed found : ℕ) → Plain (before_mark query index round computed found)
plain_before query index round computed found = search (plain_append, plain_decimal, plain_value)

-- of three bytes only the last is a line feed
third_feed : (a b n : ℕ) → a ≢ 10 → b ≢ 10 → n < 3 → (get_or (a ∷ b ∷ 10 ∷ []) n 0 ≡ 10) ↔ (n ≡ 2)
third_feed a b zero first second h = (λ e. absurd (first e), λ e. absurd (omega arith))
third_feed a b (suc zero) first second h = (λ e. absurd (second e), λ e. absurd (omega arith))
third_feed a b (suc (suc zero)) first second h = (λ e. refl, λ e. refl)
third_feed a b (suc (suc (suc n))) first second h = absurd (omega arith)

marked_feed : (test : Bool) (n : ℕ) → n < 3 → (get_or (marked test) n 0 ≡ 10) ↔ (n ≡ 2)
unfolding bytes
marked_feed true n h = third_feed 111 107 n (λ e. omega arith) (λ e. omega arith) h
marked_feed false n h = third_feed 110 111 n (λ e. omega arith) (λ e. omega arith) h

-- ---- the mark

marked_ok : (test : Bool) → take 2 (marked test) ≡ bytes "ok" → test ≡ true
unfolding bytes
marked_ok true e = refl
marked_ok false e = absurd (omega (arith, ap (λ (text : List ℕ). get_or text 0 0) e))

marked_no : (test : Bool) → take 2 (marked test) ≡ bytes "no" → test ≡ false
unfolding bytes
marked_no true e = absurd (omega (arith, ap (λ (text : List ℕ). get_or text 0 0) e))
marked_no false e = refl

ok_marked : take 2 (marked true) ≡ bytes "ok"
unfolding bytes
ok_marked = refl

no_marked : take 2 (marked false) ≡ bytes "no"
unfolding bytes
no_marked = refl

-- ---- a line whose numbers fit

module _ (query index round computed found : ℕ)
    (query-fits : query < 100000) (index_fits : index < 100000000) (round-fits : round < 1000) where
  abbrev before : List ℕ
  before = before_mark query index round computed found

  length_before : length before ≡ 53
  length_before =
      simp (
        length-append,
        length-decimal_field 5 query (decimal_short 4 query query-fits),
        length-decimal_field 8 index (decimal_short 7 index index_fits),
        length-decimal_field 3 round (decimal_short 2 round round-fits),
        length_value_field,
      )

  pub length_line : length (line_text query index round computed found) ≡ line_length
  unfolding line_text
  length_line =
      length-append before (mark_field computed found)
      ∙ omega (arith, length_before, length_mark_field computed found)

  feed_by : (n : ℕ) (test : Bool) → ltb n 53 ≡ test → n < line_length
      → (get_or (before ++ marked (eqb computed found)) n 0 ≡ 10) ↔ (n ≡ 55)
  feed_by n true e h =
      let l : n < 53 = ltb-true n 53 e in
      let same : get_or (before ++ marked (eqb computed found)) n 0 ≡ get_or before n 0 =
      get_or-append before (marked (eqb computed found)) 0 n (omega (arith, length_before)) in
      let plain : get_or before n 0 ≢ 10 =
      all_get_d (λ b. b ≢ 10) before n 0 (λ z. omega arith) (plain_before query index round computed found) in
      (λ z. absurd (plain (sym same ∙ z)), λ z. absurd (omega arith))
  feed_by n false e h =
      let l : 53 ≤ n = ltb-false n 53 e in
      let place : n ≡ length before + (n - 53) = omega (arith, length_before) in
      let same : get_or (before ++ marked (eqb computed found)) n 0 ≡ get_or (marked (eqb computed found)) (n - 53) 0 =
      ap (λ (m : ℕ). get_or (before ++ marked (eqb computed found)) m 0) place
      ∙ get_or-append-add before (marked (eqb computed found)) (n - 53) 0 in
      let third = marked_feed (eqb computed found) (n - 53) (omega arith) in
      (λ z. omega (arith, third.0 (sym same ∙ z)), λ z. same ∙ third.1 (omega arith))

  -- the line feed is the last byte, and no other
  pub line_feed : (n : ℕ) → n < line_length → (get_or (line_text query index round computed found) n 0 ≡ 10) ↔ (n ≡ 55)
  unfolding line_text mark_field
  line_feed n h = feed_by n (ltb n 53) refl h

  mark_of_line : take 2 (drop 53 (line_text query index round computed found)) ≡ take 2 (marked (eqb computed found))
  unfolding line_text mark_field
  mark_of_line = ap (take 2) (drop_at before (marked (eqb computed found)) 53 length_before)

  -- bytes 53 and 54 are `ok` exactly where the two values are equal, and `no` exactly where they are not
  pub ok_line : (take 2 (drop 53 (line_text query index round computed found)) ≡ bytes "ok") ↔ (computed ≡ found)
  ok_line = (
    λ e. eqb-true computed found (marked_ok (eqb computed found) (sym mark_of_line ∙ e)),
    λ e. mark_of_line ∙ ap (λ (t : Bool). take 2 (marked t)) (eq-eqb computed found e) ∙ ok_marked,
  )

  pub no_line : (take 2 (drop 53 (line_text query index round computed found)) ≡ bytes "no") ↔ (computed ≢ found)
  no_line = (
    λ e. eqb-false computed found (marked_no (eqb computed found) (sym mark_of_line ∙ e)),
    λ e. mark_of_line ∙ ap (λ (t : Bool). take 2 (marked t)) (ne_eqb computed found e) ∙ no_marked,
  )
