-- Where a line stands in the lines of a run, and what their marks tell together. Assumes nothing.
use mathlib.Core.Path.{◌≡◌, sym, ap, ◌∙◌, subst}
use mathlib.Core.Logic.{◌≢◌, ◌↔◌, ⊎_elim}
use mathlib.Core.List.{List, ◌∷◌, ◌++◌, append_assoc}
use Prim.Native.Nat.{ℕ, suc, ◌+◌, ◌*◌, ◌-◌, ◌/◌, ◌%◌, ◌≤◌, ◌<◌}
use native.Mathlib.Nat.{zero-add, suc-mul, mul-le-mul_right, lt_of_mul-lt-mul_right, eq-or-lt_of_le}
use native.Mathlib.Nat.{mod-lt, div-add-mod', div-lt_iff_lt-mul}
use native.Mathlib.Omega.{arith}
use lib.ListN.{length, get_or, take, drop, length-append}
use lib.Seq.{take_at, drop_at, split_at, length-take-le, get_or-take, get_or-drop}
use Rattle.fri.specs.Run.{Run, rounds_in}
use Rattle.fri.specs.Rounds.{value_computed, value_found}
use Rattle.fri.specs.Theorems.{PassesEveryRound, FailsFirst}
use Rattle.line_text.specs.Digits.{bytes}
use Rattle.sheet_text.specs.Sheet.{line_length, sheet_line, query_lines, sheet_lines}
use Rattle.sheet_text.specs.Theorems.{line_at, mark_at}
use Rattle.sheet_text.proofs.Lines.{length_line, line_feed, ok_line, no_line}
use Rattle.sheet_text.proofs.Sheets.{query_lines_append, length_query_lines, sheet_lines_append, Fits}
use Rattle.sheet_text.proofs.Sheets.{length_sheet_lines, length_all_lines}

-- ---- places

part_at : (front text rest whole : List ℕ) (at size : ℕ) → whole ≡ front ++ (text ++ rest) → length front ≡ at
    → length text ≡ size → take size (drop at whole) ≡ text
part_at front text rest whole at size e f s =
    ap (λ (w : List ℕ). take size (drop at w)) e
    ∙ ap (take size) (drop_at front (text ++ rest) at f)
    ∙ take_at text rest size s

regrouped : (a b c d e : List ℕ) → a ++ ((b ++ (c ++ d)) ++ e) ≡ (a ++ b) ++ (c ++ (d ++ e))
regrouped a b c d e = simp append_assoc

place_below : (t i count r : ℕ) → t < count → i < r → t * r + i < count * r
place_below t i count r h l = omega (arith, mul-le-mul_right {m = suc t} {n = count} r h, suc-mul t r)

not_later : (u v t i r : ℕ) → i < r → u * r + v < t * r + i → u ≤ t
not_later u v t i r l h =
    omega (arith, lt_of_mul-lt-mul_right r {m = u} {n = suc t} (omega (arith, suc-mul t r)))

-- ---- marks

-- all lines of a sheet are marked `ok`
abbrev pub AllOk : List ℕ → Type 0
AllOk sheet = (n : ℕ) → line_length * n < length sheet → mark_at sheet n ≡ bytes "ok"

-- the first `no` of a sheet of some queries and r rounds is that of query t and round i
abbrev pub FirstNo : List ℕ → ℕ → ℕ → ℕ → ℕ → Type 0
FirstNo sheet count r t i =
    (t < count) × (i < r) × (mark_at sheet (t * r + i) ≡ bytes "no")
    × ((n : ℕ) → n < t * r + i → mark_at sheet n ≡ bytes "ok")

module _ {run : Run} {queries : List ℕ} (fits : Fits run queries) where
  abbrev r : ℕ
  r = rounds_in run

  abbrev all_lines : List ℕ
  all_lines = sheet_lines run queries 0

  abbrev index : ℕ → ℕ
  index t = get_or queries t 0

  module _ (t i : ℕ) (t_within : t < length queries) (i-within : i < r) where
    abbrev computed : ℕ
    computed = value_computed run (index t) i

    abbrev found : ℕ
    found = value_found run (index t) i

    index_fits : index t < 100000000
    index_fits = omega (arith, fits.indices t)

    abbrev rounds_after : List ℕ
    rounds_after = query_lines run t (index t) (suc i) (r - suc i)

    of_query : query_lines run t (index t) 0 r
        ≡ query_lines run t (index t) 0 i ++ (sheet_line run t (index t) i ++ rounds_after)
    unfolding query_lines
    of_query =
        ap (query_lines run t (index t) 0) whole
        ∙ query_lines_append run t (index t) 0 i (suc (r - suc i))
        ∙ ap (λ (n : ℕ). query_lines run t (index t) 0 i ++ query_lines run t (index t) n (suc (r - suc i))) (zero-add i)
      where
        whole : r ≡ i + suc (r - suc i)
        whole = omega arith

    abbrev queries_after : List ℕ
    queries_after = sheet_lines run (drop (suc t) queries) (suc t)

    of_run : all_lines
        ≡ sheet_lines run (take t queries) 0 ++ (query_lines run t (index t) 0 r ++ queries_after)
    unfolding sheet_lines
    of_run =
        ap (λ (l : List ℕ). sheet_lines run l 0) (split_at queries t 0 t_within)
        ∙ sheet_lines_append run (take t queries) (index t ∷ drop (suc t) queries) 0
        ∙ ap (λ (n : ℕ). sheet_lines run (take t queries) 0 ++ sheet_lines run (index t ∷ drop (suc t) queries) n) place
      where
        place : 0 + length (take t queries) ≡ t
        place = omega (arith, length-take-le t queries (omega arith))

    abbrev in-front : List ℕ
    in-front = sheet_lines run (take t queries) 0 ++ query_lines run t (index t) 0 i

    length_in_front : length in-front ≡ line_length * (t * r + i)
    length_in_front =
        length-append (sheet_lines run (take t queries) 0) (query_lines run t (index t) 0 i)
        ∙ omega (
          arith,
          length_sheet_lines fits t (omega arith),
          length_query_lines run t (index t) 0 i (omega arith) index_fits (omega arith),
        )

    -- line t · r + i is that of query t and round i
    pub line-at : line_at all_lines (t * r + i) ≡ sheet_line run t (index t) i
    line-at =
        part_at in-front (sheet_line run t (index t) i) (rounds_after ++ queries_after) all_lines
        (line_length * (t * r + i)) line_length
        (of_run
        ∙ ap (λ (text : List ℕ). sheet_lines run (take t queries) 0 ++ (text ++ queries_after)) of_query
        ∙ regrouped (sheet_lines run (take t queries) 0) (query_lines run t (index t) 0 i) (sheet_line run t (index t) i)
        rounds_after queries_after)
        length_in_front
        (length_line t (index t) i computed found (omega arith) index_fits (omega arith))

    -- its last byte is the line feed, and no other
    pub feed_at : (n : ℕ) → n < line_length → (get_or (line_at all_lines (t * r + i)) n 0 ≡ 10) ↔ (n ≡ 55)
    feed_at n h =
        subst (λ (line : List ℕ). (get_or line n 0 ≡ 10) ↔ (n ≡ 55)) (sym line-at)
        (line_feed t (index t) i computed found (omega arith) index_fits (omega arith) n h)

    -- its mark tells whether the check passes
    pub ok_at : (mark_at all_lines (t * r + i) ≡ bytes "ok") ↔ (computed ≡ found)
    ok_at =
        subst (λ (line : List ℕ). (take 2 (drop 53 line) ≡ bytes "ok") ↔ (computed ≡ found)) (sym line-at)
        (ok_line t (index t) i computed found (omega arith) index_fits (omega arith))

    pub no_at : (mark_at all_lines (t * r + i) ≡ bytes "no") ↔ (computed ≢ found)
    no_at =
        subst (λ (line : List ℕ). (take 2 (drop 53 line) ≡ bytes "no") ↔ (computed ≢ found)) (sym line-at)
        (no_line t (index t) i computed found (omega arith) index_fits (omega arith))

  -- ---- every line is that of a query and a round

  every_line : (P : ℕ → Type 0) → ((t i : ℕ) → t < length queries → i < r → P (t * r + i))
      → (n : ℕ) → n < length queries * r → P n
  every_line P each n h =
      let some : 0 < r = fits.rounds_some in
      subst P (div-add-mod' n r)
      (each (n / r) (n % r) ((div-lt_iff_lt-mul {k = r} {x = n} {y = length queries} some).1 h) (mod-lt n some))

  -- the line feed is the last byte of every line, and no other
  pub feeds : (n : ℕ) → n < length all_lines → (get_or all_lines n 0 ≡ 10) ↔ (n % line_length ≡ 55)
  feeds n h =
      subst (λ (b : ℕ). (b ≡ 10) ↔ (n % line_length ≡ 55)) same
      (every_line (λ m. (get_or (line_at all_lines m) (n % line_length) 0 ≡ 10) ↔ (n % line_length ≡ 55))
      (λ t i l m. feed_at t i l m (n % line_length) (omega arith))
      (n / line_length) (omega (arith, length_all_lines fits)))
    where
      place : line_length * (n / line_length) + n % line_length ≡ n
      place = omega arith

      same : get_or (line_at all_lines (n / line_length)) (n % line_length) 0 ≡ get_or all_lines n 0
      same =
          get_or-take line_length (drop (line_length * (n / line_length)) all_lines) (n % line_length) 0 (omega arith)
          ∙ get_or-drop (line_length * (n / line_length)) all_lines (n % line_length) 0
          ∙ ap (λ (m : ℕ). get_or all_lines m 0) place

  -- ---- all marks together

  -- all are `ok` exactly where every query passes in every round
  pub all_ok : AllOk all_lines ↔ ((t : ℕ) → t < length queries → PassesEveryRound run (index t))
  all_ok = (
    λ every t l i m.
        (ok_at t i l m).0
        (every (t * r + i) (omega (arith, length_all_lines fits, place_below t i (length queries) r l m))),
    λ passes n h.
        every_line (λ m. mark_at all_lines m ≡ bytes "ok") (λ t i l m. (ok_at t i l m).1 (passes t l i m)) n
        (omega (arith, length_all_lines fits)),
  )

  -- a check before that of query t and round i is of an earlier query, or of the same one in an earlier round
  passes_before : (t i : ℕ) → FailsFirst run queries t i → (u v : ℕ) → u < length queries → v < r
      → u * r + v < t * r + i → value_computed run (index u) v ≡ value_found run (index u) v
  passes_before t i f u v l m h =
      ⊎_elim
      (λ (e : u ≡ t).
      subst (λ (w : ℕ). value_computed run (index w) v ≡ value_found run (index w) v) (sym e)
      (f.rounds_before v (omega (arith, ap (λ (w : ℕ). w * r) e))))
      (λ (b : u < t). f.queries_before u b v m)
      (eq-or-lt_of_le (not_later u v t i r f.round_within h))

  -- the first `no` is that of the check that fails first
  pub first_no : (t i : ℕ) → FailsFirst run queries t i ↔ FirstNo all_lines (length queries) r t i
  first_no t i = (
    λ f. (
      f.query_within,
      f.round_within,
      (no_at t i f.query_within f.round_within).1 f.fails,
      λ n h.
          every_line (λ m. m < t * r + i → mark_at all_lines m ≡ bytes "ok")
          (λ u v l m b. (ok_at u v l m).1 (passes_before t i f u v l m b)) n
          (omega (arith, place_below t i (length queries) r f.query_within f.round_within)) h,
    ),
    λ h.
        record {
          query_within = h.0;
          round_within = h.1;
          fails = (no_at t i h.0 h.1).0 h.2;
          rounds_before = λ v b. (ok_at t v h.0 (omega (arith, h.1))).0 (h.3 (t * r + v) (omega arith));
          queries_before = λ u b v m.
              (ok_at u v (omega (arith, h.0)) m).0 (h.3 (u * r + v) (omega (arith, place_below u v t r b m)));
        },
  )
