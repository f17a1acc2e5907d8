-- The two values of a line: 64-bit numbers where the sheet is of bytes, and the digits that stand for them. Assumes
-- nothing.
use mathlib.Core.Path.{◌≡◌, refl, sym, ap, ◌∙◌}
use mathlib.Core.Logic.{◌⊎◌, inl, inr}
use mathlib.Core.Bool.{Bool, true, false, cond}
use mathlib.Core.List.{List, [], ◌∷◌, ◌++◌}
use Prim.Native.Nat.{ℕ, zero, suc, ◌+◌, ◌*◌, ◌-◌, ◌/◌, ◌%◌, ◌^◌, ◌≤◌, ◌<◌}
use native.Mathlib.Omega.{arith}
use lib.Dec.{ltb}
use lib.ListN.{length, get_or, drop}
use borrow.Author.Tests.{ltb-true, ltb-false, lt-ltb, le-ltb}
use Rattle.gf64.specs.Field.{IsElement}
use Rattle.poly.specs.Carrier.{gf64}
use Rattle.poly.specs.Polynomial.{All, evaluate}
use Rattle.poly.proofs.AtField.{gf64_laws}
use Rattle.poly.proofs.Entries.{all_get_d, all_take, all_drop}
use Rattle.poly.proofs.Evaluation.{evaluate-element}
use Rattle.poly.proofs.Interpolation.{interpolant-elements}
use Rattle.std.specs.Prelude.{Ok}
use Rattle.coset.specs.Coset.{point}
use Rattle.coset.proofs.Points.{all_tabulated, point-element}
use Rattle.fold.specs.Fold.{coset_points, coset_entries, fold_entry}
use Rattle.fri.specs.Layout.{index_in}
use Rattle.fri.specs.Run.{Run, steps_in, step_in, rounds_in, challenge_in, layer_in}
use Rattle.fri.specs.Layers.{basis_in, offset_in}
use Rattle.fri.specs.Checks.{run_outcome}
use Rattle.fri.specs.Rounds.{value_computed, value_found}
use Rattle.fri.specs.Demand.{ValidCoset, Elements}
use Rattle.fri.proofs.Cosets.{challenge_element, layer_basis-elements, layer_offset-element, layer_elements}
use Rattle.fri.proofs.Refusals.{passing}
use Rattle.fri.proofs.Verdicts.{checks_valid}
use Rattle.transcript.specs.Numerals.{AreBytes}
use Rattle.transcript.specs.Sections.{run_in, queries_in}
use Rattle.transcript.specs.Checks.{transcript_outcome}
use Rattle.transcript.specs.Theorems.{Carries}
use Rattle.transcript.proofs.Sections.{run_fits}
use Rattle.transcript.proofs.Carried.{fit, checks_are, passed_carries}
use Rattle.line_text.specs.Digits.{digit, digits}
use Rattle.line_text.proofs.Decimals.{each_append}
use Rattle.sheet_text.specs.Theorems.{digit_value, hexadecimal_after, hexadecimal_of}

-- ---- elements

fold_element : (step offset : ℕ) (basis word : List ℕ) (challenge j : ℕ) → IsElement offset → All IsElement basis
    → All IsElement word → IsElement challenge → IsElement (fold_entry step offset basis word challenge j)
unfolding fold_entry coset_points coset_entries
fold_element step offset basis word challenge j o b w c =
    evaluate-element gf64 IsElement gf64_laws _ challenge
    (interpolant-elements gf64 IsElement gf64_laws (coset_points step offset basis j) (coset_entries step word j)
    (all_tabulated IsElement (point offset basis) (j * 2 ^ step) (2 ^ step) (λ i l u. point-element offset basis i o b))
    (all_take IsElement (2 ^ step) (drop (j * 2 ^ step) word) (all_drop IsElement (j * 2 ^ step) word w)))
    c

either_element : (test : Bool) (a b : ℕ) → IsElement a → IsElement b → IsElement (cond test a b)
either_element true a b x y = x
either_element false a b x y = y

module _ (run : Run) (v : ValidCoset run) (e : Elements run) (j i : ℕ) where
  computed_element : IsElement (value_computed run j i)
  unfolding value_computed
  computed_element =
      fold_element (step_in run i) (offset_in run i) (basis_in run i) (layer_in run i) (challenge_in run i)
      (index_in (steps_in run) j (suc i)) (layer_offset-element run v i) (layer_basis-elements run v i)
      (layer_elements run v e.word e.store i) (challenge_element run e.challenges i)

  found_element : IsElement (value_found run j i)
  unfolding value_found
  found_element =
      let m : ℕ = index_in (steps_in run) j (suc i) in
      let at : ℕ = point (offset_in run (suc i)) (basis_in run (suc i)) m in
      either_element (ltb (suc i) (rounds_in run)) (get_or (layer_in run (suc i)) m 0) (evaluate gf64 run.last at)
      (all_get_d IsElement (layer_in run (suc i)) m 0 (omega arith) (layer_elements run v e.word e.store (suc i)))
      (evaluate-element gf64 IsElement gf64_laws run.last at e.last
      (point-element (offset_in run (suc i)) (basis_in run (suc i)) m (layer_offset-element run v (suc i))
      (layer_basis-elements run v (suc i))))

-- of bytes whose sections pass
pub passed_elements : (bytes : List ℕ) → AreBytes bytes → transcript_outcome bytes ≡ Ok tt → (j i : ℕ)
    → IsElement (value_computed (run_in bytes) j i) × IsElement (value_found (run_in bytes) j i)
passed_elements bytes h done j i =
    (computed_element (run_in bytes) valid elements j i, found_element (run_in bytes) valid elements j i)
  where
    c : Carries bytes
    c = passed_carries bytes done

    elements : Elements (run_in bytes)
    elements = run_fits bytes h

    run_done : run_outcome (run_in bytes) ≡ Ok tt
    run_done = (checks_valid (run_in bytes) (queries_in bytes) (sym (checks_are bytes c) ∙ done)).0

    valid : ValidCoset (run_in bytes)
    valid =
        record {
          parameters = c.parameters;
          offset_element = elements.offset;
          basis_elements = elements.basis;
          basis_count = (fit bytes c).basis;
          independent = ((passing.common (run_in bytes)).0 run_done).2;
        }

-- ---- digits

digit_by : (d : ℕ) (test : Bool) → ltb d 10 ≡ test → d < 16 → digit_value (cond test (48 + d) (87 + d)) ≡ d
digit_by d true e h =
    ap (λ (t : Bool). cond t (48 + d - 48) (48 + d - 87)) (lt-ltb (48 + d) 97 (omega (arith, ltb-true d 10 e)))
    ∙ omega arith
digit_by d false e h =
    ap (λ (t : Bool). cond t (87 + d - 48) (87 + d - 87)) (le-ltb (87 + d) 97 (omega (arith, ltb-false d 10 e)))
    ∙ omega arith

hexadecimal_append : (before : ℕ) (s t : List ℕ)
    → hexadecimal_after before (s ++ t) ≡ hexadecimal_after (hexadecimal_after before s) t
unfolding hexadecimal_after
hexadecimal_append before [] t = refl
hexadecimal_append before (d ∷ s) t = hexadecimal_append (16 * before + digit_value d) s t

-- each is a digit's code
abbrev pub IsDigit : (d : ℕ) → Type 0
IsDigit d = ((48 ≤ d) × (d ≤ 57)) ⊎ ((97 ≤ d) × (d ≤ 102))

code_by : (d : ℕ) (test : Bool) → ltb d 10 ≡ test → d < 16 → IsDigit (cond test (48 + d) (87 + d))
code_by d true e h = let less : d < 10 = ltb-true d 10 e in inl (omega arith, omega arith)
code_by d false e h = let least : 10 ≤ d = ltb-false d 10 e in inr (omega arith, omega arith)

pub digit_codes : (width n i : ℕ) → i < length (digits 16 width n) → IsDigit (get_or (digits 16 width n) i 0)
unfolding digits
digit_codes zero n i h = absurd (omega arith)
digit_codes (suc width) n i h =
    each_append IsDigit (digits 16 width (n / 16)) (digit (n % 16)) (digit_codes width (n / 16))
    (code_by (n % 16) (ltb (n % 16) 10) refl (omega arith)) i h

-- they stand for the number
pub hexadecimal : (width n : ℕ) → n < 16 ^ width → hexadecimal_of (digits 16 width n) ≡ n
unfolding digits hexadecimal_after
hexadecimal zero n h = omega arith
hexadecimal (suc width) n h =
    hexadecimal_append 0 (digits 16 width (n / 16)) (digit (n % 16) ∷ [])
    ∙ omega (
      arith,
      hexadecimal width (n / 16) (omega arith),
      digit_by (n % 16) (ltb (n % 16) 10) refl (omega arith),
    )
