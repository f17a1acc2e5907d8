-- Sections one after the other, and the numbers of the lists that they carry. Assumes nothing.
use mathlib.Core.Path.{◌≡◌, refl, sym, ap, ◌∙◌, subst}
use mathlib.Core.List.{List}
use Prim.Native.Nat.{ℕ, zero, suc, ◌+◌, ◌*◌, ◌^◌, ◌-◌, ◌≤◌}
use native.Mathlib.Nat.{add-zero, add-suc, le_trans, le_of_eq}
use native.Mathlib.Omega.{arith}
use Rattle.gf64.specs.Field.{IsElement}
use Rattle.poly.specs.Polynomial.{All}
use Rattle.poly.proofs.Entries.{all_append, all_drop, all_get_d}
use Rattle.fri.specs.Layout.{joined_layers}
use Rattle.fri.specs.Demand.{Elements}
use Rattle.transcript.specs.Numerals.{AreBytes}
use Rattle.transcript.specs.Sections.{section_end, section_start, section_count}
use Rattle.transcript.specs.Sections.{section_entries, layer_section, run_in}
use Rattle.transcript.proofs.Numerals.{count_fits, entries_fit}

module _ (bytes : List ℕ) where
  -- a section begins where the one before it ends
  pub start_next : (s : ℕ) → 1 ≤ s → section_start bytes (suc s) ≡ section_end bytes (section_start bytes s)
  unfolding section_start
  start_next zero h = absurd (omega arith)
  start_next (suc s) h = refl

  pub end_is : (s at : ℕ) → 1 ≤ s → at ≡ section_start bytes s → section_end bytes at ≡ section_start bytes (suc s)
  end_is s at h e = ap (section_end bytes) e ∙ sym (start_next s h)

  pub first_start : section_start bytes 1 ≡ 0
  unfolding section_start
  first_start = refl

  start_after : (s n : ℕ) → 1 ≤ s → section_start bytes s ≤ section_start bytes (s + n)
  start_after s zero h = le_of_eq (ap (section_start bytes) (sym (add-zero s)))
  start_after s (suc n) h =
      le_trans (start_after s n h)
      (le_trans (omega (arith, start_next (s + n) (omega arith)))
      (le_of_eq (ap (section_start bytes) (sym (add-suc s n)))))

  -- a later section begins later
  pub start_later : (s t : ℕ) → 1 ≤ s → s ≤ t → section_start bytes s ≤ section_start bytes t
  start_later s t h l =
      let whole : s + (t - s) ≡ t = omega arith in
      subst (λ (n : ℕ). section_start bytes s ≤ section_start bytes n) whole (start_after s (t - s) h)

  module _ (h : AreBytes bytes) where
    -- a section has at most 4 + 8 · (2^32 - 1) bytes, whatever its count
    start_small : (s : ℕ) → section_start bytes s ≤ s * 2 ^ 35
    unfolding section_start
    start_small zero = omega arith
    start_small (suc zero) = omega arith
    start_small (suc (suc s)) = omega (arith, start_small (suc s), count_fits bytes h (section_start bytes (suc s)))

    -- up to the last section that there may be
    pub start_below : (s : ℕ) → s ≤ 25 → section_start bytes s ≤ 25 * 2 ^ 35
    start_below s l = omega (arith, start_small s)

    pub section_fits : (s : ℕ) → All IsElement (section_entries bytes s)
    section_fits s = entries_fit bytes h (section_start bytes s + 4) (section_count bytes s)

    joined_fit : (n : ℕ) → All IsElement (joined_layers (λ i. section_entries bytes (layer_section i)) n)
    unfolding joined_layers
    joined_fit zero = record {}
    joined_fit (suc n) =
        all_append IsElement (joined_layers (λ i. section_entries bytes (layer_section i)) n)
        (section_entries bytes (layer_section (suc n))) (joined_fit n) (section_fits (layer_section (suc n)))

    -- the run that they carry has 64-bit numbers
    pub run_fits : Elements (run_in bytes)
    run_fits =
        record {
          offset = all_get_d IsElement (section_entries bytes 2) 0 0 (omega arith) (section_fits 2);
          basis = all_drop IsElement 1 (section_entries bytes 2) (section_fits 2);
          challenges = section_fits _;
          word = section_fits _;
          store = joined_fit _;
          last = section_fits _;
        }
