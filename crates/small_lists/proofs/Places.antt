-- The small lists that bytes carry: they are short, and the last one lies where the code reads it. Assumes nothing.
use mathlib.Core.Path.{◌≡◌, sym, ap₂}
use mathlib.Core.Logic.{⊎_elim}
use mathlib.Core.List.{List}
use Prim.Native.Nat.{ℕ, suc, ◌+◌, ◌*◌, ◌-◌, ◌^◌, ◌≤◌}
use native.Mathlib.Omega.{arith}
use lib.ListN.{length}
use Rattle.std.specs.Prelude.{Ok}
use Rattle.fri.specs.Layout.{last_count}
use Rattle.fri.proofs.Layers.{layouts}
use Rattle.layout.proofs.Sizes.{few_rounds}
use Rattle.transcript.specs.Numerals.{entries_at}
use Rattle.transcript.specs.Sections.{section_start, section_count, section_entries}
use Rattle.transcript.specs.Sections.{layer_section, transcript_k, transcript_rate}
use Rattle.transcript.specs.Sections.{transcript_step, transcript_steps, transcript_rounds, run_in}
use Rattle.transcript.specs.Checks.{transcript_outcome}
use Rattle.transcript.specs.Theorems.{Carries}
use Rattle.transcript.proofs.Numerals.{are_bytes, length_entries}
use Rattle.transcript.proofs.Carried as carried
use Rattle.transcript.proofs.Sections.{start_next, start_below}
use Rattle.sections.specs.Views.{EachByte, parameters_in}

module _ (bytes : List ℕ) (passed : transcript_outcome bytes ≡ Ok tt) where
  c : Carries bytes
  c = carried.passed_carries bytes passed

  rounds_few : transcript_rounds bytes ≤ 19
  rounds_few = few_rounds (parameters_in bytes) c.parameters

  pub lists_few : (section_count bytes 2 ≤ 21) × (section_count bytes 3 ≤ 20) × (section_count bytes 4 ≤ 256)
  lists_few = (
    omega (arith, c.coset_count, c.parameters.k_most),
    omega (arith, c.challenges_count, rounds_few),
    carried.queries_few bytes passed,
  )

  -- the offset, at least
  pub coset_some : 1 ≤ length (section_entries bytes 2)
  coset_some = omega (arith, c.coset_count, length_entries bytes (section_start bytes 2 + 4) (section_count bytes 2))

  -- ---- the last coefficients: d is 1, 2 or 4

  abbrev due : ℕ
  due = last_count (transcript_k bytes) (transcript_rate bytes) (transcript_steps bytes)

  last_few : due ≤ 4
  last_few =
      ⊎_elim (λ one. omega (arith, one)) (⊎_elim (λ two. omega (arith, two)) (λ four. omega (arith, four)))
      (layouts.few_coefficients (transcript_k bytes) (transcript_rate bytes) (transcript_step bytes) c.parameters)

  last_within : 8 * due ≤ length bytes
  last_within =
      omega (arith, c.ends, start_next bytes (layer_section (transcript_rounds bytes)) (omega arith), c.last-count)

  -- there are at most 24 sections, each of less than 2^35 bytes
  pub last_lies : EachByte bytes → (due ≤ 4) × (8 * due ≤ length bytes) × (length bytes ≤ 2 ^ 40)
  last_lies known = (
    last_few,
    last_within,
    omega (
      arith,
      c.ends,
      start_below bytes (are_bytes bytes known) (suc (layer_section (transcript_rounds bytes)))
          (omega (arith, rounds_few)),
    ),
  )

  pub last_are : entries_at bytes (length bytes - 8 * due) due ≡ (run_in bytes).last
  last_are =
      let section = layer_section (transcript_rounds bytes) in
      let place : length bytes - 8 * due ≡ section_start bytes section + 4 =
      omega (arith, c.ends, start_next bytes section (omega arith), c.last-count) in
      ap₂ (entries_at bytes) place (sym c.last-count)
