-- Where the sections and their lists lie. Assumes nothing.
use mathlib.Core.Path.{◌≡◌, refl, sym, ap, ◌∙◌}
use mathlib.Core.List.{List}
use Prim.Native.Nat.{ℕ, suc, ◌+◌, ◌*◌, ◌^◌, ◌≤◌, ◌<◌}
use native.Mathlib.Omega.{arith}
use lib.ListN.{get_or}
use Rattle.std.specs.Prelude.{Ok}
use Rattle.refusal.specs.Checks.{and_then}
use Rattle.fri.specs.Layout.{dimension}
use Rattle.transcript.specs.Numerals.{entry_at}
use Rattle.transcript.specs.Sections.{section_start, section_count, section_entries, layer_section, transcript_k}
use Rattle.transcript.specs.Sections.{transcript_steps}
use Rattle.transcript.specs.Checks.{due_outcome, layers_from}
use Rattle.sections.specs.Views.{EachByte}
use Rattle.transcript.proofs.Numerals.{entry_of, count_fits, are_bytes}
use Rattle.transcript.proofs.Sections.{first_start, start_below}

module _ (bytes : List ℕ) where
  module _ (known : EachByte bytes) (s at : ℕ) (few : s ≤ 25) (begins : at ≡ section_start bytes s) where
    -- the count of a section and its first entries lie before 2^40
    pub start_near : at + 12 ≤ 2 ^ 40
    start_near = omega (arith, start_below bytes (are_bytes bytes known) s few)

    -- so does its end, after its count and as many entries
    pub near : (at + 12 ≤ 2 ^ 40) × (at + 4 + 8 * section_count bytes s ≤ 2 ^ 41)
    near = (
      start_near,
      omega (
        arith,
        start_below bytes (are_bytes bytes known) s few,
        count_fits bytes (are_bytes bytes known) (section_start bytes s),
      ),
    )

  pub begins_first : 0 ≡ section_start bytes 1
  begins_first = sym (first_start bytes)

  -- ---- section 1

  module _ (three : section_count bytes 1 ≡ 3) where
    -- its entries are read where they lie
    pub parameter_is : (i place : ℕ) → i < 3 → 4 + 8 * i ≡ place
        → entry_at bytes place ≡ get_or (section_entries bytes 1) i 0
    parameter_is i place h e =
        let same : section_start bytes 1 + 4 + 8 * i ≡ place = omega (arith, first_start bytes) in
        sym
        (entry_of bytes (section_start bytes 1 + 4) (section_count bytes 1) i (omega (arith, three))
        ∙ ap (entry_at bytes) same)

  -- ---- the layers

  pub layers_one : (i left : ℕ) → layers_from bytes i (suc left)
      ≡ and_then (due_outcome bytes (layer_section i) (2 ^ dimension (transcript_k bytes) (transcript_steps bytes) i))
      (layers_from bytes (suc i) left)
  unfolding layers_from
  layers_one i left = refl

  pub layers_none : (i : ℕ) → layers_from bytes i 0 ≡ Ok tt
  unfolding layers_from
  layers_none i = refl
