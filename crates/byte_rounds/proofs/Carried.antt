-- The run that the bytes of a transcript carry, where their sections pass: its checks pass, and its layers lie in the
-- bytes. Assumes nothing.
use mathlib.Core.Path.{◌≡◌, sym, ap, ap₂, ◌∙◌}
use mathlib.Core.List.{List}
use Prim.Native.Nat.{ℕ, zero, suc, ◌+◌, ◌^◌, ◌≤◌, ◌<◌}
use native.Mathlib.Omega.{arith}
use lib.ListN.{get_or}
use Rattle.std.specs.Prelude.{Ok}
use Rattle.fri.specs.Run.{Run}
use Rattle.fri.specs.Judge.{checks_outcome}
use Rattle.transcript.specs.Numerals.{AreBytes, entries_at}
use Rattle.transcript.specs.Sections.{section_start, layer_section, transcript_k, transcript_steps}
use Rattle.transcript.specs.Sections.{transcript_rounds, run_in, queries_in}
use Rattle.transcript.specs.Checks.{transcript_outcome}
use Rattle.transcript.specs.Theorems.{Carries}
use Rattle.transcript.proofs.Numerals.{are_bytes}
use Rattle.transcript.proofs.Sections.{start_next, start_below}
use Rattle.transcript.proofs.Carried.{passed_carries, layer_is, checks_are}
use Rattle.byte_rounds.specs.Layers.{layer_at, LaidOut}
use Rattle.byte_rounds.proofs.LayerPlaces.{at_first, at_next}

module _ (bytes : List ℕ) (done : transcript_outcome bytes ≡ Ok tt) where
  abbrev carries : Carries bytes
  carries = passed_carries bytes done

  abbrev k : ℕ
  k = transcript_k bytes

  pub carried_checks : checks_outcome (run_in bytes) (queries_in bytes) ≡ Ok tt
  carried_checks = sym (checks_are bytes carries) ∙ done

  -- the entries of layer i begin after the count of its section
  layer_begins : (i : ℕ) → i ≤ transcript_rounds bytes
      → layer_at k (transcript_steps bytes) (section_start bytes 5 + 4) i ≡ section_start bytes (layer_section i) + 4
  layer_begins zero h = sym (at_first k (transcript_steps bytes) (section_start bytes 5 + 4))
  layer_begins (suc i) h =
      let one : layer_section (suc i) ≡ suc (layer_section i) = omega arith in
      omega (
        arith,
        at_next k (transcript_steps bytes) (section_start bytes 5 + 4) i,
        layer_begins i (omega arith),
        ap (section_start bytes) one,
        start_next bytes (layer_section i) (omega arith),
        carries.layer_counts i h,
      )

  pub laid_out : AreBytes bytes → LaidOut bytes (section_start bytes 5 + 4) (run_in bytes)
  laid_out known =
      record {
        entries =
            λ i h.
            layer_is bytes carries i h
            ∙ ap₂ (entries_at bytes) (sym (layer_begins i (omega arith))) (carries.layer_counts i h);
        begins = omega (arith, start_below bytes known 5 (omega arith));
      }

  -- so of what was sent
  pub laid_as_sent : ((i : ℕ) → get_or bytes i 0 < 2 ^ 8) → {begin : ℕ} {run : Run} → begin ≡ section_start bytes 5 + 4
      → run ≡ run_in bytes → LaidOut bytes begin run
  laid_as_sent known b r = rw (b, r) (laid_out (are_bytes bytes known))
