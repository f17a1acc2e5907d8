-- The sections of the layers, one after the other. Assumes nothing.
use mathlib.Core.Path.{◌≡◌, sym, ap, ap₂, ◌∙◌}
use mathlib.Core.List.{List}
use Prim.Native.Nat.{ℕ, suc, ◌+◌, ◌-◌, ◌^◌, ◌≤◌, ◌<◌}
use native.Mathlib.Numerals.{add-one}
use native.Mathlib.Omega.{arith}
use Rattle.std.specs.Prelude.{Ok, Err}
use Rattle.refusal.specs.declared.Cause.{Cause}
use Rattle.refusal.specs.Outcome.{Outcome}
use Rattle.refusal.specs.Checks.{and_then}
use Rattle.refusal.proofs.Checks.{then_passed, then_refused}
use Rattle.fri.specs.Layout.{dimension}
use Rattle.transcript.specs.Sections.{layer_section, transcript_k, transcript_steps, transcript_rounds}
use Rattle.transcript.specs.Checks.{due_outcome, layers_from, layers_outcome, end_outcome}
use Rattle.sections.proofs.Places.{layers_one, layers_none}

-- the sections of layers i to `end` - 1, of which those before i have passed
module _ (bytes : List ℕ) (i end : ℕ)
    (so_far : layers_from bytes i (end - i) ≡ layers_from bytes 0 (transcript_rounds bytes)) where
  abbrev pub due : Outcome
  due = due_outcome bytes (layer_section i) (2 ^ dimension (transcript_k bytes) (transcript_steps bytes) i)

  abbrev rest : Outcome
  rest = layers_from bytes (suc i) (end - suc i)

  module _ (h : i < end) where
    first : and_then due rest ≡ layers_from bytes 0 (transcript_rounds bytes)
    first =
        let one_more : end - i ≡ suc (end - suc i) = omega arith in
        sym (layers_one bytes i (end - suc i)) ∙ ap (layers_from bytes i) (sym one_more) ∙ so_far

    pub passed : due ≡ Ok tt → layers_from bytes (i + 1) (end - (i + 1)) ≡ layers_from bytes 0 (transcript_rounds bytes)
    passed e =
        ap₂ (layers_from bytes) (add-one i) (ap (λ (n : ℕ). end - n) (add-one i))
        ∙ then_passed due rest e ∙ first

    pub refused : (cause : Cause) → due ≡ Err cause → Err cause ≡ layers_outcome bytes
    refused cause e =
        then_refused (layers_from bytes 0 (transcript_rounds bytes)) (end_outcome bytes) cause
        (sym (then_refused due rest cause e ∙ first))

  pub all : end ≤ i → end_outcome bytes ≡ layers_outcome bytes
  all h =
      let none : end - i ≡ 0 = omega arith in
      then_passed (layers_from bytes 0 (transcript_rounds bytes)) (end_outcome bytes)
      (sym so_far ∙ ap (layers_from bytes i) none ∙ layers_none bytes i)
