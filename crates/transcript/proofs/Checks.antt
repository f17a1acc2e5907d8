-- Which sections pass, and what is known where they do. Assumes nothing.
use mathlib.Core.Path.{◌≡◌, refl, sym, ap, ◌∙◌, subst}
use mathlib.Core.Logic.{⊎_elim}
use mathlib.Core.Bool.{Bool, true, false}
use mathlib.Core.List.{List}
use Prim.Native.Nat.{ℕ, zero, suc, ◌+◌, ◌*◌, ◌^◌, ◌≤◌, ◌<◌}
use native.Mathlib.Nat.{eq-or-lt_of_le}
use native.Mathlib.Omega.{arith}
use lib.Dec.{leb, eqb}
use lib.ListN.{length}
use borrow.Author.Tests.{le-leb, lt-leb, eq-eqb}
use Rattle.refusal.specs.declared.Cause.{Cause}
use Rattle.refusal.specs.declared.Cause.TheVariants.{BytesEnd, CountDiffers}
use Rattle.std.specs.Prelude.{Ok, Err}
use Rattle.refusal.specs.Outcome.{Outcome}
use Rattle.refusal.specs.Checks.{refused_unless}
use Rattle.refusal.proofs.Checks.{equal_of_test, le_of_test, passed_by, refused_by, unless_done, then_passed}
use Rattle.refusal.proofs.Checks.{then_done}
use Rattle.fri.specs.Layout.{dimension}
use Rattle.fri.specs.Checks.{parameters_outcome}
use Rattle.fri.specs.Demand.{ValidParameters}
use Rattle.fri.proofs.Checks.{parameters_valid}
use Rattle.transcript.specs.Sections.{section_start, section_count, layer_section, transcript_k, transcript_rate}
use Rattle.transcript.specs.Sections.{transcript_step, transcript_steps}
use Rattle.transcript.specs.Checks.{section_outcome, due_outcome, parameters_section, lists_outcome, front_outcome}
use Rattle.transcript.specs.Checks.{layers_from}
use Rattle.transcript.proofs.Sections.{start_next}

module _ (bytes : List ℕ) where
  -- ---- one section

  abbrev entries_there : ℕ → Outcome
  entries_there s = refused_unless (leb (section_start bytes (suc s)) (length bytes)) (BytesEnd s) (Ok tt)

  -- its count is cut off, its count does not pass, its entries are cut off
  pub count_cut : (s : ℕ) (test : Bool) (cause : Cause) → length bytes < section_start bytes s + 4
      → Err (BytesEnd s) ≡ section_outcome bytes s test cause
  count_cut s test cause h =
      refused_by (leb (section_start bytes s + 4) (length bytes)) (BytesEnd s)
      (refused_unless test cause (entries_there s)) (lt-leb (section_start bytes s + 4) (length bytes) h)

  count_there : (s : ℕ) (test : Bool) (cause : Cause) → section_start bytes s + 4 ≤ length bytes
      → refused_unless test cause (entries_there s) ≡ section_outcome bytes s test cause
  count_there s test cause h =
      passed_by (leb (section_start bytes s + 4) (length bytes)) (BytesEnd s)
      (refused_unless test cause (entries_there s)) (le-leb (section_start bytes s + 4) (length bytes) h)

  pub count_fails : (s : ℕ) (test : Bool) (cause : Cause) → section_start bytes s + 4 ≤ length bytes → test ≡ false
      → Err cause ≡ section_outcome bytes s test cause
  count_fails s test cause h e = refused_by test cause (entries_there s) e ∙ count_there s test cause h

  pub entries_cut : (s : ℕ) (test : Bool) (cause : Cause) → section_start bytes s + 4 ≤ length bytes → test ≡ true
      → length bytes < section_start bytes (suc s) → Err (BytesEnd s) ≡ section_outcome bytes s test cause
  entries_cut s test cause h e l =
      refused_by (leb (section_start bytes (suc s)) (length bytes)) (BytesEnd s) (Ok tt)
      (lt-leb (section_start bytes (suc s)) (length bytes) l)
      ∙ passed_by test cause (entries_there s) e ∙ count_there s test cause h

  -- where its bytes are there, the test alone decides
  pub section_tested : (s : ℕ) (test : Bool) (cause : Cause) → 1 ≤ s → section_start bytes (suc s) ≤ length bytes
      → section_outcome bytes s test cause ≡ refused_unless test cause (Ok tt)
  section_tested s test cause h whole =
      sym (count_there s test cause (omega (arith, start_next bytes s h)))
      ∙ ap (refused_unless test cause)
      (sym (passed_by (leb (section_start bytes (suc s)) (length bytes)) (BytesEnd s) (Ok tt)
      (le-leb (section_start bytes (suc s)) (length bytes) whole)))

  -- so where its count, and as many entries as pass the test, lie within the bytes
  pub section_counted : (s most : ℕ) (cause : Cause) (test : ℕ → Bool) → 1 ≤ s
      → ((n : ℕ) → test n ≡ true → n ≤ most) → section_start bytes s + 4 + 8 * most ≤ length bytes
      → section_outcome bytes s (test (section_count bytes s)) cause
      ≡ refused_unless (test (section_count bytes s)) cause (Ok tt)
  section_counted s most cause test least few room = by (test (section_count bytes s)) refl
    where
      by : (t : Bool) → test (section_count bytes s) ≡ t
          → section_outcome bytes s (test (section_count bytes s)) cause
          ≡ refused_unless (test (section_count bytes s)) cause (Ok tt)
      by true e =
          section_tested s (test (section_count bytes s)) cause least
          (omega (arith, start_next bytes s least, few (section_count bytes s) e))
      by false e =
          sym (count_fails s (test (section_count bytes s)) cause (omega arith) e)
          ∙ refused_by (test (section_count bytes s)) cause (Ok tt) e

  pub section_passes : (s : ℕ) (test : Bool) (cause : Cause) → 1 ≤ s → test ≡ true
      → section_start bytes (suc s) ≤ length bytes → (Ok tt) ≡ section_outcome bytes s test cause
  section_passes s test cause h e whole = passed_by test cause (Ok tt) e ∙ sym (section_tested s test cause h whole)

  pub section_done : (s : ℕ) (test : Bool) (cause : Cause) → section_outcome bytes s test cause ≡ Ok tt
      → (test ≡ true) × (section_start bytes (suc s) ≤ length bytes)
  section_done s test cause e =
      let first = unless_done (leb (section_start bytes s + 4) (length bytes)) (BytesEnd s)
      (refused_unless test cause (entries_there s)) e in
      let second = unless_done test cause (entries_there s) first.1 in
      let third = unless_done (leb (section_start bytes (suc s)) (length bytes)) (BytesEnd s) (Ok tt) second.1 in
      (second.0, le_of_test (section_start bytes (suc s)) (length bytes) third.0)

  pub due_passes : (s due : ℕ) → 1 ≤ s → section_count bytes s ≡ due → section_start bytes (suc s) ≤ length bytes
      → due_outcome bytes s due ≡ Ok tt
  due_passes s due h e whole =
      section_tested s (eqb (section_count bytes s) due) (CountDiffers s) h whole
      ∙ sym (passed_by (eqb (section_count bytes s) due) (CountDiffers s) (Ok tt) (eq-eqb (section_count bytes s) due e))

  pub due_done : (s due : ℕ) → due_outcome bytes s due ≡ Ok tt
      → (section_count bytes s ≡ due) × (section_start bytes (suc s) ≤ length bytes)
  due_done s due e =
      let both = section_done s (eqb (section_count bytes s) due) (CountDiffers s) e in
      (equal_of_test (section_count bytes s) due both.0, both.1)

  -- ---- sections 1 to 4

  -- where section 1 passes, it has the three, in range
  pub parameters_done : parameters_section bytes ≡ Ok tt
      → (section_count bytes 1 ≡ 3) × ValidParameters (transcript_k bytes) (transcript_rate bytes) (transcript_step bytes)
  parameters_done e =
      let both = then_done (due_outcome bytes 1 3)
      (parameters_outcome (transcript_k bytes) (transcript_rate bytes) (transcript_step bytes)) e in (
        (due_done 1 3 both.0).0,
        parameters_valid (transcript_k bytes) (transcript_rate bytes) (transcript_step bytes) both.1,
      )

  pub front_done : front_outcome bytes ≡ Ok tt
      → (section_count bytes 1 ≡ 3) × ValidParameters (transcript_k bytes) (transcript_rate bytes) (transcript_step bytes)
  front_done e = parameters_done (then_done (parameters_section bytes) (lists_outcome bytes) e).0

  -- ---- the layers

  abbrev size : ℕ → ℕ
  size i = 2 ^ dimension (transcript_k bytes) (transcript_steps bytes) i

  -- from layer i on, those before n
  pub layers_pass : (i left n : ℕ) → i + left ≡ n
      → ((j : ℕ) → i ≤ j → j < n → due_outcome bytes (layer_section j) (size j) ≡ Ok tt) → layers_from bytes i left ≡ Ok tt
  unfolding layers_from
  layers_pass i zero n e pass = refl
  layers_pass i (suc left) n e pass =
      sym (then_passed (due_outcome bytes (layer_section i) (size i)) (layers_from bytes (suc i) left)
      (pass i (omega arith) (omega arith)))
      ∙ layers_pass (suc i) left n (omega arith) (λ j l m. pass j (omega arith) m)

  pub layers_done : (i left n : ℕ) → i + left ≡ n → layers_from bytes i left ≡ Ok tt → (j : ℕ) → i ≤ j → j < n
      → due_outcome bytes (layer_section j) (size j) ≡ Ok tt
  unfolding layers_from
  layers_done i zero n e done j l m = absurd (omega arith)
  layers_done i (suc left) n e done j l m =
      let both = then_done (due_outcome bytes (layer_section i) (size i)) (layers_from bytes (suc i) left) done in
      ⊎_elim
      (λ (same : i ≡ j). subst (λ (t : ℕ). due_outcome bytes (layer_section t) (size t) ≡ Ok tt) same both.0)
      (λ (more : i < j). layers_done (suc i) left n (omega arith) both.1 j (omega arith) m)
      (eq-or-lt_of_le l)
