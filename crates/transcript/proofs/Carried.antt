-- Bytes that carry lists: the checks of their sections are those of the lists. Assumes nothing.
use mathlib.Core.Path.{◌≡◌, refl, sym, ap, ap₂, ◌∙◌, subst}
use mathlib.Core.Bool.{Bool, true, false, ◌&&◌}
use mathlib.Core.List.{List}
use Prim.Native.Nat.{ℕ, zero, suc, ◌+◌, ◌-◌, ◌^◌, ◌≤◌, ◌<◌}
use native.Mathlib.Nat.{le_trans, le_of_eq}
use native.Mathlib.Omega.{arith}
use lib.Dec.{leb, eqb}
use lib.ListN.{length, length-drop}
use borrow.Author.Tests.{eq-eqb}
use Rattle.refusal.specs.declared.Cause.{Cause}
use Rattle.refusal.specs.declared.Cause.TheVariants.{TrailingBytes, QueryCountOutOfRange}
use Rattle.std.specs.Prelude.{Ok, Err}
use Rattle.refusal.specs.Outcome.{Outcome}
use Rattle.refusal.specs.Checks.{refused_unless, and_then}
use Rattle.refusal.proofs.Checks.{equal_of_test, passed_by, unless_done, then_passed, then_done}
use Rattle.coset.specs.Answers.{basis_outcome}
use Rattle.fri.specs.Layout.{step_at, dimension, last_count, layer_start, store_length}
use Rattle.fri.specs.Run.{layer_in}
use Rattle.fri.specs.Checks.{parameters_outcome, lengths_outcome, run_outcome}
use Rattle.fri.specs.Checks.{indices_outcome, queries_outcome}
use Rattle.fri.specs.Judge.{checks_outcome}
use Rattle.fri.specs.Theorems.{Fit}
use Rattle.fri.proofs.Checks.{parameters_pass, lengths_pass, queries_valid}
use Rattle.fri.proofs.Layouts.{joined_length, joined_found, some_round}
use Rattle.transcript.specs.Sections.{section_start, section_count, section_entries, layer_section, transcript_k}
use Rattle.transcript.specs.Sections.{transcript_rate, transcript_step, transcript_steps, transcript_rounds, run_in}
use Rattle.transcript.specs.Sections.{queries_in}
use Rattle.transcript.specs.Checks.{due_outcome, parameters_section, coset_section, challenges_section}
use Rattle.transcript.specs.Checks.{queries_section, lists_outcome, front_outcome, layers_from, end_outcome}
use Rattle.transcript.specs.Checks.{layers_outcome, transcript_outcome}
use Rattle.transcript.specs.Theorems.{Carries}
use Rattle.transcript.proofs.Numerals.{length_entries}
use Rattle.transcript.proofs.Sections.{start_later}
use Rattle.transcript.proofs.Checks.{section_tested, due_passes, due_done, parameters_done, layers_pass}
use Rattle.transcript.proofs.Checks.{layers_done}

test_then : (test : Bool) (cause : Cause) (after : Outcome)
    → and_then (refused_unless test cause (Ok tt)) after ≡ refused_unless test cause after
test_then true cause after = refl
test_then false cause after = refl

then_nothing : (o : Outcome) → and_then o (Ok tt) ≡ o
then_nothing (Ok _) = refl
then_nothing (Err cause) = refl

module _ (bytes : List ℕ) where
  abbrev r : ℕ
  r = transcript_rounds bytes

  abbrev last_due : ℕ
  last_due = last_count (transcript_k bytes) (transcript_rate bytes) (transcript_steps bytes)

  abbrev end : Outcome
  end = refused_unless (eqb (section_start bytes (suc (layer_section r))) (length bytes)) TrailingBytes (Ok tt)

  abbrev layer : ℕ → List ℕ
  layer i = section_entries bytes (layer_section i)

  abbrev counted : Bool
  counted = leb 1 (section_count bytes 4) && leb (section_count bytes 4) 256

  abbrev first_step : ℕ
  first_step = step_at (transcript_steps bytes) 0

  abbrev indices : Outcome
  indices = indices_outcome (transcript_k bytes) first_step (queries_in bytes)

  abbrev of_queries : Outcome
  of_queries = queries_outcome (transcript_k bytes) first_step (queries_in bytes)

  -- where the bytes of section 4 are there, it is checked as a query list is
  pub queries-section : section_start bytes 5 ≤ length bytes → queries_section bytes ≡ of_queries
  queries-section whole =
      ap (λ (o : Outcome). and_then o indices)
      (section_tested bytes 4 counted QueryCountOutOfRange (omega arith) whole)
      ∙ test_then counted QueryCountOutOfRange indices
      ∙ ap (λ (n : ℕ). refused_unless (leb 1 n && leb n 256) QueryCountOutOfRange indices)
      (sym (length_entries bytes (section_start bytes 4 + 4) (section_count bytes 4)))

  module _ (c : Carries bytes) where
    -- all sections end within the bytes
    inside : (s : ℕ) → 1 ≤ s → s ≤ layer_section r → section_start bytes (suc s) ≤ length bytes
    inside s h l =
        le_trans (start_later bytes (suc s) (suc (layer_section r)) (omega arith) (omega arith)) (le_of_eq c.ends)

    pub rounds_some : 0 < r
    rounds_some =
        some_round (transcript_k bytes) (transcript_rate bytes) (transcript_step bytes) c.parameters.step_least
        c.parameters.k_enough

    layer_sized : (i : ℕ) → i < r → length (layer i) ≡ 2 ^ dimension (transcript_k bytes) (transcript_steps bytes) i
    layer_sized i h =
        length_entries bytes (section_start bytes (layer_section i) + 4) (section_count bytes (layer_section i))
        ∙ c.layer_counts i h

    -- the lists that they carry have the lengths due
    pub fit : Fit (run_in bytes)
    unfolding store_length dimension
    fit =
        record {
          basis =
              length-drop 1 (section_entries bytes 2)
              ∙ ap (λ (n : ℕ). n - 1)
              (length_entries bytes (section_start bytes 2 + 4) (section_count bytes 2) ∙ c.coset_count) ∙ one_less;
          challenges = length_entries bytes (section_start bytes 3 + 4) (section_count bytes 3) ∙ c.challenges_count;
          word = layer_sized 0 rounds_some;
          store =
              joined_length (transcript_k bytes) (transcript_steps bytes) layer (r - 1)
              (λ i least most. layer_sized i (omega (arith, rounds_some)))
              ∙ ap (λ (n : ℕ). layer_start (transcript_k bytes) (transcript_steps bytes) n) whole;
          last =
              length_entries bytes (section_start bytes (layer_section r) + 4) (section_count bytes (layer_section r))
              ∙ c.last-count;
        }
      where
        one_less : transcript_k bytes + 1 - 1 ≡ transcript_k bytes
        one_less = omega arith

        whole : suc (r - 1) ≡ r
        whole = omega (arith, rounds_some)

    -- layer i of the run is the section of layer i
    pub layer_is : (i : ℕ) → i < r → layer_in (run_in bytes) i ≡ layer i
    unfolding layer_in
    layer_is zero h = refl
    layer_is (suc i) h =
        joined_found (transcript_k bytes) (transcript_steps bytes) layer (r - 1)
        (λ j least most. layer_sized j (omega (arith, rounds_some))) (suc i) (omega arith) (omega (arith, rounds_some))

    -- ---- the checks

    parameters-section : parameters_section bytes ≡ Ok tt
    parameters-section =
        sym (then_passed (due_outcome bytes 1 3)
        (parameters_outcome (transcript_k bytes) (transcript_rate bytes) (transcript_step bytes))
        (due_passes bytes 1 3 (omega arith) c.parameters_count (inside 1 (omega arith) (omega arith))))
        ∙ parameters_pass (transcript_k bytes) (transcript_rate bytes) (transcript_step bytes) c.parameters

    coset-section : coset_section bytes ≡ basis_outcome (run_in bytes).basis
    coset-section =
        sym (then_passed (due_outcome bytes 2 (transcript_k bytes + 1)) (basis_outcome (run_in bytes).basis)
        (due_passes bytes 2 (transcript_k bytes + 1) (omega arith) c.coset_count
        (inside 2 (omega arith) (omega arith))))

    challenges-section : challenges_section bytes ≡ Ok tt
    challenges-section = due_passes bytes 3 r (omega arith) c.challenges_count (inside 3 (omega arith) (omega arith))

    front_is : front_outcome bytes ≡ and_then (basis_outcome (run_in bytes).basis) of_queries
    front_is =
        sym (then_passed (parameters_section bytes) (lists_outcome bytes) parameters-section)
        ∙ ap₂ and_then coset-section
        (sym (then_passed (challenges_section bytes) (queries_section bytes) challenges-section)
        ∙ queries-section (inside 4 (omega arith) (omega arith)))

    layers_pass_all : layers_outcome bytes ≡ Ok tt
    layers_pass_all =
        sym (then_passed (layers_from bytes 0 r) (end_outcome bytes)
        (layers_pass bytes 0 r r (omega arith)
        (λ j l m. due_passes bytes (layer_section j) (2 ^ dimension (transcript_k bytes) (transcript_steps bytes) j)
        (omega arith) (c.layer_counts j m) (inside (layer_section j) (omega arith) (omega arith)))))
        ∙ sym (then_passed (due_outcome bytes (layer_section r) last_due) end
        (due_passes bytes (layer_section r) last_due (omega arith) c.last-count
        (inside (layer_section r) (omega arith) (omega arith))))
        ∙ sym (passed_by (eqb (section_start bytes (suc (layer_section r))) (length bytes)) TrailingBytes (Ok tt)
        (eq-eqb (section_start bytes (suc (layer_section r))) (length bytes) c.ends))

    -- the checks of sections 1 to 4 are those of the lists
    pub front_checks : front_outcome bytes ≡ checks_outcome (run_in bytes) (queries_in bytes)
    front_checks = front_is ∙ ap (λ (o : Outcome). and_then o of_queries) lists
      where
        lists : basis_outcome (run_in bytes).basis ≡ run_outcome (run_in bytes)
        lists =
            then_passed (lengths_outcome (run_in bytes)) (basis_outcome (run_in bytes).basis)
            (lengths_pass (run_in bytes) fit)
            ∙ then_passed (parameters_outcome (transcript_k bytes) (transcript_rate bytes) (transcript_step bytes))
            (and_then (lengths_outcome (run_in bytes)) (basis_outcome (run_in bytes).basis))
            (parameters_pass (transcript_k bytes) (transcript_rate bytes) (transcript_step bytes) c.parameters)

    -- and so are those of all sections
    pub checks_are : transcript_outcome bytes ≡ checks_outcome (run_in bytes) (queries_in bytes)
    checks_are =
        ap₂ and_then front_checks layers_pass_all ∙ then_nothing (checks_outcome (run_in bytes) (queries_in bytes))

  -- ---- bytes that pass carry lists

  pub passed_carries : transcript_outcome bytes ≡ Ok tt → Carries bytes
  passed_carries done =
      let both = then_done (front_outcome bytes) (layers_outcome bytes) done in
      let first = then_done (parameters_section bytes) (lists_outcome bytes) both.0 in
      let second = then_done (coset_section bytes)
      (and_then (challenges_section bytes) (queries_section bytes)) first.1 in
      let third = then_done (challenges_section bytes) (queries_section bytes) second.1 in
      let parameters = parameters_done bytes first.0 in
      let coset = then_done (due_outcome bytes 2 (transcript_k bytes + 1))
      (basis_outcome (run_in bytes).basis) second.0 in
      let layers = then_done (layers_from bytes 0 r) (end_outcome bytes) both.1 in
      let last = then_done (due_outcome bytes (layer_section r) last_due) end layers.1 in
      record {
        parameters_count = parameters.0;
        parameters = parameters.1;
        coset_count = (due_done bytes 2 (transcript_k bytes + 1) coset.0).0;
        challenges_count = (due_done bytes 3 r third.0).0;
        layer_counts =
            λ i h. (due_done bytes (layer_section i) (2 ^ dimension (transcript_k bytes) (transcript_steps bytes) i)
            (layers_done bytes 0 r r (omega arith) layers.0 i (omega arith) h)).0;
        last-count = (due_done bytes (layer_section r) last_due last.0).0;
        ends =
            equal_of_test (section_start bytes (suc (layer_section r))) (length bytes)
            (unless_done (eqb (section_start bytes (suc (layer_section r))) (length bytes))
            TrailingBytes (Ok tt) last.1).0;
      }

  -- and 1 to 256 queries
  pub queries_few : transcript_outcome bytes ≡ Ok tt → section_count bytes 4 ≤ 256
  queries_few done =
      let carries = passed_carries done in
      let queries = (then_done (run_outcome (run_in bytes)) of_queries (sym (checks_are carries) ∙ done)).1 in
      subst (λ (n : ℕ). n ≤ 256) (length_entries bytes (section_start bytes 4 + 4) (section_count bytes 4))
      (queries_valid (transcript_k bytes) first_step (queries_in bytes) queries).0.most
