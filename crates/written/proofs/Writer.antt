-- The writer's refusals. Assumes nothing.
use mathlib.Core.Path.{◌≡◌, refl, sym, ap, ◌∙◌}
use mathlib.Core.Logic.{◌≢◌, ◌↔◌, inl, inr}
use mathlib.Core.List.{List}
use Prim.Native.Nat.{ℕ, ◌≤◌}
use native.Mathlib.Omega.{arith}
use lib.Dec.{eqb}
use lib.ListN.{length}
use borrow.Author.Tests.{eq-eqb, ne_eqb}
use Rattle.refusal.specs.declared.Cause.{Cause}
use Rattle.refusal.specs.declared.Cause.TheVariants.{WrongLength}
use Rattle.refusal.specs.declared.Lent.TheVariants as lent
use Rattle.std.specs.Prelude.{Ok, Err}
use Rattle.refusal.specs.Outcome.{Outcome}
use Rattle.refusal.specs.Checks.{and_then, afterwards}
use Rattle.refusal.specs.Numbers.{number_of_outcome}
use Rattle.refusal.proofs.Checks.{equal_of_test, passed_by, refused_by, unless_done, then_passed, then_done}
use Rattle.refusal.proofs.Checks.{then_then, number_unless, number_then}
use Rattle.coset.specs.Answers.{basis_outcome}
use Rattle.coset.proofs.Independence.{basis_number}
use Rattle.fri.specs.Run.{Run, steps_in, step_in}
use Rattle.fri.specs.Checks.{parameters_outcome, lengths_outcome, queries_outcome}
use Rattle.fri.specs.Judge.{checks_outcome}
use Rattle.fri.specs.Demand.{ValidParameters}
use Rattle.fri.specs.Theorems.{Fit}
use Rattle.fri.proofs.Checks.{parameters_pass, parameters_valid, lengths_pass, lengths_fit}
use Rattle.fri.proofs.Checks.{run_number, queries_number}
use Rattle.written.specs.Transcript.{transcript_of, transcript_length}
use Rattle.written.specs.Writer.{size_outcome, write_outcome, bytes_after}
use Rattle.written.specs.Theorems.{WriterNumber, WriterRefusals}
use Rattle.written.proofs.Lengths.{transcript_size}

-- ---- three groups of checks

-- what is refused by the first two is refused whatever follows
cut : (first second after : Outcome) (cause : Cause) → and_then first second ≡ Err cause
    → and_then first (and_then second after) ≡ Err cause
cut first second after cause e = then_then first second after ∙ ap (λ (o : Outcome). and_then o after) e

number_before : (P : ℕ → Type 0) (first second third after : Outcome)
    → P (number_of_outcome (and_then first (and_then second third))) → P (number_of_outcome after)
    → P (number_of_outcome (and_then first (and_then second after)))
number_before P (Ok _) (Ok _) third after h a = a
number_before P (Ok _) (Err cause) third after h a = h
number_before P (Err cause) second third after h a = h

-- ---- the writer's

module _ (run : Run) (queries : List ℕ) where
  abbrev parameters : Outcome
  parameters = parameters_outcome run.k run.rate run.step

  abbrev of_basis : Outcome
  of_basis = basis_outcome run.basis

  abbrev of_queries : Outcome
  of_queries = queries_outcome run.k (step_in run 0) queries

  abbrev needed : ℕ
  needed = length (transcript_of run queries)

  abbrev sized : ℕ → Outcome
  sized size = and_then (size_outcome run queries size) (and_then of_basis of_queries)

  as_lists_needed : write_outcome run queries needed ≡ checks_outcome run queries
  as_lists_needed =
      ap (λ (o : Outcome). and_then parameters (and_then (lengths_outcome run) (and_then o (and_then of_basis of_queries))))
      (sym (passed_by (eqb needed needed) (WrongLength lent.Bytes) (Ok tt) (eq-eqb needed needed refl)))
      ∙ ap (and_then parameters) (then_then (lengths_outcome run) of_basis of_queries)
      ∙ then_then parameters (and_then (lengths_outcome run) of_basis) of_queries

  earlier : (size : ℕ) (cause : Cause) → and_then parameters (lengths_outcome run) ≡ Err cause
      → write_outcome run queries size ≡ Err cause
  earlier size cause e = cut parameters (lengths_outcome run) (sized size) cause e

  abbrev due : ℕ
  due = transcript_length run.k run.rate (steps_in run) (length queries)

  as_lists : write_outcome run queries due ≡ checks_outcome run queries
  as_lists = by (and_then parameters (lengths_outcome run)) refl
    where
      by : (o : Outcome) → and_then parameters (lengths_outcome run) ≡ o
          → write_outcome run queries due ≡ checks_outcome run queries
      by (Err cause) e = earlier due cause e ∙ sym (earlier needed cause e) ∙ as_lists_needed
      by (Ok _) e =
          let both = then_done parameters (lengths_outcome run) e in
          let valid = parameters_valid run.k run.rate run.step both.0 in
          ap (write_outcome run queries) (sym (transcript_size run valid (lengths_fit run both.1) queries))
          ∙ as_lists_needed

  sized_done : (size : ℕ) → write_outcome run queries size ≡ Ok tt → size ≡ due
  sized_done size e =
      let ranges = then_done parameters (and_then (lengths_outcome run) (sized size)) e in
      let lists = then_done (lengths_outcome run) (sized size) ranges.1 in
      let fits = then_done (size_outcome run queries size) (and_then of_basis of_queries) lists.1 in
      let valid = parameters_valid run.k run.rate run.step ranges.0 in
      equal_of_test size needed (unless_done (eqb size needed) (WrongLength lent.Bytes) (Ok tt) fits.0).0
      ∙ transcript_size run valid (lengths_fit run lists.0) queries

  done : (size : ℕ) → (write_outcome run queries size ≡ Ok tt) ↔ ((checks_outcome run queries ≡ Ok tt) × (size ≡ due))
  done size = (
    λ e. let same = sized_done size e in (sym as_lists ∙ ap (write_outcome run queries) (sym same) ∙ e, same),
    λ both. ap (write_outcome run queries) both.1 ∙ as_lists ∙ both.0,
  )

  list8 : (size : ℕ) → ValidParameters run.k run.rate run.step → Fit run
      → size ≢ transcript_length run.k run.rate (steps_in run) (length queries)
      → write_outcome run queries size ≡ Err (WrongLength lent.Bytes)
  list8 size v f n =
      sym (then_passed parameters (and_then (lengths_outcome run) (sized size))
      (parameters_pass run.k run.rate run.step v))
      ∙ sym (then_passed (lengths_outcome run) (sized size) (lengths_pass run f))
      ∙ ap (λ (o : Outcome). and_then o (and_then of_basis of_queries))
      (sym (refused_by (eqb size needed) (WrongLength lent.Bytes) (Ok tt)
      (ne_eqb size needed (λ e. n (e ∙ transcript_size run v f queries)))))

  left : (held : List ℕ) (cause : Cause) → write_outcome run queries (length held) ≡ Err cause
      → bytes_after run queries held ≡ held
  left held cause e = ap (λ (o : Outcome). afterwards o (transcript_of run queries) held) e

  numbers : (size : ℕ) → WriterNumber (number_of_outcome (write_outcome run queries size))
  numbers size =
      number_before WriterNumber parameters (lengths_outcome run) of_basis (sized size)
      (run_number WriterNumber none (λ n l u. inr (inl (l, omega arith))) thirteen run)
      (number_then WriterNumber (size_outcome run queries size) (and_then of_basis of_queries)
      (number_unless WriterNumber (eqb size needed) (WrongLength lent.Bytes) (Ok tt) thirteen none)
      (number_then WriterNumber of_basis of_queries
      (basis_number WriterNumber none (early 8 (omega arith) (omega arith)) run.basis)
      (queries_number WriterNumber none (early 9 (omega arith) (omega arith)) (early 10 (omega arith) (omega arith))
      (inr (inr (inr refl))) run.k (step_in run 0) queries)))
    where
      none : WriterNumber 0
      none = inl refl

      early : (n : ℕ) → 4 ≤ n → n ≤ 10 → WriterNumber n
      early n l u = inr (inl (l, u))

      thirteen : WriterNumber 13
      thirteen = inr (inr (inl refl))

pub writer_refusals : WriterRefusals
writer_refusals =
    record {
      as_lists = as_lists;
      done = done;
      earlier = earlier;
      list8 = list8;
      left = left;
      numbers = numbers;
    }
