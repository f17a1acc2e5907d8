-- The writer's checks: list 8 by the formula of its needed length, and what is known where all pass. Assumes nothing.
use mathlib.Core.Path.{◌≡◌, sym, ap, ◌∙◌}
use mathlib.Core.Logic.{◌≢◌}
use mathlib.Core.List.{List}
use Prim.Native.Nat.{ℕ}
use lib.Dec.{eqb}
use lib.ListN.{length}
use borrow.Author.Tests.{eq-eqb, ne_eqb}
use Rattle.refusal.specs.declared.Cause.TheVariants.{WrongLength}
use Rattle.refusal.specs.declared.Lent.TheVariants as lent
use Rattle.std.specs.Prelude.{Ok, Err}
use Rattle.refusal.specs.Outcome.{Outcome}
use Rattle.refusal.specs.Checks.{refused_unless, and_then}
use Rattle.refusal.proofs.Checks.{then_passed, then_refused, then_done, passed_by, refused_by, unless_done}
use Rattle.refusal.proofs.Checks.{equal_of_test}
use Rattle.coset.specs.Answers.{basis_outcome}
use Rattle.fri.specs.Run.{Run, step_in, steps_in}
use Rattle.fri.proofs.Layouts.{first_step}
use Rattle.fri.specs.Checks.{queries_outcome}
use Rattle.layout.specs.declared.Parameters.{Parameters}
use Rattle.layout.specs.Parameters.{steps_by}
use Rattle.run_checks.proofs.Lists.{of_lists, lists_then, lists_valid, lists_fit}
use Rattle.written.specs.Transcript.{transcript_of, transcript_length}
use Rattle.written.specs.Writer.{size_outcome, write_outcome}
use Rattle.written.proofs.Lengths.{transcript_size}

module _ (run : Run) (queries : List ℕ) (size : ℕ) where
  abbrev of_basis : Outcome
  of_basis = basis_outcome run.basis

  abbrev of_queries : Outcome
  of_queries = queries_outcome run.k (step_in run 0) queries

  -- the checks after those of lists 1 to 5
  abbrev pub after_lists : Outcome
  after_lists = and_then (size_outcome run queries size) (and_then of_basis of_queries)

  -- where lists 1 to 5 pass
  module _ (done : of_lists run ≡ Ok tt) where
    abbrev needed : ℕ
    needed = transcript_length run.k run.rate (steps_in run) (length queries)

    abbrev of_size : Outcome
    of_size = refused_unless (eqb size needed) (WrongLength lent.Bytes) (Ok tt)

    -- the checks after them, by the formula that says how long the transcript is, and by the step given
    decided : and_then of_size (and_then of_basis of_queries) ≡ write_outcome run queries size
    decided =
        ap (λ (n : ℕ). and_then (refused_unless (eqb size n) (WrongLength lent.Bytes) (Ok tt))
        (and_then of_basis of_queries))
        (sym (transcript_size run (lists_valid run done) (lists_fit run done) queries))
        ∙ then_passed (of_lists run) after_lists done ∙ lists_then run after_lists

    -- the length due, by the shape that the checks told
    module _ {p : Parameters} {due : ℕ} (same : p ≡ record { k = run.k; rate = run.rate; step = run.step })
        (is : due ≡ transcript_length p.k p.rate (steps_by p) (length queries)) where
      due_is : due ≡ needed
      due_is = is ∙ ap (λ (q : Parameters). transcript_length q.k q.rate (steps_by q) (length queries)) same

      pub size_refused : size ≢ due → Err (WrongLength lent.Bytes) ≡ write_outcome run queries size
      size_refused n =
          then_refused of_size (and_then of_basis of_queries) (WrongLength lent.Bytes)
          (sym
          (refused_by (eqb size needed) (WrongLength lent.Bytes) (Ok tt)
          (ne_eqb size needed (λ e. n (e ∙ sym due_is)))))
          ∙ decided

      pub size_passed : size ≡ due
          → and_then of_basis (queries_outcome run.k run.step queries) ≡ write_outcome run queries size
      size_passed e =
          let v = lists_valid run done in
          ap (λ (s : ℕ). and_then of_basis (queries_outcome run.k s queries))
          (sym (first_step run.k run.rate run.step v.step_least v.k_enough))
          ∙ then_passed of_size (and_then of_basis of_queries)
          (sym (passed_by (eqb size needed) (WrongLength lent.Bytes) (Ok tt) (eq-eqb size needed (e ∙ due_is))))
          ∙ decided

  -- where all checks pass
  module _ (done : write_outcome run queries size ≡ Ok tt) where
    pub passed_lists : (of_lists run ≡ Ok tt) × (after_lists ≡ Ok tt)
    passed_lists = then_done (of_lists run) after_lists (lists_then run after_lists ∙ done)

    pub passed_size : size ≡ length (transcript_of run queries)
    passed_size =
        let needed = length (transcript_of run queries) in
        equal_of_test size needed
        (unless_done (eqb size needed) (WrongLength lent.Bytes) (Ok tt)
        (then_done (size_outcome run queries size) (and_then of_basis of_queries) passed_lists.1).0).0
