-- What the prover answers and leaves. Assumes nothing.
use mathlib.Core.Path.{◌≡◌, refl, sym, ap, ◌∙◌}
use mathlib.Core.Logic.{⊎_elim}
use mathlib.Core.Bool.{Bool, true, false}
use Prim.Native.Nat.{ℕ, suc, ◌-◌, ◌≤◌, ◌<◌}
use native.Mathlib.Nat.{ne_of_lt}
use native.Mathlib.Omega.{arith}
use lib.Dec.{leb}
use borrow.Author.Tests.{le-leb, lt-leb, leb-false}
use Rattle.poly.specs.Degree.{degree_bound}
use Rattle.refusal.specs.declared.Cause.{Cause}
use Rattle.refusal.specs.declared.Cause.TheVariants.{DegreeTooLarge}
use Rattle.std.specs.Prelude.{Ok, Err}
use Rattle.refusal.specs.Outcome.{Outcome}
use Rattle.refusal.specs.Checks.{refused_unless, afterwards}
use Rattle.refusal.specs.Numbers.{number_of_outcome}
use Rattle.refusal.proofs.Checks.{le_of_test, refused_not_done, passed_by, refused_by, unless_done}
use Rattle.refusal.proofs.Checks.{then_passed, then_refused, then_done, which, number_unless}
use Rattle.fri.specs.Layout.{last_count}
use Rattle.fri.specs.Run.{Run, steps_in}
use Rattle.fri.specs.Layers.{honest_store, last_interpolant, honest_last}
use Rattle.fri.specs.Checks.{run_outcome}
use Rattle.fri.specs.Prover.{degree_outcome, prove_outcome, store_after, last_after}
use Rattle.fri.specs.Theorems.{ProverAnswers}
use Rattle.fri.proofs.Checks as checks

module _ (run : Run) where
  abbrev bound : ℕ
  bound = degree_bound (last_interpolant run)

  abbrev d : ℕ
  d = last_count run.k run.rate (steps_in run)

  done_degree : prove_outcome run ≡ Ok tt → (run_outcome run ≡ Ok tt) × (bound ≤ d)
  done_degree e =
      let both = then_done (run_outcome run) (degree_outcome run) e in
      (both.0, le_of_test bound d (unless_done (leb bound d) (DegreeTooLarge (bound - 1)) (Ok tt) both.1).0)

  pub degree_passes : bound ≤ d → degree_outcome run ≡ Ok tt
  degree_passes l = sym (passed_by (leb bound d) (DegreeTooLarge (bound - 1)) (Ok tt) (le-leb bound d l))

  pub degree_done : run_outcome run ≡ Ok tt → bound ≤ d → prove_outcome run ≡ Ok tt
  degree_done e l =
      sym (then_passed (run_outcome run) (degree_outcome run) e) ∙ degree_passes l

  -- a refusal by 12 is the degree's
  degree_refused : (degree : ℕ) (test : Bool) → leb bound d ≡ test
      → refused_unless test (DegreeTooLarge (bound - 1)) (Ok tt) ≡ Err (DegreeTooLarge degree)
      → (bound ≡ suc degree) × (d ≤ degree)
  degree_refused degree true t e = absurd (refused_not_done (DegreeTooLarge degree) (sym e))
  degree_refused degree false t e =
      let same : bound - 1 ≡ degree = cc in
      let over : d < bound = leb-false bound d t in
      (omega (arith, same, over), omega (arith, same, over))

  high_degree : (degree : ℕ) → prove_outcome run ≡ Err (DegreeTooLarge degree)
      → (run_outcome run ≡ Ok tt) × (bound ≡ suc degree) × (d ≤ degree)
  high_degree degree e =
      ⊎_elim
      (λ (h : run_outcome run ≡ Err (DegreeTooLarge degree)). absurd
      (checks.run_not run 12 (omega arith) (ne_of_lt (omega arith)) (ap number_of_outcome h)))
      (λ (h : (run_outcome run ≡ Ok tt) × (degree_outcome run ≡ Err (DegreeTooLarge degree))).
      let told = degree_refused degree (leb bound d) refl h.1 in
      (h.0, told.0, told.1))
      (which (run_outcome run) (degree_outcome run) (DegreeTooLarge degree) e)

  degree_high : (degree : ℕ) → run_outcome run ≡ Ok tt → bound ≡ suc degree → d ≤ degree
      → prove_outcome run ≡ Err (DegreeTooLarge degree)
  degree_high degree e s l =
      let same : bound - 1 ≡ degree = omega (arith, s) in
      sym (then_passed (run_outcome run) (degree_outcome run) e)
      ∙ sym (refused_by (leb bound d) (DegreeTooLarge (bound - 1)) (Ok tt) (lt-leb bound d (omega (arith, s))))
      ∙ ap (λ (n : ℕ). Err (DegreeTooLarge n)) same

  high_holds : (degree : ℕ) → prove_outcome run ≡ Err (DegreeTooLarge degree)
      → (store_after run ≡ honest_store run) × (last_after run ≡ run.last)
  high_holds degree e = (
    ap (λ (o : Outcome). afterwards o (honest_store run) run.store) (high_degree degree e).0,
    ap (λ (o : Outcome). afterwards o (honest_last run) run.last) e,
  )

  pub done_holds_both : prove_outcome run ≡ Ok tt → (store_after run ≡ honest_store run) × (last_after run ≡ honest_last run)
  done_holds_both e = (
    ap (λ (o : Outcome). afterwards o (honest_store run) run.store) (done_degree e).0,
    ap (λ (o : Outcome). afterwards o (honest_last run) run.last) e,
  )

  -- a refusal before the degree leaves both lists
  pub refused_prove : (cause : Cause) → run_outcome run ≡ Err cause → prove_outcome run ≡ Err cause
  refused_prove cause e = sym (then_refused (run_outcome run) (degree_outcome run) cause e)

  pub refused_holds_both : (cause : Cause) → run_outcome run ≡ Err cause
      → (store_after run ≡ run.store) × (last_after run ≡ run.last)
  refused_holds_both cause e = (
    ap (λ (o : Outcome). afterwards o (honest_store run) run.store) e,
    ap (λ (o : Outcome). afterwards o (honest_last run) run.last) (refused_prove cause e),
  )

  pub degree_number : (P : ℕ → Type 0) → P 0 → P 12 → P (number_of_outcome (degree_outcome run))
  degree_number P p0 p12 = number_unless P (leb bound d) (DegreeTooLarge (bound - 1)) (Ok tt) p12 p0

pub prover_answers : ProverAnswers
prover_answers =
    record {
      done = λ run. (λ e. done_degree run e, λ t. degree_done run t.0 t.1);
      holds = done_holds_both;
      too_high = λ run degree. (λ e. high_degree run degree e, λ t. degree_high run degree t.0 t.1 t.2);
      too_high_holds = high_holds;
    }
