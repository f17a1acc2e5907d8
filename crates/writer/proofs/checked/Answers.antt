-- `writer::checked` meets its contract. Assumes nothing.
use mathlib.Core.Path.{◌≡◌, sym, ◌∙◌}
use borrow.Author.Rules.{rules}
use Rattle.std.specs.Prelude.{Ok}
use Rattle.refusal.specs.Outcome.{Outcome, outcome_of}
use Rattle.refusal.specs.Checks.{and_then}
use Rattle.coset.specs.Answers.{basis_outcome}
use Rattle.fri.specs.Checks.{queries_outcome}
use Rattle.layout.specs.Parameters.{run_claimed}
use Rattle.writer.proofs.Checks.{size_refused, size_passed}
use Rattle.writer.proofs.checked.Goals as goal

pub returns-then-size-length_due-clause-outcome : goal.returns-then-size-length_due-clause-outcome
returns-then-size-length_due-clause-outcome c =
    let a = c.args in
    let shape = c.in_ok-shape.ensures in
    size_refused (run_claimed a.claim.now a.store.now a.last.now) a.queries.now a.size (sym shape.outcome) shape.shape
    c.length_due.ensures c.if-size-length_due.true

pub returns-in_err-checked_basis-clause-outcome : goal.returns-in_err-checked_basis-clause-outcome
returns-in_err-checked_basis-clause-outcome c =
    let a = c.args in
    let p = a.claim.now.parameters in
    let shape = c.in_ok-shape.ensures in
    let told : outcome_of c.from_residual-in_err-checked_basis.result
    ≡ and_then (basis_outcome a.claim.now.basis.now) (queries_outcome p.k p.step a.queries.now) =
    search rules
    in
    told
    ∙ size_passed (run_claimed a.claim.now a.store.now a.last.now) a.queries.now a.size (sym shape.outcome) shape.shape
    c.length_due.ensures c.if-size-length_due.false

pub returns-in_err-checked_queries-clause-outcome : goal.returns-in_err-checked_queries-clause-outcome
returns-in_err-checked_queries-clause-outcome c =
    let a = c.args in
    let p = a.claim.now.parameters in
    let shape = c.in_ok-shape.ensures in
    let told : outcome_of c.from_residual-in_err-checked_queries.result
    ≡ and_then (basis_outcome a.claim.now.basis.now) (queries_outcome p.k p.step a.queries.now) =
    search rules
    in
    told
    ∙ size_passed (run_claimed a.claim.now a.store.now a.last.now) a.queries.now a.size (sym shape.outcome) shape.shape
    c.length_due.ensures c.if-size-length_due.false

pub returns-clause-outcome : goal.returns-clause-outcome
returns-clause-outcome c =
    let a = c.args in
    let p = a.claim.now.parameters in
    let shape = c.in_ok-shape.ensures in
    let told : ◌≡◌ {A = Outcome} (Ok tt)
    (and_then (basis_outcome a.claim.now.basis.now) (queries_outcome p.k p.step a.queries.now)) =
    search rules
    in
    told
    ∙ size_passed (run_claimed a.claim.now a.store.now a.last.now) a.queries.now a.size (sym shape.outcome) shape.shape
    c.length_due.ensures c.if-size-length_due.false
