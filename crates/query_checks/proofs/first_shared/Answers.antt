-- `query_checks::first_shared` meets its contract. The loop's invariant: the queries still to come decide, given the
-- cosets of those before. Assumes nothing.
use Rattle.query_checks.proofs.Shared.{shared_none, shared_here, shared_next}
use Rattle.fri.specs.Checks.{first_shared}
use mathlib.Core.Path.{refl, sym, ◌∙◌}
use borrow.Author.Rules.{rules}
use native.Mathlib.Omega.{arith}
use Rattle.query_checks.proofs.first_shared.Goals as goal

pub loop-query-init : goal.loop-query-init
unfolding first_shared
loop-query-init c = (search rules, refl)

pub returns-then-visits : goal.returns-then-visits
returns-then-visits c =
    let a = c.args in
    shared_here a.step a.queries.now c.loop-query.query (omega arith) (sym c.visits.ensures ∙ c.if-visits.true)
    ∙ c.loop-query.invariant.1

pub loop-query-preserved : goal.loop-query-preserved
loop-query-preserved c =
    let a = c.args in (
      search rules,
      shared_next a.step a.queries.now c.loop-query.query (omega arith)
          (sym c.visits.ensures ∙ c.if-visits.false)
          ∙ c.loop-query.invariant.1,
    )

pub returns : goal.returns
returns c =
    let a = c.args in
    shared_none a.step a.queries.now c.loop-query.query (omega arith) ∙ c.loop-query.invariant.1
