-- `Judging::verdict` meets its contract. Assumes nothing.
use mathlib.Core.Path.{ap, ap₂, ◌∙◌}
use Prim.Native.Nat.{ℕ, ◌+◌, ◌*◌, ◌%◌, ◌^◌}
use native.Mathlib.Nat.{min-le_right}
use lib.ListN.{get_or}
use native.Mathlib.Omega.{arith}
use Rattle.refusal.specs.Outcome.{Outcome}
use Rattle.fri.specs.declared.Verdict.{Verdict}
use Rattle.round_checks.proofs.Judged.{query_inside, cosets_few, one_more, accepted, refused}
use Rattle.round_checks.proofs.Passing.{fails, goes_on, all_pass}
use Rattle.round_checks.proofs.Judging.verdict.Goals as goal
use Rattle.round_checks.proofs.Judging.verdict.Goals.{else-queries-test, then-queries-test+then-loop-round-test+then-not-passes}

pub check-requires-clause-reached : goal.check-requires-clause-reached
check-requires-clause-reached g c =
    let judging = c.args.self.now in (
      get_or judging.sent.queries.now c.queries.query 0,
      query_inside judging.prepared c.queries.query,
      c.loop-round.invariant.here.here_is,
    )

pub overflow_add-cosets : goal.overflow_add-cosets
overflow_add-cosets g c =
    omega (
      arith,
      c.read_until-cosets.ensures,
      min-le_right (c.loop-round.round + 2) c.args.self.now.count,
      cosets_few c.args.self.now.prepared c.loop-round.invariant.earlier.1,
    )

pub loop-round-preserved : goal.loop-round-preserved
loop-round-preserved g c =
    let judging = c.args.self.now in
    record {
      earlier = c.loop-round.invariant.earlier;
      here =
          goes_on c.loop-round.invariant.here (c.check.ensures (get_or judging.sent.queries.now c.queries.query 0))
          (query_inside judging.prepared c.queries.query) c.passes.ensures c.if-not-passes.false;
    }

pub overflow_add-cosets-in-queries : goal.overflow_add-cosets-in-queries
overflow_add-cosets-in-queries g c = omega (arith, cosets_few c.args.self.now.prepared c.loop-round.invariant.earlier.1)

pub queries-preserved : goal.queries-preserved
queries-preserved g c =
    let judging = c.args.self.now in
    let l = c.loop-round in (
      l.invariant.earlier.0,
      one_more judging.prepared l.invariant.earlier.1 c.queries-test.true
          (all_pass l.invariant.here (omega (arith, judging.prepared.count_is, c.loop-round-test.false))),
    )

pub returns : goal.returns
returns g c =
    let judging = c.args.self.now in
    let step = judging.sent.shape.parameters.step in
    elim c.queries-test.branch [
      | else-queries-test w ↦
          ap₂ {C = Verdict} (λ (a : Outcome) (n : ℕ). record { answer = a; reads = n * 2 ^ step % 2 ^ 64 })
          (w.answer-is ∙ c.queries.invariant.0) w.cosets-is
          ∙ accepted judging.prepared c.queries.invariant.1 w.queries-test.false
      | then-queries-test+then-loop-round-test+then-not-passes w ↦
          ap₂ {C = Verdict} (λ (a : Outcome) (n : ℕ). record { answer = a; reads = n * 2 ^ step % 2 ^ 64 })
          w.answer-is (w.cosets-is ∙ ap (λ (n : ℕ). w.loop-round.cosets + n) w.read_until-cosets.ensures)
          ∙ refused judging.prepared w.loop-round.invariant.earlier.1 w.queries-test.true
          (fails w.loop-round.invariant.here (w.check.ensures (get_or judging.sent.queries.now c.queries.query 0))
          (query_inside judging.prepared c.queries.query) w.passes.ensures
          (omega (arith, judging.prepared.count_is, w.loop-round-test.true)) w.if-not-passes.true)
    ]
