-- `honest_layers::fold_layers` meets its contract. Assumes nothing.
use mathlib.Core.Path.{sym, ap, subst, ◌∙◌}
use Prim.Native.Nat.{suc, ◌≤◌}
use native.Mathlib.Omega.{arith}
use Rattle.coset.specs.Span.{Independent}
use Rattle.fri.specs.Run.{rounds_in}
use Rattle.layer_cosets.specs.declared.LayerCoset.{LayerCoset}
use Rattle.honest_layers.specs.Input.{input_of, coset_in}
use Rattle.honest_layers.proofs.Rounds.{step_most, step_fits, coset_next, next_is_independent, joined_at}
use Rattle.honest_layers.proofs.Rounds.{first_filled, next_filled, all_joined, store_whole, last_of}
use Rattle.honest_layers.proofs.fold_layers.Goals as goal

pub loop-i-init : goal.loop-i-init
loop-i-init c =
    record {
      filled = first_filled c.args.claim.now c.args.store.now c.first-coset.result c.requires c.first-coset.ensures;
      independent =
          subst (λ (coset : LayerCoset). Independent coset.basis) (sym c.first-coset.ensures) c.requires.independent;
    }

pub next-coset-requires : goal.next-coset-requires
next-coset-requires c =
    let claim = c.args.claim.now in
    let known = c.loop-i.invariant.filled in
    (step_most claim known.joined, step_fits claim known.joined)

pub loop-i-preserved : goal.loop-i-preserved
loop-i-preserved c =
    let claim = c.args.claim.now in
    let known = c.loop-i.invariant.filled in
    let more : suc (suc c.loop-i.i) ≤ rounds_in (input_of claim) =
    omega (arith, c.loop-i-test.true, c.requires.claim_fits.challenges)
    in
    record {
      filled =
          next_filled claim known more c.next-coset.result c.fold_round-start.result c.fold_round-start.new.store
          c.next-coset.ensures c.fold_round-start.ensures.end c.fold_round-start.auto.store
          c.fold_round-start.ensures.store;
      independent =
          next_is_independent claim known.joined c.as_coset.result c.as_coset.ensures.1 c.loop-i.invariant.independent
          c.next-coset.result c.next-coset.ensures;
    }

-- ---- the last round

pub fold_joined-requires-clause-joined : goal.fold_joined-requires-clause-joined
fold_joined-requires-clause-joined c =
    let claim = c.args.claim.now in
    let ends = last_of claim c.requires.claim_fits c.loop-i.i (omega arith) in
    joined_at claim c.loop-i.coset c.as_coset-2.result c.as_coset-2.ensures (omega arith) c.loop-i.store
    (all_joined claim c.loop-i.invariant.filled ends)

pub next-requires : goal.next-requires
next-requires c =
    let claim = c.args.claim.now in
    let known = c.loop-i.invariant.filled in
    (step_most claim known.joined, step_fits claim known.joined)

pub returns-clause-answer : goal.returns-clause-answer
returns-clause-answer c =
    let claim = c.args.claim.now in
    let ends = last_of claim c.requires.claim_fits c.loop-i.i (omega arith) in
    c.next.ensures ∙ coset_next claim c.loop-i.invariant.filled.joined ∙ ap (coset_in (input_of claim)) ends

pub returns-clause-independent : goal.returns-clause-independent
returns-clause-independent c =
    next_is_independent c.args.claim.now c.loop-i.invariant.filled.joined c.as_coset-2.result c.as_coset-2.ensures.1
    c.loop-i.invariant.independent c.next.result c.next.ensures

pub returns-clause-store : goal.returns-clause-store
returns-clause-store c =
    let claim = c.args.claim.now in
    store_whole claim c.loop-i.invariant.filled (last_of claim c.requires.claim_fits c.loop-i.i (omega arith))
