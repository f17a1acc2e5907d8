-- `Judging::new` meets its contract. Assumes nothing.
use Prim.Native.Nat.{ℕ, ◌^◌, ◌<◌}
use mathlib.Core.Path.{subst}
use borrow.Author.Rules.{rules}
use Rattle.coset.proofs.Points.{all_elements}
use Rattle.fri.proofs.Checks.{run_valid}
use Rattle.fri.proofs.Verdicts.{checks_valid}
use Rattle.round_checks.specs.Judging.{run_sent}
use Rattle.round_checks.proofs.Judged.{checked_run}
use Rattle.round_checks.proofs.Judging.new.Goals as goal

pub set_up-requires : goal.set_up-requires
set_up-requires g c =
    let sent = c.args.sent in
    let run = run_sent sent (g.L.Layers.word c.args.layers) (g.L.Layers.store c.args.layers) in
    let valid = run_valid run (checks_valid run sent.queries.now c.requires.checked).0 in
    (valid.1.basis, valid.2, valid.1.challenges)

pub invariant_of-result : goal.invariant_of-result
invariant_of-result g c =
    let sent = c.args.sent in
    let word = g.L.Layers.word c.args.layers in
    let store = g.L.Layers.store c.args.layers in
    let offset_element : sent.offset.0 < 2 ^ 64 = search rules in
    record {
      same = c.requires.same;
      prepared =
          record {
            checks = c.requires.checked;
            ready =
                checked_run (run_sent sent word store) sent.queries.now c.requires.checked offset_element
                (all_elements sent.basis.now (λ i. (sent.elements i).0))
                (all_elements sent.challenges.now (λ i. (sent.elements i).1))
                (all_elements word (λ i. (g.met.L.Layers.elements c.args.layers i).0))
                (all_elements store (λ i. (g.met.L.Layers.elements c.args.layers i).1));
            count_is = c.rounds.ensures;
            held = λ i h. c.set_up.ensures i (subst (λ (n : ℕ). i < n) c.rounds.ensures h);
          };
    }
