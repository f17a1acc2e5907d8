-- `prover::prove_in` meets its contract. Assumes nothing.
use mathlib.Core.Path.{sym, ap, ◌∙◌}
use Prim.Native.Nat.{ℕ, ◌^◌}
use native.Mathlib.Nat.{le_of_eq, le_trans}
use lib.ListN.{length}
use Rattle.prover.proofs.Input.{last_counted, coefficients_fit, coset_counted, interpolant_is}
use Rattle.prover.proofs.Input.{same_store, degree_answered, degree_holds}
use Rattle.prover.proofs.prove_in.Goals as goal

pub interpolate_in_place-requires : goal.interpolate_in_place-requires
interpolate_in_place-requires c =
    let a = c.args in
    let f = c.fold_layers-coset in
    f.auto.last ∙ c.requires.room_len
    ∙ ap (λ (n : ℕ). 2 ^ n)
    (sym
    (ap length c.as_coset.ensures.1
    ∙ coset_counted a.claim.now a.store.now a.last.now c.requires.passed f.result f.ensures.answer))

pub last_coefficients-requires : goal.last_coefficients-requires
last_coefficients-requires c =
    let a = c.args in
    le_trans (le_of_eq (last_counted a.claim.now a.store.now a.last.now c.requires.passed))
    (le_trans (coefficients_fit a.claim.now.parameters)
    (le_of_eq (sym (c.interpolate_in_place.auto.values ∙ c.fold_layers-coset.auto.last ∙ c.requires.room_len))))

pub returns-clause-answer : goal.returns-clause-answer
returns-clause-answer c =
    let a = c.args in
    let f = c.fold_layers-coset in
    c.last_coefficients.ensures.answer
    ∙ degree_answered a.claim.now a.store.now a.last.now c.interpolate_in_place.new.values
    (c.interpolate_in_place.ensures
    ∙ interpolant_is a.claim.now a.store.now a.last.now c.as_coset.result f.result c.as_coset.ensures
    f.ensures.answer f.new.last f.ensures.last)
    (last_counted a.claim.now a.store.now a.last.now c.requires.passed)

pub returns-clause-store : goal.returns-clause-store
returns-clause-store c =
    c.fold_layers-coset.ensures.store ∙ same_store c.args.claim.now c.args.store.now c.args.last.now

pub returns-clause-last : goal.returns-clause-last
returns-clause-last c =
    let a = c.args in
    let f = c.fold_layers-coset in
    c.last_coefficients.ensures.last
    ∙ degree_holds a.claim.now a.store.now a.last.now c.interpolate_in_place.new.values
    (c.interpolate_in_place.ensures
    ∙ interpolant_is a.claim.now a.store.now a.last.now c.as_coset.result f.result c.as_coset.ensures
    f.ensures.answer f.new.last f.ensures.last)
    (last_counted a.claim.now a.store.now a.last.now c.requires.passed)
