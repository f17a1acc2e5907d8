-- `honest_layers::fold_round` meets its contract. Assumes nothing.
use mathlib.Core.Path.{sym, ap, ◌∙◌}
use Prim.Native.Nat.{ℕ, ◌+◌}
use native.Mathlib.Omega.{arith}
use lib.Seq.{length-take-le}
use Rattle.honest_layers.proofs.Rounds.{step_fits, next_size, next_within, next_start, next_joined}
use Rattle.honest_layers.proofs.fold_round.Goals as goal

pub overflow_sub-size : goal.overflow_sub-size
overflow_sub-size c = step_fits c.args.claim.now c.requires.filled.joined

pub split_at_mut-joined-requires : goal.split_at_mut-joined-requires
split_at_mut-joined-requires c =
    omega (arith, next_within c.args.claim.now c.requires.filled c.requires.another)

pub slice_bounds-fold_joined-end : goal.slice_bounds-fold_joined-end
slice_bounds-fold_joined-end c =
    omega (
      arith,
      next_size c.args.claim.now c.requires.filled.joined,
      next_within c.args.claim.now c.requires.filled c.requires.another,
      c.split_at_mut-joined.ensures.back_len,
    )

pub slice_bounds-fold_joined-end-2 : goal.slice_bounds-fold_joined-end-2
slice_bounds-fold_joined-end-2 c =
    sym
    (length-take-le _ c.split_at_mut-joined.result.1.now
    (omega (
      arith,
      next_size c.args.claim.now c.requires.filled.joined,
      next_within c.args.claim.now c.requires.filled c.requires.another,
      c.split_at_mut-joined.ensures.back_len,
    )))

pub fold_joined-requires-clause-next_fits : goal.fold_joined-requires-clause-next_fits
fold_joined-requires-clause-next_fits c =
    length-take-le _ c.split_at_mut-joined.result.1.now
    (omega (
      arith,
      next_size c.args.claim.now c.requires.filled.joined,
      next_within c.args.claim.now c.requires.filled c.requires.another,
      c.split_at_mut-joined.ensures.back_len,
    ))
    ∙ next_size c.args.claim.now c.requires.filled.joined

pub returns-clause-end : goal.returns-clause-end
returns-clause-end c =
    ap (λ (n : ℕ). c.args.start + n) (next_size c.args.claim.now c.requires.filled.joined)
    ∙ next_start c.args.claim.now c.requires.filled c.requires.another

pub returns-clause-store : goal.returns-clause-store
returns-clause-store c =
    let claim = c.args.claim.now in
    let known = c.requires.filled in
    next_joined claim known c.requires.another c.split_at_mut-joined.result.0.now c.fold_joined.new.next _ _
    c.split_at_mut-joined.ensures.front c.fold_joined.ensures
    (ap (λ (n : ℕ). c.args.start + n) (next_size claim known.joined) ∙ next_start claim known c.requires.another)
