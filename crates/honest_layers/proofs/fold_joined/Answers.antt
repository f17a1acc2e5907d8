-- `honest_layers::fold_joined` meets its contract. Assumes nothing.
use mathlib.Core.Path.{◌∙◌}
use native.Mathlib.Omega.{arith}
use lib.ListN.{length}
use Rattle.honest_layers.proofs.Rounds.{word_is, last_fits, last_is, foldable, next_folded}
use Rattle.honest_layers.proofs.fold_joined.Goals as goal

pub fold_layer-requires : goal.fold_layer-requires
fold_layer-requires c =
    let claim = c.args.claim.now in
    let known = c.requires.joined in
    foldable claim known claim.word.now (word_is claim known (omega (arith, c.if-i-eq0.true)))
    (length c.args.next.now) c.requires.next_fits

pub returns-then-i-eq0 : goal.returns-then-i-eq0
returns-then-i-eq0 c =
    let claim = c.args.claim.now in
    let known = c.requires.joined in
    c.fold_layer.ensures
    ∙ next_folded claim known claim.word.now (word_is claim known (omega (arith, c.if-i-eq0.true)))

pub overflow_sub-start : goal.overflow_sub-start
overflow_sub-start c = last_fits c.args.claim.now c.requires.joined (omega (arith, c.if-i-eq0.false))

pub fold_layer-requires-2 : goal.fold_layer-requires-2
fold_layer-requires-2 c =
    let claim = c.args.claim.now in
    let known = c.requires.joined in
    foldable claim known _ (last_is claim known (omega (arith, c.if-i-eq0.false))) (length c.args.next.now)
    c.requires.next_fits

pub returns : goal.returns
returns c =
    let claim = c.args.claim.now in
    let known = c.requires.joined in
    c.fold_layer-2.ensures
    ∙ next_folded claim known _ (last_is claim known (omega (arith, c.if-i-eq0.false)))
