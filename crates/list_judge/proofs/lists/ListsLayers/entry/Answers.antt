-- An entry of layers that are lists. Assumes nothing.
use Prim.Native.Nat.{ℕ, ◌≤◌, ◌<◌, ◌^◌, ◌*◌}
use native.Mathlib.Omega.{arith}
use Rattle.layout.specs.declared.Parameters.{Parameters}
use Rattle.layout.specs.Parameters.{steps_by, Valid}
use Rattle.layout.proofs.Sizes.{layer_small, start_few}
use Rattle.round_checks.specs.Judging.{EntryWithin}
use Rattle.list_judge.proofs.Entries.{in_word, in_store, of_word, of_store}
use Rattle.list_judge.proofs.lists.ListsLayers.entry.Goals as goal

small : {p : Parameters} {i start index : ℕ} → Valid p → EntryWithin p i start index
    → (index < 2 ^ 20) × (start ≤ 19 * 2 ^ 20)
small {p} {i} valid w = (
  omega (arith, w.inside, layer_small p.k (steps_by p) i valid.k_most),
  omega (arith, w.starts, start_few p valid i (omega (arith, w.round))),
)

pub offset_bounds-self-index : goal.offset_bounds-self-index
offset_bounds-self-index c = omega (arith, small c.args.self.now.shape.valid c.requires)

pub bounds-self-index : goal.bounds-self-index
bounds-self-index c =
    let lists = c.args.self.now in in_word c.requires lists.word.now lists.store.now c.if-i-eq0.true lists.word_fits

pub overflow_add-result : goal.overflow_add-result
overflow_add-result c = omega (arith, small c.args.self.now.shape.valid c.requires)

pub offset_bounds-self-start : goal.offset_bounds-self-start
offset_bounds-self-start c = omega (arith, small c.args.self.now.shape.valid c.requires)

pub bounds-self-start : goal.bounds-self-start
bounds-self-start c =
    let lists = c.args.self.now in
    in_store c.requires lists.word.now lists.store.now (omega arith) lists.store_fits

pub returns-then-i-eq0 : goal.returns-then-i-eq0
returns-then-i-eq0 c =
    let lists = c.args.self.now in of_word c.requires lists.word.now lists.store.now c.if-i-eq0.true

pub returns-else-i-eq0 : goal.returns-else-i-eq0
returns-else-i-eq0 c =
    let lists = c.args.self.now in of_store c.requires lists.word.now lists.store.now (omega arith)
