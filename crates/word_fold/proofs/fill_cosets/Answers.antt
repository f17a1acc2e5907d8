-- `word_fold::fill_cosets` meets its contract. Assumes nothing.
use Rattle.std.proofs.Common.{◌≡◌, ◌∙◌, sym, ap, arith, ℕ, ◌+◌, ◌*◌, ◌-◌, ◌^◌, ◌<◌, List, length, take, drop, get_or}
use lib.ListN.{set}
use lib.Count.{count_trailing_zeros}
use Rattle.gf64.specs.Field.{sum}
use Rattle.poly.proofs.Filling.{filled_start, filled_next, filled_all}
use Rattle.coset.proofs.Dependence.{point_first}
use Rattle.coset.proofs.Sequence.{point_stepped}
use Rattle.coset_value.proofs.Cosets.{length-coset_values, coset_values_at, lent_part}
use Rattle.fold.specs.Halving.{coset_values}
use Rattle.word_fold.proofs.fill_cosets.Goals as goal

pub loop-j-init : goal.loop-j-init
loop-j-init c =
    let a = c.args in
    let h = a.fold_step in
    let moved = sum a.offset.0 a.challenge.0 in (
      filled_start (coset_values h.inverses.now h.span.now moved a.upper.now a.word.now) a.values.now,
      λ l. sym (point_first a.offset.0 a.upper.now),
    )

pub loop-j-preserved : goal.loop-j-preserved
loop-j-preserved c =
    let a = c.args in
    let h = a.fold_step in
    let moved = sum a.offset.0 a.challenge.0 in
    let due = coset_values h.inverses.now h.span.now moved a.upper.now a.word.now in
    let as_many : length due ≡ length a.values.now =
    length-coset_values h.inverses.now h.span.now moved a.upper.now a.word.now ∙ sym c.requires.1 in
    let l = c.loop-j in
    let below : l.j < length a.values.now = omega arith in
    let m = length h.span.now in
    let first = l.invariant.1 below in
    let inside : l.j < 2 ^ length a.upper.now = omega (arith, below, c.requires.1) in (
      ap (λ (held : List ℕ). set held l.j c.value_at.result.0) l.invariant.0
          ∙ filled_next due a.values.now l.j c.value_at.result.0 below as_many
          (c.value_at.ensures
          ∙ coset_values_at h.inverses.now h.span.now a.offset.0 a.challenge.0 a.upper.now a.word.now l.j l.first.0
          (take (l.j * m + m - l.j * m) (drop (l.j * m) a.word.now)) inside first
          (lent_part (l.j * m) m a.word.now)),
      λ more. c.stepped-first.ensures
          ∙ ap (λ (sums : List ℕ). sum l.first.0 (get_or sums (count_trailing_zeros 64 (l.j + 1)) 0))
          c.prefix_sums-sums.ensures
          ∙ point_stepped a.offset.0 a.upper.now l.j l.first.0 c.requires.0 first (omega (arith, c.requires.1)),
    )

pub returns : goal.returns
returns c =
    let a = c.args in
    let h = a.fold_step in
    let moved = sum a.offset.0 a.challenge.0 in
    let due = coset_values h.inverses.now h.span.now moved a.upper.now a.word.now in
    let as_many : length due ≡ length a.values.now =
    length-coset_values h.inverses.now h.span.now moved a.upper.now a.word.now ∙ sym c.requires.1 in
    c.loop-j.invariant.0 ∙ filled_all due a.values.now c.loop-j.j (omega arith) as_many
