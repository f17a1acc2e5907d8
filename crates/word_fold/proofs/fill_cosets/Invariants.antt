-- `word_fold::fill_cosets` meets its contract. The loop's invariant: j values are filled in, the others as they were,
-- and first is point j over the upper basis. Assumes nothing.
use Rattle.std.proofs.Common.{◌≡◌, ◌<◌, length}
use Rattle.gf64.specs.Field.{sum}
use Rattle.poly.proofs.Filling.{filled}
use Rattle.coset.specs.Coset.{point}
use Rattle.fold.specs.Halving.{coset_values}
use Rattle.word_fold.proofs.fill_cosets.Given as goal

abbrev pub invariant-loop-j : goal.invariant-loop-j
invariant-loop-j l =
    let h = l.fold_step in
    let moved = sum l.initial.first.0 l.challenge.0 in
    (l.values ≡ filled (coset_values h.inverses.now h.span.now moved l.upper l.word) l.initial.values l.j)
    × (l.j < length l.initial.values → l.first.0 ≡ point l.initial.first.0 l.upper l.j)
