-- `points::prefix_sums` meets its contract. Assumes nothing.
use Rattle.std.proofs.Common.{◌≡◌, ◌∙◌, refl, sym, ap, arith, ℕ, List, ◌∷◌, take, get_or, length, add-one, ◌<◌, min}
use lib.ListN.{replicate, set, length-take}
use lib.Seq.{get_or-take}
use lib.Bits.{bit_xor}
use Rattle.poly.specs.Carrier.{gf64}
use Rattle.poly.specs.Polynomial.{padded}
use Rattle.poly.proofs.Filling.{filled_start, padded_next, filled_padded}
use Rattle.coset.specs.Sequence.{prefix_sums}
use Rattle.coset.proofs.Sequence.{length-prefix_sums, prefix_sums_taken}
use Rattle.points.proofs.prefix_sums.Goals as goal

length-sums : (basis : List ℕ) → length (prefix_sums 0 (take 20 basis)) ≡ min 20 (length basis)
length-sums basis = length-prefix_sums 0 (take 20 basis) ∙ length-take 20 basis

pub loop-t-init : goal.loop-t-init
loop-t-init c = (refl, filled_start (padded gf64 20 (prefix_sums 0 (take 20 c.args.basis.now))) (replicate 20 0))

pub loop-t-preserved : goal.loop-t-preserved
loop-t-preserved c =
    let basis = c.args.basis.now in
    let l = c.loop-t in
    let n = c.min-count.result in
    let next = bit_xor l.total (get_or (take n basis) l.t 0) in
    let inside : l.t < n = omega (arith, length-take n basis) in
    let is-next : next ≡ get_or (prefix_sums 0 (take 20 basis)) l.t 0 =
    ap (bit_xor l.total) (get_or-take n basis l.t 0 inside)
    ∙ prefix_sums_taken basis l.t l.total (omega arith) l.invariant.0 in (
      is-next ∙ ap (λ (i : ℕ). get_or (0 ∷ prefix_sums 0 (take 20 basis)) i 0) (sym (add-one l.t)),
      ap (λ (held : List ℕ). set held l.t next) l.invariant.1
          ∙ padded_next 20 (prefix_sums 0 (take 20 basis)) l.t next (omega (arith, length-sums basis))
          (omega (arith, length-sums basis)) is-next,
    )

pub returns : goal.returns
returns c =
    let basis = c.args.basis.now in
    let l = c.loop-t in
    l.invariant.1
    ∙ filled_padded 20 (prefix_sums 0 (take 20 basis)) l.t
    (omega (arith, length-sums basis, length-take c.min-count.result basis)) (omega (arith, length-sums basis))
