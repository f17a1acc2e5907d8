-- `next_coset::next_basis` meets its contract. Assumes nothing.
use Rattle.coset.proofs.Subspace.{next_padded, length-next_basis}
use Rattle.coset.specs.Subspace.{next_basis}
use Rattle.poly.proofs.Filling.{padded_taken}
use mathlib.Core.Path.{◌∙◌}
use Rattle.coset.proofs.Points.{all_elements}
use lib.Seq.{length-take-le}
use lib.ListN.{length, drop, length-drop}
use Prim.Native.Nat.{◌-◌}
use native.Mathlib.Omega.{arith}
use Rattle.next_coset.proofs.next_basis.Goals as goal

pub fill_images-requires : goal.fill_images-requires
fill_images-requires c =
    let basis = c.args.basis.now in
    omega (
      arith,
      c.requires.2,
      length-take-le (length basis - c.args.step) (drop c.args.step basis)
          (omega (arith, length-drop c.args.step basis)),
    )

pub returns : goal.returns
returns c =
    let step = c.args.step in
    let basis = c.args.basis.now in
    let filled = c.fill_images.new.images in
    c.in_zeros.ensures
    ∙ padded_taken 20 (length basis - step) (next_basis step basis) filled
    (next_padded 20 step basis c.step_elements-elements.result filled
    (all_elements basis (λ i. omega (arith, c.type_inv.basis i))) c.requires.1 c.step_elements-elements.ensures
    c.fill_images.ensures)
    (length-next_basis step basis)
