-- `independence::first_64` meets its contract: zeros follow what is copied. Assumes nothing.
use Rattle.std.proofs.Common.{◌≡◌, ◌∙◌, ap, arith, ℕ, List, ◌++◌, take, drop, length, min}
use lib.ListN.{replicate, length-take}
use Rattle.std.proofs.lemmas.List.{take_min}
use Rattle.poly.specs.Carrier.{gf64}
use Rattle.poly.specs.Polynomial.{padded}
use Rattle.poly.proofs.Filling.{padded_front}
use Rattle.independence.proofs.first_64.Goals as goal

-- the elements that are copied are the first 64
same_front : (basis part : List ℕ) (n : ℕ) → n ≡ min (length basis) 64 → part ≡ take n basis → part ≡ take 64 basis
same_front basis part n many copied =
    copied ∙ ap (λ (m : ℕ). take m basis) (omega arith) ∙ take_min 64 basis

pub returns : goal.returns
returns c =
    let basis = c.args.basis.now in
    let part = c.copy_from_slice.new.self in
    let n = c.min-count.result in
    let front : part ≡ take 64 basis = same_front basis part n (omega arith) c.copy_from_slice.ensures.after in
    let many : n ≡ length part = omega (arith, ap length front, length-take 64 basis) in
    ap (λ (m : ℕ). part ++ drop m (replicate 64 0)) many ∙ padded_front 64 part ∙ ap (padded gf64 64) front
