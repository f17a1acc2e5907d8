-- What is behind the front of zeros. Assumes nothing.
use Rattle.std.proofs.Common.{◌≡◌, ℕ, ◌-◌, List, ◌++◌, length, drop, replicate, sym, ap, ◌∙◌}
use Rattle.std.proofs.lemmas.List.{drop-replicate}
use Rattle.std.proofs.Math.Seq.{drop-append_seam}

-- a list put over the front of zeros leaves the zeros that are left
pub behind : (n count : ℕ) (front : List ℕ) → length front ≡ count
    → drop count (front ++ drop count (replicate n 0)) ≡ replicate (n - count) 0
behind n count front e =
    ap (λ (k : ℕ). drop k (front ++ drop count (replicate n 0))) (sym e)
    ∙ drop-append_seam front (drop count (replicate n 0))
    ∙ drop-replicate count n 0
