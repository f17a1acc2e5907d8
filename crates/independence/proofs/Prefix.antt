-- What the first 64 elements of a basis tell of the whole: where none of them is dependent, the next one is. Assumes
-- nothing.
use mathlib.Core.Path.{◌≡◌, sym, ap, ◌∙◌}
use mathlib.Core.List.{List}
use Prim.Native.Nat.{ℕ, ◌^◌, ◌<◌, ◌≤◌}
use lib.ListN.{length, get_or, take}
use lib.Seq.{take_all}
use Rattle.std.specs.Prelude.{Some, None}
use Rattle.coset.specs.Span.{first_dependent}
use Rattle.coset.proofs.Points.{all_elements}
use Rattle.coset.proofs.Dimension.{sixty_fifth}

pub beyond_64 : (basis : List ℕ) → None ≡ first_dependent (take 64 basis) → 64 < length basis
    → ((i : ℕ) → get_or basis i 0 < 2 ^ 64) → Some 64 ≡ first_dependent basis
beyond_64 basis absent h elements = sym (sixty_fifth basis (all_elements basis elements) h (sym absent))

pub within_64 : (basis : List ℕ) → None ≡ first_dependent (take 64 basis) → length basis ≤ 64
    → None ≡ first_dependent basis
within_64 basis absent h = absent ∙ ap first_dependent (take_all 64 basis h)
