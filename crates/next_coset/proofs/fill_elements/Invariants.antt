-- `next_coset::fill_elements` meets its contract. The loop's invariant: t elements are filled in, the others as they
-- were. Assumes nothing.
use mathlib.Core.Path.{◌≡◌}
use mathlib.Core.List.{List, ◌++◌}
use Prim.Native.Nat.{ℕ}
use lib.ListN.{length, drop}
use Rattle.poly.proofs.Filling.{filled}
use Rattle.coset.specs.Steps.{step_elements}
use Rattle.next_coset.proofs.fill_elements.Given as goal

-- all elements, as many as the basis has
abbrev pub whole : List ℕ → List ℕ
whole basis = step_elements (length basis) basis

abbrev pub invariant-loop-t : goal.invariant-loop-t
invariant-loop-t l =
    l.elements ≡ filled (whole l.basis ++ drop (length (whole l.basis)) l.initial.elements) l.initial.elements l.t
