-- The queries 0 and 2 of case J visit both cosets, and are accepted. Assumes nothing.
use mathlib.Core.Path.{refl}
use mathlib.Core.Logic.{inl, inr}
use mathlib.Core.List.{[], ◌∷◌}
use Prim.Native.Nat.{zero, suc}
use native.Mathlib.Omega.{arith}
use Rattle.gf64.specs.Field.{product}
use Rattle.gf64.specs.Polynomial.{carryless, carryless_in, remainder, remainder_in, times_t}
use Rattle.poly.specs.Polynomial.{evaluate, plus, scale, times_linear, vanishing_polynomial}
use Rattle.coset.specs.Coset.{point, points, tabulated}
use Rattle.coset.specs.Span.{in_span, first_dependent_after, first_dependent}
use Rattle.coset.specs.Subspace.{next_offset, next_basis, image, subspace_polynomial}
use Rattle.fold.proofs.Cases.{fold_cases}
use Rattle.fri.specs.Layout.{dimension, last_count, layer_start, store_length, index_in}
use Rattle.fri.specs.Run.{layer_in}
use Rattle.fri.specs.Layers.{layer_basis, layer_offset}
use Rattle.fri.specs.Checks.{first_outside, among, first_repeated_after, first_shared}
use Rattle.fri.specs.Rounds.{value_found, first_failing_round, rounds_outcome}
use Rattle.fri.specs.Demand.{Accepted, Covered}
use Rattle.table_a.specs.TableA.{small}
use Rattle.table_a.specs.Needed.{ExceptionalSetsNeeded}
use Rattle.table_a.proofs.Values.{j_value}

accepted : Accepted (small 2 (0 ∷ 0 ∷ 0 ∷ 1 ∷ []) (0 ∷ [])) (0 ∷ 2 ∷ [])
unfolding product carryless carryless_in remainder remainder_in times_t evaluate plus scale times_linear vanishing_polynomial
    point points tabulated in_span first_dependent_after first_dependent next_offset next_basis image subspace_polynomial
    dimension last_count layer_start store_length index_in layer_in layer_basis layer_offset first_outside
    among first_repeated_after first_shared value_found first_failing_round rounds_outcome
accepted =
    let first = j_value (0 ∷ []) 0 0 (omega arith) refl in
    let second = j_value (0 ∷ []) 2 1 (omega arith) refl in simp (first, second)

covered : Covered (small 2 (0 ∷ 0 ∷ 0 ∷ 1 ∷ []) (0 ∷ [])) ((0 ∷ 2 ∷ []) ∷ [])
covered zero h = inl (accepted, inl refl)
covered (suc zero) h = inl (accepted, inr (inl refl))
covered (suc (suc coset)) h = absurd (omega arith)

pub exceptional_sets_needed : ExceptionalSetsNeeded
exceptional_sets_needed = record { covered = covered; not_low = ((fold_cases.j 2).1 refl).1 }
