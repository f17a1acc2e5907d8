-- Case E of Table A: encoding is computed, and the way back is the theorem of the round trip. Assumes nothing.
use mathlib.Core.Path.{◌≡◌, refl, sym, ap, ◌∙◌}
use mathlib.Core.List.{[], ◌∷◌}
use native.Mathlib.Omega.{arith}
use Rattle.gf64.specs.Polynomial.{carryless, carryless_in, remainder, remainder_in, times_t}
use Rattle.gf64.specs.Field.{product}
use Rattle.poly.specs.Carrier.{gf64}
use Rattle.poly.specs.Polynomial.{evaluate, padded}
use Rattle.coset.specs.Coset.{point, tabulated, points}
use Rattle.coset.specs.Span.{in_span, first_dependent_after, first_dependent, Independent}
use Rattle.std.specs.Prelude.{Ok}
use Rattle.reed_solomon.specs.Answers.{encode_outcome, interpolate_outcome}
use Rattle.reed_solomon.specs.Codes.{encoded, interpolated}
use Rattle.reed_solomon.specs.Theorems.{CodeCases}
use Rattle.reed_solomon.proofs.Theorems.{round_trips}

encodes : encoded 0 (1 ∷ 2 ∷ []) (7 ∷ 3 ∷ []) ≡ 7 ∷ 4 ∷ 1 ∷ 2 ∷ []
unfolding encoded evaluate point tabulated points product carryless carryless_in remainder remainder_in times_t
encodes = refl

independent : Independent (1 ∷ 2 ∷ [])
unfolding in_span first_dependent_after first_dependent
independent = refl

accepted : encode_outcome (1 ∷ 2 ∷ []) (7 ∷ 3 ∷ []) (0 ∷ 0 ∷ 0 ∷ 0 ∷ []) ≡ Ok tt
unfolding in_span first_dependent_after first_dependent
accepted = refl

accepted_back : interpolate_outcome (1 ∷ 2 ∷ []) (7 ∷ 4 ∷ 1 ∷ 2 ∷ []) (0 ∷ 0 ∷ 0 ∷ 0 ∷ []) ≡ Ok tt
unfolding in_span first_dependent_after first_dependent
accepted_back = refl

filled_in : padded gf64 4 (7 ∷ 3 ∷ []) ≡ 7 ∷ 3 ∷ 0 ∷ 0 ∷ []
unfolding padded
filled_in = refl

pub code_cases : CodeCases
code_cases =
    record {
      e_done = accepted;
      e = encodes;
      e_back_done = accepted_back;
      e_back =
          ap (interpolated 0 (1 ∷ 2 ∷ [])) (sym encodes)
          ∙ round_trips.coefficients 0 (1 ∷ 2 ∷ []) (7 ∷ 3 ∷ []) (omega arith) (omega arith, (omega arith, record {}))
          (omega arith, (omega arith, record {})) independent (omega arith)
          ∙ filled_in;
    }
