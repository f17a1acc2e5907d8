-- The span of a list of elements, and the first element of a basis that lies in the span of the earlier ones.
use Rattle.std.specs.Prelude.{◌≡◌, Bool, cond, ◌||◌, List, [], ◌∷◌, ◌++◌, ℕ, suc, eqb}
use Rattle.gf64.specs.Field.{sum}
use Rattle.std.specs.Prelude.{Option, Some, None}

-- a is a sum of some of the elements: of none, and so zero; or of some of the others, with the first or without it
unfoldable pub in_span : (elements : List ℕ) (a : ℕ) → Bool
in_span [] a = eqb a 0
in_span (b ∷ elements) a = in_span elements a || in_span elements (sum a b)

-- the first of the elements that lies in the span of those before it, `earlier` ones included;
-- the first element has the place given
unfoldable pub first_dependent_after : (earlier elements : List ℕ) (place : ℕ) → Option ℕ
first_dependent_after earlier [] place = None
first_dependent_after earlier (b ∷ elements) place =
    cond (in_span earlier b) (Some place) (first_dependent_after (earlier ++ (b ∷ [])) elements (suc place))

-- the first place, from 0, whose element lies in the span of the earlier ones
unfoldable pub first_dependent : (basis : List ℕ) → Option ℕ
first_dependent basis = first_dependent_after [] basis 0

-- no element lies in the span of earlier ones
abbrev pub Independent : (basis : List ℕ) → Type 0
Independent basis = first_dependent basis ≡ None
