-- Newton's form of a polynomial, c₀ + c₁ · (X - x₀) + c₂ · (X - x₀) · (X - x₁) + .. ; only inner functions cite this.
use Rattle.std.specs.Prelude.{List, [], ◌∷◌, ◌++◌}
use Rattle.poly.specs.Carrier.{Operations}
use Rattle.poly.specs.Polynomial.{times_linear}

-- the form's value at z
unfoldable pub newton_value : {A : Type 0} (F : Operations A) (points coefficients : List A) (z : A) → A
newton_value F [] coefficients z = F.zero
newton_value F (x ∷ points) [] z = F.zero
newton_value F (x ∷ points) (c ∷ coefficients) z =
    F.sum c (F.product (F.sum z x) (newton_value F points coefficients z))

-- the value at z of `vanishing_polynomial`: the product of the differences of z and each point
unfoldable pub vanishing : {A : Type 0} (F : Operations A) (points : List A) (z : A) → A
vanishing F [] z = F.one
vanishing F (x ∷ points) z = F.product (F.sum z x) (vanishing F points z)

-- the coefficient for the next point z: with it the form has the value y there
unfoldable pub newton_coefficient : {A : Type 0} (F : Operations A) (points coefficients : List A) (z y : A) → A
newton_coefficient F points coefficients z y =
    F.product (F.sum y (newton_value F points coefficients z)) (F.inverse (vanishing F points z))

-- the coefficients for further points and values, where those for earlier points are known
unfoldable pub newton_after : {A : Type 0} (F : Operations A) (earlier known points values : List A) → List A
newton_after F earlier known [] values = []
newton_after F earlier known (x ∷ points) [] = []
newton_after F earlier known (x ∷ points) (y ∷ values) =
    let c = newton_coefficient F earlier known x y in
    c ∷ newton_after F (earlier ++ (x ∷ [])) (known ++ (c ∷ [])) points values

-- the coefficients of the form that has the values at the points
unfoldable pub newton_coefficients : {A : Type 0} (F : Operations A) (points values : List A) → List A
newton_coefficients F points values = newton_after F [] [] points values

-- the coefficients c, p as those of c + (X - x) · p
unfoldable pub horner_step : {A : Type 0} (F : Operations A) (x : A) (p : List A) → List A
horner_step F x [] = []
horner_step F x (c ∷ p) = times_linear F c x p

-- the form as a polynomial: joined from the last point to the first
unfoldable pub expanded : {A : Type 0} (F : Operations A) (points coefficients : List A) → List A
expanded F [] coefficients = []
expanded F (x ∷ points) [] = []
expanded F (x ∷ points) (c ∷ coefficients) = horner_step F x (c ∷ expanded F points coefficients)
