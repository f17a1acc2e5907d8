-- Polynomials over a carrier: a polynomial is the list of its coefficients, constant first.
use Rattle.std.specs.Prelude.{◌≡◌, ◌≢◌, List, [], ◌∷◌, ◌++◌, map, ℕ, ◌-◌, length, drop, replicate}
use Rattle.poly.specs.Carrier.{Operations}

-- P holds of every entry
abbrev pub All : {A : Type 0} (P : A → Type 0) (xs : List A) → Type 0
All P [] = record {}
All P (x ∷ xs) = P x × All P xs

-- no two entries are equal
abbrev pub Distinct : {A : Type 0} (xs : List A) → Type 0
Distinct [] = record {}
Distinct (x ∷ xs) = All (λ y. y ≢ x) xs × Distinct xs

-- every coefficient is zero
abbrev pub Zeros : {A : Type 0} (F : Operations A) (p : List A) → Type 0
Zeros F p = All (λ c. c ≡ F.zero) p

-- the degree is below n: every coefficient from n on is zero, so that zero is below every bound
abbrev pub DegreeBelow : {A : Type 0} (F : Operations A) (n : ℕ) (p : List A) → Type 0
DegreeBelow F n p = Zeros F (drop n p)

-- the value at x, by Horner: the constant plus x times the rest's value
unfoldable pub evaluate : {A : Type 0} (F : Operations A) (p : List A) (x : A) → A
evaluate F [] x = F.zero
evaluate F (c ∷ p) x = F.sum c (F.product x (evaluate F p x))

-- p + q
unfoldable pub plus : {A : Type 0} (F : Operations A) (p q : List A) → List A
plus F [] q = q
plus F (c ∷ p) [] = c ∷ p
plus F (c ∷ p) (d ∷ q) = F.sum c d ∷ plus F p q

-- a · p
unfoldable pub scale : {A : Type 0} (F : Operations A) (a : A) (p : List A) → List A
scale F a p = map (F.product a) p

-- p with zeros up to n coefficients
unfoldable pub padded : {A : Type 0} (F : Operations A) (n : ℕ) (p : List A) → List A
padded F n p = p ++ replicate (n - length p) F.zero

-- c + (X - x) · p: a difference is a sum
unfoldable pub times_linear : {A : Type 0} (F : Operations A) (c x : A) (p : List A) → List A
times_linear F c x p = plus F (c ∷ p) (scale F x p)

-- the divided differences of the point x with value y and the others: (y' - y) / (x' - x) for each
unfoldable pub divided_differences : {A : Type 0} (F : Operations A) (x y : A) (points values : List A) → List A
divided_differences F x y [] values = []
divided_differences F x y (x' ∷ points) [] = []
divided_differences F x y (x' ∷ points) (y' ∷ values) =
    F.product (F.inverse (F.sum x' x)) (F.sum y' y) ∷ divided_differences F x y points values

-- the interpolant of the values at the points, by Newton: y + (X - x) · Q, where Q has the divided differences for its
-- values at the other points
unfoldable pub interpolant : {A : Type 0} (F : Operations A) (points values : List A) → List A
interpolant F [] values = []
interpolant F (x ∷ points) [] = []
interpolant F (x ∷ points) (y ∷ values) =
    times_linear F y x (interpolant F points (divided_differences F x y points values))

-- the product of X - a over the list
unfoldable pub vanishing_polynomial : {A : Type 0} (F : Operations A) (roots : List A) → List A
vanishing_polynomial F [] = F.one ∷ []
vanishing_polynomial F (a ∷ roots) = times_linear F F.zero a (vanishing_polynomial F roots)
