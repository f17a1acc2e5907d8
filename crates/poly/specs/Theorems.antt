-- What is proved of polynomials, as statements: proofs/Theorems.antt has a value of `OverEveryCarrier` and
-- proofs/AtField.antt one of `AtField`.
use Rattle.std.specs.Prelude.{◌≡◌, ◌↔◌, ◌≢◌, List, map, ℕ, ◌+◌, ◌*◌, ◌≤◌, length, drop, get_or}
use Rattle.gf64.specs.Field.{IsElement}
use Rattle.poly.specs.Carrier.{Operations, Laws, gf64}
use Rattle.poly.specs.Polynomial.{All, Distinct, Zeros, DegreeBelow, evaluate}
use Rattle.poly.specs.Polynomial.{padded, interpolant, vanishing_polynomial}
use Rattle.poly.specs.Degree.{degree_bound}
use Rattle.poly.specs.Rows.{monic, rows, composed}
use Rattle.poly.specs.Newton.{vanishing}

-- n coefficients are fixed by n values
pub record Roots (A : Type 0) (F : Operations A) (Element : A → Type 0) : Type 0 where
  -- a polynomial of degree below n with n distinct roots is zero
  pub bound : (n : ℕ) (p roots : List A) → All Element p → All Element roots → Distinct roots
      → All (λ x. evaluate F p x ≡ F.zero) roots → DegreeBelow F n p → n ≤ length roots → Zeros F p
  -- two polynomials of as many coefficients as there are distinct points, with the same values there, are equal
  pub unique : (p q points : List A) → All Element p → All Element q → All Element points → Distinct points
      → length p ≡ length points → length q ≡ length points
      → map (evaluate F p) points ≡ map (evaluate F q) points → p ≡ q

-- the interpolant is the one polynomial with as many coefficients as there are points, and the given values at them
pub record Interpolation (A : Type 0) (F : Operations A) (Element : A → Type 0) : Type 0 where
  pub elements : (points values : List A) → All Element points → All Element values
      → All Element (interpolant F points values)
  pub count : (points values : List A) → length points ≡ length values
      → length (interpolant F points values) ≡ length points
  pub agrees : (points values : List A) → All Element points → All Element values → Distinct points
      → length points ≡ length values → map (evaluate F (interpolant F points values)) points ≡ values
  -- zeros that are filled in change no value
  pub padding : (n : ℕ) (p : List A) (x : A) → evaluate F (padded F n p) x ≡ evaluate F p x
  -- from the values of p at the points the interpolant is p again, zeros filled in
  pub recovers : (p points : List A) → All Element p → All Element points → Distinct points → length p ≤ length points
      → interpolant F points (map (evaluate F p) points) ≡ padded F (length points) p
  -- what Newton's form is divided by at a new point: it is not zero
  pub divisor : (points : List A) (z : A) → All Element points → Element z → All (λ x. z ≢ x) points
      → vanishing F points z ≢ F.zero

-- the product of X - a over a list of roots
pub record RootProduct (A : Type 0) (F : Operations A) : Type 0 where
  -- its value is the product of the differences, its leading coefficient one
  pub value : (roots : List A) (z : A) → evaluate F (vanishing_polynomial F roots) z ≡ vanishing F roots z
  pub leading : (roots : List A)
      → (length (vanishing_polynomial F roots) ≡ length roots + 1)
      × (get_or (vanishing_polynomial F roots) (length roots) F.zero ≡ F.one)

-- division into n rows by a monic polynomial, given by its coefficients below the leading one
pub record RowDivision (A : Type 0) (F : Operations A) (Element : A → Type 0) : Type 0 where
  pub count : (q : List A) (n : ℕ) (p : List A) → length (rows F q n p) ≡ n
  pub counts : (q : List A) (n : ℕ) (p : List A) → All (λ row. length row ≡ length q) (rows F q n p)
  -- p and Σ row_i · q^i have the same coefficients
  pub identity : (q : List A) (n : ℕ) (p : List A) → All Element q → All Element p → DegreeBelow F (n * length q) p
      → (i : ℕ) → get_or p i F.zero ≡ get_or (composed F (monic F q) (rows F q n p)) i F.zero
  -- so p(x) = Σ row_i(x) · q(x)^i
  pub values : (q : List A) (n : ℕ) (p : List A) (x : A) → All Element q → All Element p
      → DegreeBelow F (n * length q) p
      → evaluate F p x ≡ evaluate F (map (λ row. evaluate F row x) (rows F q n p)) (evaluate F (monic F q) x)
  -- rows from N on are zero exactly when the coefficients from N · (degree of q) on are
  pub degrees : (N : ℕ) (q : List A) (n : ℕ) (p : List A) → DegreeBelow F (n * length q) p
      → DegreeBelow F (N * length q) p ↔ All (Zeros F) (drop N (rows F q n p))

-- the degree as a number: it is below n exactly where n is at least its least bound
pub record Degrees : Type 0 where
  pub least : (n : ℕ) (p : List ℕ) → DegreeBelow gf64 n p ↔ (degree_bound p ≤ n)

-- for every carrier with the laws of a field of characteristic 2
pub record OverEveryCarrier : Type 1 where
  pub roots : (A : Type 0) (F : Operations A) (Element : A → Type 0) → Laws A F Element → Roots A F Element
  pub interpolation : (A : Type 0) (F : Operations A) (Element : A → Type 0) → Laws A F Element
      → Interpolation A F Element
  pub root_product : (A : Type 0) (F : Operations A) (Element : A → Type 0) → Laws A F Element → RootProduct A F
  pub row_division : (A : Type 0) (F : Operations A) (Element : A → Type 0) → Laws A F Element → RowDivision A F Element

-- the field of 2^64 elements is one, so that they hold there
pub record AtField : Type 0 where
  pub laws : Laws ℕ gf64 IsElement
  pub roots : Roots ℕ gf64 IsElement
  pub interpolation : Interpolation ℕ gf64 IsElement
  pub root_product : RootProduct ℕ gf64
  pub row_division : RowDivision ℕ gf64 IsElement
