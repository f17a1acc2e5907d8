-- Division by a monic polynomial q, given by its coefficients below the leading one, whose number is the degree of q.
use Rattle.std.specs.Prelude.{List, [], ◌∷◌, ◌++◌, ℕ, zero, suc, length, replicate}
use Rattle.poly.specs.Carrier.{Operations}
use Rattle.poly.specs.Polynomial.{plus, scale}

-- X^m + q, where q has m coefficients
unfoldable pub monic : {A : Type 0} (F : Operations A) (q : List A) → List A
monic F q = q ++ (F.one ∷ [])

-- the coefficients c, r but for the last
unfoldable pub but_last : {A : Type 0} (c : A) (r : List A) → List A
but_last c [] = []
but_last c (d ∷ r) = c ∷ but_last d r

-- the last of the coefficients c, r
unfoldable pub last : {A : Type 0} (c : A) (r : List A) → A
last c [] = c
last c (d ∷ r) = last d r

-- where p leaves r, c + X · p leaves c + X · r less (the leading coefficient of that) · (X^m + q)
unfoldable pub remainder_by : {A : Type 0} (F : Operations A) (q p : List A) → List A
remainder_by F q [] = replicate (length q) F.zero
remainder_by F q (c ∷ p) =
    let r = remainder_by F q p in
    plus F (but_last c r) (scale F (last c r) q)

-- the quotient: those leading coefficients, as many as p has coefficients, the highest m of them zero
unfoldable pub quotient_by : {A : Type 0} (F : Operations A) (q p : List A) → List A
unfolding remainder_by
quotient_by F q [] = []
quotient_by F q (c ∷ p) = last c (remainder_by F q p) ∷ quotient_by F q p

-- the first n rows: the remainders of p, of its quotient, of the quotient's quotient ..
unfoldable pub rows : {A : Type 0} (F : Operations A) (q : List A) (n : ℕ) (p : List A) → List (List A)
rows F q zero p = []
rows F q (suc n) p = remainder_by F q p ∷ rows F q n (quotient_by F q p)

-- m · p
unfoldable pub times : {A : Type 0} (F : Operations A) (m p : List A) → List A
times F m [] = []
times F m (c ∷ p) = plus F (scale F c m) (F.zero ∷ times F m p)

-- Σ row_i · m^i, by Horner
unfoldable pub composed : {A : Type 0} (F : Operations A) (m : List A) (rows : List (List A)) → List A
composed F m [] = []
composed F m (row ∷ further) = plus F row (times F m (composed F m further))
