-- The products by which a block of a list is inverted. Only inner functions cite this.
use Rattle.std.specs.Prelude.{◌≡◌, cond, List, ℕ, zero, suc, ◌<◌, eqb, length, get_or}
use Rattle.gf64.specs.Field.{product}

-- the product of the first n elements, zeros passed over
unfoldable pub nonzero_product : (elements : List ℕ) (n : ℕ) → ℕ
nonzero_product elements zero = 1
nonzero_product elements (suc n) =
    cond (eqb (get_or elements n 0) 0) (nonzero_product elements n)
    (product (nonzero_product elements n) (get_or elements n 0))

-- entry i is that of the elements before place i
abbrev pub ProductsBefore : (elements before : List ℕ) → Type 0
ProductsBefore elements before = (i : ℕ) → i < length elements → get_or before i 0 ≡ nonzero_product elements i
