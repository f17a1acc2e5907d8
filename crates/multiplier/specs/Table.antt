-- The table of an element's multiples, by which a product is looked up four bits at a time.
use Rattle.std.specs.Prelude.{◌≡◌, List, ℕ, ◌+◌, ◌*◌, ◌^◌, ◌<◌, get_or}
use Rattle.gf64.specs.Field.{product}

-- the table of c: entry 16 · n + v is c · v · t^(4 · n), for the sixteen polynomials v of four bits and n below four
pub record Multiples (c : ℕ) (table : List ℕ) : Type 0 where
  pub at : (n v : ℕ) → n < 4 → v < 2 ^ 4 → get_or table (16 * n + v) 0 ≡ product c (v * 2 ^ (4 * n))

-- ---- how the table is filled; inner functions alone cite this

-- the entries of a block below end are the multiples of b
abbrev pub Filled : (b : ℕ) (block : List ℕ) (end : ℕ) → Type 0
Filled b block end = (v : ℕ) → v < end → get_or block v 0 ≡ product b v
