-- What a function answers that multiplies by an element.
use Rattle.std.specs.Prelude.{◌≡◌, ℕ, ◌^◌, ◌<◌}
use Rattle.gf64.specs.Field.{product}

-- the answers, given by their relation to the arguments, are the products by c
abbrev pub Multiplies : (c : ℕ) (answers : ℕ → ℕ → Type 0) → Type 0
Multiplies c answers = (x r : ℕ) → x < 2 ^ 64 → answers x r → r ≡ product c x
