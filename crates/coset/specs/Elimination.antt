-- What the test of independence goes by; only its inner functions cite this.
use Rattle.std.specs.Prelude.{cond, ℕ, ltb}
use Rattle.gf64.specs.Field.{sum}

-- a, or a + b where that is less: bit p of a is cleared, where p is the highest bit of b
unfoldable pub cleared : (b a : ℕ) → ℕ
cleared b a = cond (ltb (sum a b) a) (sum a b) a
