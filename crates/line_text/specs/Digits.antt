-- Texts and numbers as bytes, in ASCII.
use Rattle.std.specs.Prelude.{cond, List, [], ◌∷◌, ◌++◌, ℕ, zero, suc, ◌+◌, ◌/◌, ◌%◌, ltb}
use Prim.Native.Char.{code}
use Prim.Native.String.{String, [] as nothing, ◌∷◌ as ◌then◌}

-- the codes of a text's characters
unfoldable pub bytes : (text : String) → List ℕ
bytes nothing = []
bytes (c then rest) = code c ∷ bytes rest

-- the code of a digit below 16: `0` to `9`, then `a` to `f`
abbrev pub digit : (d : ℕ) → ℕ
digit d = cond (ltb d 10) (48 + d) (87 + d)

-- the last `width` digits of n in a base, the most significant first
unfoldable pub digits : (base width n : ℕ) → List ℕ
digits base zero n = []
digits base (suc width) n = digits base width (n / base) ++ (digit (n % base) ∷ [])

-- how many decimal digits n has, at most `more` and one: 1 below 10, else one more than its tenth has
unfoldable pub places_within : (more n : ℕ) → ℕ
places_within zero n = 1
places_within (suc more) n = cond (ltb n 10) 1 (suc (places_within more (n / 10)))

-- a number's decimal digits, with no zero in front; a 64-bit number has at most 20
unfoldable pub decimal : (n : ℕ) → List ℕ
decimal n = digits 10 (places_within 19 n) n
