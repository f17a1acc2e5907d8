-- Powers whose exponents are all ones in binary: a^(2^(m+n) - 1) from a^(2^m - 1) and a^(2^n - 1). Assumes nothing.
use mathlib.Core.Path.{◌≡◌, sym, ap, ap₂, ◌∙◌}
use Prim.Native.Nat.{ℕ, ◌+◌, ◌*◌, ◌-◌, ◌^◌, ◌<◌}
use native.Mathlib.Nat.{pow-suc}
use native.Mathlib.Numerals.{add-one}
use lib.Pow.{ones_split}
use Rattle.gf64.specs.Field.{product, power, inverse}
use Rattle.gf64.proofs.Remainder.{remainder_id}
use Rattle.gf64.proofs.Power.{power_one, power-add, power-mul, power_double}

pub ones_first : (a : ℕ) → a < 2 ^ 64 → a ≡ power a (2 ^ 1 - 1)
ones_first a h = sym (power_one a ∙ remainder_id a h)

pub ones_join : (a m n x y r : ℕ) → x ≡ power a (2 ^ m - 1) → y ≡ power a (2 ^ n - 1) → r ≡ product (power x (2 ^ n)) y
    → r ≡ power a (2 ^ (m + n) - 1)
ones_join a m n x y r ex ey er =
    er ∙ ap₂ (λ (u v : ℕ). product (power u (2 ^ n)) v) ex ey
    ∙ ap (λ (u : ℕ). product u (power a (2 ^ n - 1))) (sym (power-mul a (2 ^ m - 1) (2 ^ n)))
    ∙ sym (power-add a ((2 ^ m - 1) * 2 ^ n) (2 ^ n - 1)) ∙ ap (power a) (sym (ones_split m n))

pub ones_last : (a x r : ℕ) → x ≡ power a (2 ^ 63 - 1) → r ≡ power x (2 ^ 1) → r ≡ inverse a
unfolding inverse
ones_last a x r ex er = er ∙ ap (λ (u : ℕ). power u 2) ex ∙ sym (power-mul a (2 ^ 63 - 1) 2)

-- one squaring more
pub squared_once_more : (a i x : ℕ) → x ≡ power a (2 ^ i) → product x x ≡ power a (2 ^ (i + 1))
squared_once_more a i x e =
    ap (λ (u : ℕ). product u u) e ∙ sym (power_double a (2 ^ i)) ∙ ap (power a) (sym (pow-suc 2 i))
    ∙ ap (λ (u : ℕ). power a (2 ^ u)) (sym (add-one i))
