-- The computed facts behind the inverse, in a module of their own since they take the checker seconds: t^(2^64) = t,
-- and a map that undoes x ↦ x² + x up to bit 0. Assumes nothing.
use mathlib.Core.Path.{◌≡◌, refl, sym, ap, ◌∙◌}
use mathlib.Core.List.{List, [], ◌∷◌}
use Prim.Native.Nat.{ℕ, ◌*◌, ◌/◌, ◌^◌, ◌<◌}
use lib.Dec.{T}
use native.Mathlib.Omega.{arith}
use lib.Bits.{bit_xor, xor_self}
use Rattle.gf64.specs.Polynomial.{carryless, carryless_in, times_t, remainder, remainder_in}
use Rattle.gf64.specs.Field.{product, times_where, power_in, power}
use Rattle.gf64.proofs.Xor.{xor_half, xor_double}
use Rattle.gf64.proofs.Ring.{square_add}
use Rattle.gf64.proofs.Additive.{Additive, additive_zero, agree_on, agree_tested}
use Rattle.gf64.proofs.Additive.{map_bits, map_bits_additive, sum_additive}

pub t_power : power 2 (2 ^ 64) ≡ 2
unfolding power power_in times_where product carryless carryless_in times_t remainder remainder_in
t_power = refl

-- entry i is what 2^i is sent to
undo : List ℕ
undo =
    0x19c9369f278adc02 ∷ 0x84b2b22ab2383ee4 ∷ 0x84b2b22ab2383ee6 ∷ 0x9d7b84b495b3e3f6 ∷
    0x84b2b22ab2383ee2 ∷ 0x37c470b49213f790 ∷ 0x9d7b84b495b3e3fe ∷ 0x0001000a0105137c ∷
    0x84b2b22ab2383ef2 ∷ 0x368e964a8edce1fc ∷ 0x37c470b49213f7b0 ∷ 0x19c9368e278fdf4c ∷
    0x9d7b84b495b3e3be ∷ 0x2e4da23cbc7d4570 ∷ 0x0001000a010513fc ∷ 0x84f35772bac24232 ∷
    0x84b2b22ab2383ff2 ∷ 0x37c570ba9314e4fc ∷ 0x368e964a8edce3fc ∷ 0xb377c390213cdb0e ∷
    0x37c470b49213f3b0 ∷ 0x85ed5a3aa99c24f2 ∷ 0x19c9368e278fd74c ∷ 0xaabff0000780000e ∷
    0x9d7b84b495b3f3be ∷ 0x84b6b3dab03038f2 ∷ 0x2e4da23cbc7d6570 ∷ 0x000511ea03494ffc ∷
    0x0001000a010553fc ∷ 0xae0c0220343c6c0e ∷ 0x84f35772bac2c232 ∷ 0x800000008000000e ∷
    0x84b2b22ab2393ff2 ∷ 0xb376c29c202bc97e ∷ 0x37c570ba9316e4fc ∷ 0x9c3062488879e6ce ∷
    0x368e964a8ed8e3fc ∷ 0x0041e42c08e47e70 ∷ 0xb377c3902134db0e ∷ 0x85b9b108a60f56ce ∷
    0x37c470b49203f3b0 ∷ 0x19dd3b6e21f3cb4c ∷ 0x85ed5a3aa9bc24f2 ∷ 0x198ddf682c428ac0 ∷
    0x19c9368e27cfd74c ∷ 0x04b7c68431ca84b0 ∷ 0xaabff0000700000e ∷ 0x8040655489ffefbe ∷
    0x9d7b84b494b3f3be ∷ 0x18c1354e32bfa74c ∷ 0x84b6b3dab23038f2 ∷ 0xaaf613cc0f74627e ∷
    0x2e4da23cb87d6570 ∷ 0x3248b3d6b3342a8c ∷ 0x000511ea0b494ffc ∷ 0xb60813c00e70700e ∷
    0x0001000a110553fc ∷ 0x1e0d022a05393ffc ∷ 0xae0c0220143c6c0e ∷ 0x0e0c0220143c6c00 ∷
    0x84f35772fac2c232 ∷ 0x0000000000000000 ∷ 0x800000000000000e ∷ 0xc041e55948fbfdce ∷ []

undone : ℕ → ℕ
undone x = map_bits undo (bit_xor (product x x) x)

undone_additive : Additive undone
unfolding undone
undone_additive a b =
    ap (map_bits undo) (sum_additive (λ x. product x x) (λ x. x) square_add (λ x y. refl) a b)
    ∙ map_bits_additive undo (bit_xor (product a a) a) (bit_xor (product b b) b)

cleared_additive : Additive (λ x. x / 2 * 2)
cleared_additive a b = ap (λ (x : ℕ). x * 2) (xor_half a b) ∙ sym (xor_double (a / 2) (b / 2))

undone_tested : T (agree_on undone (λ x. x / 2 * 2) 64)
unfolding agree_on undone undo map_bits product carryless carryless_in times_t remainder remainder_in
undone_tested = tt

-- x² + x decides x up to bit 0, so an element that is its own square is 0 or 1
pub idempotent_small : (e : ℕ) → e < 2 ^ 64 → product e e ≡ e → e < 2
unfolding undone
idempotent_small e h p = omega (arith, cleared)
  where
    cleared : e / 2 * 2 ≡ 0
    cleared =
        sym (agree_tested undone (λ x. x / 2 * 2) undone_additive cleared_additive 64 undone_tested e h)
        ∙ ap (λ (x : ℕ). map_bits undo (bit_xor x e)) p ∙ ap (map_bits undo) (xor_self e)
        ∙ additive_zero (map_bits undo) (map_bits_additive undo)
