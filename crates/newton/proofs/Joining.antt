-- c + (X - x) · p from its coefficients c, p, entry after entry in the list itself. Assumes nothing.
use mathlib.Core.Path.{◌≡◌, sym, ap, ap₂, ◌∙◌}
use mathlib.Core.List.{List}
use Prim.Native.Nat.{ℕ, suc, ◌+◌, ◌-◌, ◌≤◌, ◌<◌}
use native.Mathlib.Nat.{le_refl}
use native.Mathlib.Omega.{arith}
use lib.ListN.{length, get_or, set}
use Rattle.gf64.specs.Field.{sum, product}
use Rattle.poly.specs.Carrier.{gf64}
use Rattle.poly.specs.Newton.{horner_step}
use Rattle.poly.proofs.Filling.{filled, filled_next, filled_done, filled_rest}
use Rattle.poly.proofs.Newton.{length_joined, joined_get_or, joined_last}

module _ (x : ℕ) (held now : List ℕ) (j : ℕ) (inv : now ≡ filled (horner_step gf64 x held) held j) where
  entry : (i : ℕ) → j ≤ i → get_or now i 0 ≡ get_or held i 0
  entry i l = ap (λ (s : List ℕ). get_or s i 0) inv
      ∙ filled_rest (horner_step gf64 x held) held j i l (length_joined gf64 x held)

  -- entry j plus x times the next
  joined_next : suc j < length held
      → set now j (sum (get_or now j 0) (product x (get_or now (suc j) 0))) ≡ filled (horner_step gf64 x held) held (j + 1)
  joined_next h =
      ap (λ (s : List ℕ). set s j (sum (get_or now j 0) (product x (get_or now (suc j) 0)))) inv
      ∙ filled_next (horner_step gf64 x held) held j (sum (get_or now j 0) (product x (get_or now (suc j) 0)))
      (omega arith) (length_joined gf64 x held)
      (ap₂ (λ (a b : ℕ). sum a (product x b)) (entry j (le_refl j)) (entry (suc j) (omega arith))
      ∙ sym (joined_get_or gf64 0 x held j h))

  joined_end : length held ≤ suc j → now ≡ horner_step gf64 x held
  joined_end h =
      inv
      ∙ filled_done (horner_step gf64 x held) held j (length_joined gf64 x held)
      (λ i l. joined_last gf64 0 x held i (omega arith))

-- the same by the place of the next entry
pub join_next : (x : ℕ) (held now : List ℕ) (next : ℕ) → 1 ≤ next → next < length held
    → now ≡ filled (horner_step gf64 x held) held (next - 1)
    → set now (next - 1) (sum (get_or now (next - 1) 0) (product x (get_or now next 0)))
    ≡ filled (horner_step gf64 x held) held (next + 1 - 1)
join_next x held now next l h inv = at (next - 1) (omega arith) inv
  where
    at : (j : ℕ) → suc j ≡ next → now ≡ filled (horner_step gf64 x held) held j
        → set now j (sum (get_or now j 0) (product x (get_or now next 0)))
        ≡ filled (horner_step gf64 x held) held (next + 1 - 1)
    at j e inv =
        ap (λ (n : ℕ). set now j (sum (get_or now j 0) (product x (get_or now n 0)))) (sym e)
        ∙ joined_next x held now j inv (omega arith) ∙ ap (filled (horner_step gf64 x held) held) (shifted j e)
      where
        shifted : (j : ℕ) → suc j ≡ next → j + 1 ≡ next + 1 - 1
        shifted j e = omega arith

pub join_end : (x : ℕ) (held now : List ℕ) (next : ℕ) → 1 ≤ next → length held ≤ next
    → now ≡ filled (horner_step gf64 x held) held (next - 1)
    → now ≡ horner_step gf64 x held
join_end x held now next l h inv = joined_end x held now (next - 1) inv (omega arith)
