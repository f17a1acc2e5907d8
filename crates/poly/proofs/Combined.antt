-- Σ y^i · row_i as a polynomial of m coefficients: at x it has the value at y of the polynomial whose coefficients are
-- the rows at x. Assumes nothing.
use mathlib.Core.Path.{◌≡◌, refl, sym, ap, ◌∙◌}
use mathlib.Core.List.{List, [], ◌∷◌, map}
use Prim.Native.Nat.{ℕ, zero, suc}
use native.Mathlib.Nat.{le_of_eq}
use lib.ListN.{length, replicate, length-replicate}
use Rattle.poly.specs.Carrier.{Operations, Laws}
use Rattle.poly.specs.Polynomial.{All, evaluate, plus, scale}
use Rattle.poly.specs.Rows.{quotient_by, rows}
use Rattle.poly.proofs.Evaluation.{evaluate-plus, evaluate-scale, evaluate_zeros, evaluate-element}
use Rattle.poly.proofs.Evaluation.{length-plus, length-scale, plus-elements, scale-elements}
use Rattle.poly.proofs.Division.{remainder-elements, quotient_elements}
use Rattle.poly.proofs.Entries.{all_replicate}

pub combined : {A : Type 0} → Operations A → ℕ → A → List (List A) → List A
combined F m y [] = replicate m F.zero
combined F m y (row ∷ further) = plus F row (scale F y (combined F m y further))

pub length_combined : {A : Type 0} (F : Operations A) (m : ℕ) (y : A) (rs : List (List A))
    → All (λ row. length row ≡ m) rs → length (combined F m y rs) ≡ m
unfolding combined
length_combined F m y [] h = length-replicate m F.zero
length_combined F m y (row ∷ further) h =
    length-plus F row (scale F y (combined F m y further))
    (le_of_eq (length-scale F y (combined F m y further) ∙ length_combined F m y further h.1 ∙ sym h.0))
    ∙ h.0

module _ {A : Type 0} (F : Operations A) (Element : A → Type 0) (L : Laws A F Element) where
  open F use {zero as 𝟘, sum as ◌⊕◌, product as ◌⊗◌}

  infixl 60 ◌⊕◌
  infixl 70 ◌⊗◌
  pub combined_elements : (m : ℕ) (y : A) (rs : List (List A)) → Element y → All (All Element) rs
      → All Element (combined F m y rs)
  unfolding combined
  combined_elements m y [] ey er = all_replicate Element m 𝟘 L.zero_element
  combined_elements m y (row ∷ further) ey er =
      plus-elements F Element L row (scale F y (combined F m y further)) er.0
      (scale-elements F Element L y (combined F m y further) ey (combined_elements m y further ey er.1))

  pub evaluate_combined : (m : ℕ) (y : A) (rs : List (List A)) (x : A)
      → evaluate F (combined F m y rs) x ≡ evaluate F (map (λ row. evaluate F row x) rs) y
  unfolding combined evaluate
  evaluate_combined m y [] x = evaluate_zeros F Element L (replicate m 𝟘) x (all_replicate (λ c. c ≡ 𝟘) m 𝟘 refl)
  evaluate_combined m y (row ∷ further) x =
      evaluate-plus F Element L row (scale F y (combined F m y further)) x
      ∙ ap (λ (v : A). evaluate F row x ⊕ v)
      (evaluate-scale F Element L y (combined F m y further) x
      ∙ ap (λ (v : A). y ⊗ v) (evaluate_combined m y further x))

  pub rows-elements : (q : List A) (n : ℕ) (p : List A) → All Element q → All Element p
      → All (All Element) (rows F q n p)
  unfolding rows
  rows-elements q zero p eq ep = record {}
  rows-elements q (suc n) p eq ep = (
    remainder-elements F Element L q p eq ep,
    rows-elements q n (quotient_by F q p) eq (quotient_elements F Element L q p eq ep),
  )

  pub rows_values_elements : (rs : List (List A)) (x : A) → All (All Element) rs → Element x
      → All Element (map (λ row. evaluate F row x) rs)
  rows_values_elements [] x er ex = record {}
  rows_values_elements (row ∷ further) x er ex =
      (evaluate-element F Element L row x er.0 ex, rows_values_elements further x er.1 ex)
