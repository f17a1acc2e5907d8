-- The product of X - a over a list of roots: its value, and that it is monic, of as high a degree as there
-- are roots. Assumes nothing.
use mathlib.Core.Path.{◌≡◌, refl, ap, ◌∙◌}
use mathlib.Core.List.{List, [], ◌∷◌, ◌++◌}
use Prim.Native.Nat.{ℕ, suc, ◌+◌, ◌≤◌}
use native.Mathlib.Nat.{le_of_eq}
use native.Mathlib.Numerals.{add-one}
use native.Mathlib.Omega.{arith}
use lib.ListN.{length, get_or, length-append}
use lib.Seq.{get_or_at}
use Rattle.poly.specs.Carrier.{Operations, Laws}
use Rattle.poly.specs.Polynomial.{All, evaluate, plus, scale, times_linear, vanishing_polynomial}
use Rattle.poly.specs.Newton.{vanishing}
use Rattle.poly.specs.Rows.{monic}
use Rattle.poly.proofs.Sums.{sum-zero_r, product-zero_r}
use Rattle.poly.proofs.Evaluation.{evaluate-times_linear, length-plus}
use Rattle.poly.proofs.Evaluation.{length-scale, plus-elements, scale-elements}
use Rattle.poly.proofs.Entries.{all_append}

module _ {A : Type 0} (F : Operations A) (Element : A → Type 0) (L : Laws A F Element) where
  open F use {zero as 𝟘, one as 𝟙, sum as ◌⊕◌, product as ◌⊗◌}

  infixl 60 ◌⊕◌
  infixl 70 ◌⊗◌
  pub evaluate-vanishing : (roots : List A) (x : A) → evaluate F (vanishing_polynomial F roots) x ≡ vanishing F roots x
  unfolding evaluate vanishing_polynomial vanishing
  evaluate-vanishing [] x = ap (λ (v : A). 𝟙 ⊕ v) (product-zero_r F Element L x) ∙ sum-zero_r F Element L 𝟙
  evaluate-vanishing (a ∷ roots) x =
      evaluate-times_linear F Element L 𝟘 a (vanishing_polynomial F roots) x
      ∙ L.sum_zero ((x ⊕ a) ⊗ evaluate F (vanishing_polynomial F roots) x)
      ∙ ap (λ (v : A). (x ⊕ a) ⊗ v) (evaluate-vanishing roots x)

-- its coefficients below the leading one
pub lower : {A : Type 0} → Operations A → List A → List A
lower F [] = []
lower F (a ∷ roots) = plus F (F.zero ∷ lower F roots) (scale F a (monic F (lower F roots)))

length-monic : {A : Type 0} (F : Operations A) (q : List A) → length (monic F q) ≡ suc (length q)
unfolding monic
length-monic F q = length-append q (F.one ∷ []) ∙ add-one (length q)

as_long : {A : Type 0} (F : Operations A) (a : A) (q : List A) → length (scale F a (monic F q)) ≤ suc (length q)
as_long F a q = le_of_eq (length-scale F a (monic F q) ∙ length-monic F q)

pub length_lower : {A : Type 0} (F : Operations A) (roots : List A) → length (lower F roots) ≡ length roots
unfolding lower
length_lower F [] = refl
length_lower F (a ∷ roots) =
    length-plus F (F.zero ∷ lower F roots) (scale F a (monic F (lower F roots))) (as_long F a (lower F roots))
    ∙ ap suc (length_lower F roots)

-- a leading coefficient that no term is added to
plus_led : {A : Type 0} (F : Operations A) (p q : List A) (c : A) → length q ≤ length p
    → plus F (p ++ (c ∷ [])) q ≡ plus F p q ++ (c ∷ [])
unfolding plus
plus_led F [] [] c h = refl
plus_led F [] (d ∷ q) c h = absurd (omega arith)
plus_led F (e ∷ p) [] c h = refl
plus_led {A = A} F (e ∷ p) (d ∷ q) c h = ap {B = List A} (λ l. F.sum e d ∷ l) (plus_led F p q c (omega arith))

times-monic : {A : Type 0} (F : Operations A) (a : A) (q : List A)
    → times_linear F F.zero a (monic F q) ≡ monic F (plus F (F.zero ∷ q) (scale F a (monic F q)))
unfolding times_linear monic
times-monic F a q = plus_led F (F.zero ∷ q) (scale F a (monic F q)) F.one (as_long F a q)

pub vanishing-monic : {A : Type 0} (F : Operations A) (roots : List A)
    → vanishing_polynomial F roots ≡ monic F (lower F roots)
unfolding vanishing_polynomial lower monic
vanishing-monic F [] = refl
vanishing-monic F (a ∷ roots) =
    ap (times_linear F F.zero a) (vanishing-monic F roots) ∙ times-monic F a (lower F roots)

pub vanishing_leading : {A : Type 0} (F : Operations A) (roots : List A)
    → (length (vanishing_polynomial F roots) ≡ length roots + 1)
    × (get_or (vanishing_polynomial F roots) (length roots) F.zero ≡ F.one)
unfolding monic
vanishing_leading {A = A} F roots = (
  ap length (vanishing-monic F roots) ∙ length-append (lower F roots) (F.one ∷ [])
      ∙ ap (λ (n : ℕ). n + 1) (length_lower F roots),
  ap (λ (l : List A). get_or l (length roots) F.zero) (vanishing-monic F roots)
      ∙ get_or_at (lower F roots) F.one [] F.zero (length roots) (length_lower F roots),
)

module _ {A : Type 0} (F : Operations A) (Element : A → Type 0) (L : Laws A F Element) where
  open F use {zero as 𝟘, one as 𝟙}

  monic-elements : (q : List A) → All Element q → All Element (monic F q)
  unfolding monic
  monic-elements q eq = all_append Element q (𝟙 ∷ []) eq (L.one_element, record {})

  pub lower_elements : (roots : List A) → All Element roots → All Element (lower F roots)
  unfolding lower
  lower_elements [] er = record {}
  lower_elements (a ∷ roots) er =
      plus-elements F Element L (𝟘 ∷ lower F roots) (scale F a (monic F (lower F roots)))
      (L.zero_element, lower_elements roots er.1)
      (scale-elements F Element L a (monic F (lower F roots)) er.0
      (monic-elements (lower F roots) (lower_elements roots er.1)))
