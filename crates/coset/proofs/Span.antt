-- An additive map whose kernel is 0 and b takes b out of a span: a lies in the span of b and others exactly when its
-- image lies in the span of their images. So the first dependent place can be found by elimination. Assumes nothing.
use mathlib.Core.Path.{◌≡◌, refl, sym, ap, ap₂, ◌∙◌}
use mathlib.Core.Bool.{Bool, true, false, cond, ◌||◌}
use mathlib.Core.List.{List, [], ◌∷◌, ◌++◌, map, map-append}
use Prim.Native.Nat.{ℕ, suc}
use lib.Dec.{eqb}
use lib.Bits.{bit_xor, xor_comm}
use Rattle.gf64.proofs.Xor.{xor_assoc}
use Rattle.gf64.proofs.Additive.{Additive}
use Rattle.std.specs.Prelude.{Option, Some, None}
use Rattle.poly.specs.Polynomial.{All}
use Rattle.poly.proofs.Entries.{all_append}
use Rattle.coset.specs.Span.{in_span, first_dependent_after}
use native.Mathlib.Omega.{arith}

-- among the numbers of which P holds, f sends to zero exactly 0 and b
abbrev pub Kernel : (ℕ → Type 0) → (ℕ → ℕ) → ℕ → Type 0
Kernel P f b = (a : ℕ) → P a → eqb (f a) 0 ≡ (eqb a 0 || eqb (bit_xor a b) 0)

-- P holds of sums
abbrev pub Closed : (ℕ → Type 0) → Type 0
Closed P = (a b : ℕ) → P a → P b → P (bit_xor a b)

pub at_not_absent : (place : ℕ) → Some place ≡ None → ⊥
at_not_absent place e = let impossible : ◌≡◌ {A = ℕ} 0 1 = cc in omega arith

or_swap : (a b c d : Bool) → ((a || b) || (c || d)) ≡ ((a || c) || (b || d))
or_swap true b c d = refl
or_swap false true true d = refl
or_swap false true false d = refl
or_swap false false true d = refl
or_swap false false false d = refl

module _ (P : ℕ → Type 0) (closed : Closed P) (f : ℕ → ℕ) (b : ℕ) (additive : Additive f) (kernel : Kernel P f b) where
  pub span_image : (elements : List ℕ) (a : ℕ) → All P elements → P a
      → in_span (map f elements) (f a) ≡ in_span (b ∷ elements) a
  unfolding in_span
  span_image [] a pe pa = kernel a pa
  span_image (c ∷ elements) a pe pa =
      ap₂ ◌||◌ (span_image elements a pe.1 pa)
      (ap (in_span (map f elements)) (sym (additive a c))
      ∙ span_image elements (bit_xor a c) pe.1 (closed a c pa pe.0))
      ∙ or_swap (in_span elements a) (in_span elements (bit_xor a b)) (in_span elements (bit_xor a c))
      (in_span elements (bit_xor (bit_xor a c) b))
      ∙ ap (λ (s : ℕ). (in_span elements a || in_span elements (bit_xor a c))
      || (in_span elements (bit_xor a b) || in_span elements s)) exchanged
    where
      exchanged : bit_xor (bit_xor a c) b ≡ bit_xor (bit_xor a b) c
      exchanged = xor_assoc a c b ∙ ap (bit_xor a) (xor_comm c b) ∙ sym (xor_assoc a b c)

  pub first_image : (earlier elements : List ℕ) (place : ℕ) → All P earlier → All P elements
      → first_dependent_after (b ∷ earlier) elements place ≡ first_dependent_after (map f earlier) (map f elements) place
  unfolding first_dependent_after
  first_image earlier [] place pe ps = refl
  first_image earlier (c ∷ elements) place pe ps =
      ap₂ (λ (t : Bool) (rest : Option ℕ). cond t (Some place) rest) (sym (span_image earlier c pe ps.0))
      (first_image (earlier ++ (c ∷ [])) elements (suc place)
      (all_append P earlier (c ∷ []) pe (ps.0, record {})) ps.1
      ∙ ap (λ (l : List ℕ). first_dependent_after l (map f elements) (suc place)) (map-append f earlier (c ∷ [])))
