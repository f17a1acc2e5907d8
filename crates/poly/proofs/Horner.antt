-- Horner's rule from the end of a list to its start, in the field of 2^64 elements. Assumes nothing.
use mathlib.Core.Path.{◌≡◌, refl, sym, ap, ◌∙◌}
use mathlib.Core.List.{List, [], ◌∷◌, reverse, map}
use denote.Ref.{Bor}
use Rattle.field.specs.declared.Element.{Element}
use Rattle.std.specs.List.{fold}
use Rattle.std.proofs.lemmas.List.Sums.{fold-append}
use Rattle.std.proofs.lemmas.Grind.{reverse_onto}
use Prim.Native.Nat.{ℕ}
use Rattle.gf64.specs.Field.{sum, product}
use Rattle.poly.specs.Carrier.{gf64}
use Rattle.poly.specs.Polynomial.{evaluate}

pub horner_fold : (p : List ℕ) (x : ℕ) → evaluate gf64 p x ≡ fold (λ (v c : ℕ). sum c (product x v)) 0 (reverse p)
unfolding evaluate
horner_fold [] x = refl
horner_fold (c ∷ p) x =
    ap (λ (v : ℕ). sum c (product x v)) (horner_fold p x)
    ∙ sym (ap (fold (λ (v c : ℕ). sum c (product x v)) 0) (reverse_onto p c [])
    ∙ fold-append (λ (v c : ℕ). sum c (product x v)) 0 (reverse p) (c ∷ []))

-- one coefficient, as the code adds it
abbrev pub horner : ℕ → Element → Bor ℕ → Element
horner x v c = record { 0 = sum c.now (product x v.0) }

pub folded : (x : ℕ) (items : List (Bor ℕ)) (p : List ℕ) (v : Element) → map (λ (y : Bor ℕ). y.now) items ≡ p
    → (fold (horner x) v items).0 ≡ fold (λ (u c : ℕ). sum c (product x u)) v.0 p
folded x items p v e = all items v ∙ ap (fold (λ (u c : ℕ). sum c (product x u)) v.0) e
  where
    all : (items : List (Bor ℕ)) (v : Element) → (fold (horner x) v items).0
        ≡ fold (λ (u c : ℕ). sum c (product x u)) v.0 (map (λ (y : Bor ℕ). y.now) items)
    all [] v = refl
    all (c ∷ items) v = all items (horner x v c)
