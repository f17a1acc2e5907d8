-- Sums and products of a carrier: the laws that follow from `Laws`. Assumes nothing.
use mathlib.Core.Path.{◌≡◌, sym, ap, ap₂, ◌∙◌}
use mathlib.Core.Logic.{◌≢◌}
use Rattle.poly.specs.Carrier.{Operations, Laws}

module _ {A : Type 0} (F : Operations A) (Element : A → Type 0) (L : Laws A F Element) where
  open F use {zero as 𝟘, sum as ◌⊕◌, product as ◌⊗◌}

  infixl 60 ◌⊕◌
  infixl 70 ◌⊗◌
  pub sum-zero_r : (a : A) → a ⊕ 𝟘 ≡ a
  sum-zero_r a = L.sum_commutative a 𝟘 ∙ L.sum_zero a

  pub sum_cancel : (a b : A) → a ⊕ (a ⊕ b) ≡ b
  sum_cancel a b = sym (L.sum_associative a a b) ∙ ap (λ (s : A). s ⊕ b) (L.sum_self a) ∙ L.sum_zero b

  pub sum_left_comm : (a b c : A) → a ⊕ (b ⊕ c) ≡ b ⊕ (a ⊕ c)
  sum_left_comm a b c =
      sym (L.sum_associative a b c) ∙ ap (λ (s : A). s ⊕ c) (L.sum_commutative a b) ∙ L.sum_associative b a c

  -- the sum of two sums, the inner terms exchanged
  pub sum_swap : (a b c d : A) → (a ⊕ b) ⊕ (c ⊕ d) ≡ (a ⊕ c) ⊕ (b ⊕ d)
  sum_swap a b c d =
      L.sum_associative a b (c ⊕ d) ∙ ap (λ (s : A). a ⊕ s) (sum_left_comm b c d)
      ∙ sym (L.sum_associative a c (b ⊕ d))

  pub equal_of_sum : (a b : A) → a ⊕ b ≡ 𝟘 → a ≡ b
  equal_of_sum a b e = sym (sum-zero_r a) ∙ ap (λ (s : A). a ⊕ s) (sym e) ∙ sum_cancel a b

  pub product_left_comm : (a b c : A) → a ⊗ (b ⊗ c) ≡ b ⊗ (a ⊗ c)
  product_left_comm a b c =
      sym (L.product_associative a b c) ∙ ap (λ (s : A). s ⊗ c) (L.product_commutative a b)
      ∙ L.product_associative b a c

  pub product-zero_r : (a : A) → a ⊗ 𝟘 ≡ 𝟘
  product-zero_r a =
      sym (sum_cancel (a ⊗ 𝟘) (a ⊗ 𝟘))
      ∙ ap (λ (s : A). a ⊗ 𝟘 ⊕ s) (sym (L.distributive a 𝟘 𝟘) ∙ ap (λ (s : A). a ⊗ s) (L.sum_zero 𝟘))
      ∙ L.sum_self (a ⊗ 𝟘)

  pub product-zero_l : (a : A) → 𝟘 ⊗ a ≡ 𝟘
  product-zero_l a = L.product_commutative 𝟘 a ∙ product-zero_r a

  pub distributive_l : (a b c : A) → (a ⊕ b) ⊗ c ≡ a ⊗ c ⊕ b ⊗ c
  distributive_l a b c =
      L.product_commutative (a ⊕ b) c ∙ L.distributive c a b
      ∙ ap₂ ◌⊕◌ (L.product_commutative c a) (L.product_commutative c b)

  pub divides : (a b : A) → Element a → a ≢ 𝟘 → Element b → a ⊗ (F.inverse a ⊗ b) ≡ b
  divides a b ea nz eb =
      sym (L.product_associative a (F.inverse a) b) ∙ ap (λ (s : A). s ⊗ b) (L.inverts a ea nz) ∙ L.one_neutral b eb

  pub no_zero_divisors : (a b : A) → Element a → a ≢ 𝟘 → Element b → a ⊗ b ≡ 𝟘 → b ≡ 𝟘
  no_zero_divisors a b ea nz eb e =
      sym (divides a b ea nz eb) ∙ product_left_comm a (F.inverse a) b ∙ ap (λ (s : A). F.inverse a ⊗ s) e
      ∙ product-zero_r (F.inverse a)

  -- a difference of unequal elements divides
  pub sum_not_zero : (a b : A) → a ≢ b → a ⊕ b ≢ 𝟘
  sum_not_zero a b ne e = ne (equal_of_sum a b e)
