-- Division by a monic polynomial: p = remainder + (X^m + q) · quotient, and how the two carry the degree of p,
-- both ways. Assumes nothing.
use mathlib.Core.Path.{◌≡◌, refl, sym, ap, ap₂, ◌∙◌, subst}
use mathlib.Core.List.{List, [], ◌∷◌}
use Prim.Native.Nat.{ℕ, zero, suc, ◌+◌, ◌≤◌}
use native.Mathlib.Nat.{le_refl, le_of_eq, add-zero, add-suc}
use native.Mathlib.Omega.{arith}
use lib.ListN.{length, drop, replicate, length-replicate, drop_of_length-le}
use Rattle.poly.specs.Carrier.{Operations, Laws}
use Rattle.poly.specs.Polynomial.{All, Zeros, evaluate, plus, scale}
use Rattle.poly.specs.Rows.{monic, but_last, last, remainder_by, quotient_by}
use Rattle.poly.proofs.Sums.{sum-zero_r, sum_cancel, product-zero_r}
use Rattle.poly.proofs.Sums.{product-zero_l, product_left_comm, distributive_l}
use Rattle.poly.proofs.Evaluation.{evaluate-plus, evaluate-scale, evaluate_zeros}
use Rattle.poly.proofs.Evaluation.{plus-elements, scale-elements, length-plus, length-scale}
use Rattle.poly.proofs.Entries.{all_drop, all_replicate}

-- ---- lengths

length-but_last : {A : Type 0} (c : A) (r : List A) → length (but_last c r) ≡ length r
unfolding but_last
length-but_last c [] = refl
length-but_last c (d ∷ r) = ap suc (length-but_last d r)

-- one step of the division: c + X · r less (its leading coefficient) · (X^m + q)
reduced : {A : Type 0} → Operations A → List A → A → List A → List A
reduced F q c r = plus F (but_last c r) (scale F (last c r) q)

length_reduced : {A : Type 0} (F : Operations A) (q : List A) (c : A) (r : List A) → length r ≡ length q
    → length (reduced F q c r) ≡ length q
unfolding reduced
length_reduced F q c r h =
    length-plus F (but_last c r) (scale F (last c r) q)
    (le_of_eq (length-scale F (last c r) q ∙ sym (length-but_last c r ∙ h)))
    ∙ length-but_last c r ∙ h

pub length-remainder : {A : Type 0} (F : Operations A) (q p : List A) → length (remainder_by F q p) ≡ length q
unfolding remainder_by reduced
length-remainder F q [] = length-replicate (length q) F.zero
length-remainder F q (c ∷ p) = length_reduced F q c (remainder_by F q p) (length-remainder F q p)

module _ {A : Type 0} (F : Operations A) (Element : A → Type 0) (L : Laws A F Element) where
  open F use {zero as 𝟘, one as 𝟙, sum as ◌⊕◌, product as ◌⊗◌}

  infixl 60 ◌⊕◌
  infixl 70 ◌⊗◌
  -- ---- elements

  but_last-elements : (c : A) (r : List A) → Element c → All Element r → All Element (but_last c r)
  unfolding but_last
  but_last-elements c [] ec er = record {}
  but_last-elements c (d ∷ r) ec er = (ec, but_last-elements d r er.0 er.1)

  pub last-element : (c : A) (r : List A) → Element c → All Element r → Element (last c r)
  unfolding last
  last-element c [] ec er = ec
  last-element c (d ∷ r) ec er = last-element d r er.0 er.1

  pub remainder-elements : (q p : List A) → All Element q → All Element p → All Element (remainder_by F q p)
  unfolding remainder_by
  remainder-elements q [] eq ep = all_replicate Element (length q) 𝟘 L.zero_element
  remainder-elements q (c ∷ p) eq ep = step (remainder_by F q p) (remainder-elements q p eq ep.1)
    where
      step : (r : List A) → All Element r → All Element (plus F (but_last c r) (scale F (last c r) q))
      step r er =
          plus-elements F Element L (but_last c r) (scale F (last c r) q) (but_last-elements c r ep.0 er)
          (scale-elements F Element L (last c r) q (last-element c r ep.0 er) eq)

  pub quotient_elements : (q p : List A) → All Element q → All Element p → All Element (quotient_by F q p)
  unfolding quotient_by
  quotient_elements q [] eq ep = record {}
  quotient_elements q (c ∷ p) eq ep =
      (last-element c (remainder_by F q p) ep.0 (remainder-elements q p eq ep.1), quotient_elements q p eq ep.1)

  -- ---- values

  -- x^m · v
  raised : A → ℕ → A → A
  raised x zero v = v
  raised x (suc m) v = x ⊗ raised x m v

  evaluate-last : (c : A) (r : List A) (x : A)
      → evaluate F (c ∷ r) x ≡ evaluate F (but_last c r) x ⊕ raised x (length r) (last c r)
  unfolding evaluate but_last last raised
  evaluate-last c [] x =
      ap (λ (v : A). c ⊕ v) (product-zero_r F Element L x) ∙ L.sum_commutative c 𝟘
  evaluate-last c (d ∷ r) x =
      ap (λ (v : A). c ⊕ x ⊗ v) (evaluate-last d r x)
      ∙ ap (λ (v : A). c ⊕ v) (L.distributive x (evaluate F (but_last d r) x) (raised x (length r) (last d r)))
      ∙ sym (L.sum_associative c (x ⊗ evaluate F (but_last d r) x) (x ⊗ raised x (length r) (last d r)))

  monic_step : (c x m e r v : A) → m ⊗ v ≡ e ⊗ v ⊕ r → (c ⊕ x ⊗ m) ⊗ v ≡ (c ⊕ x ⊗ e) ⊗ v ⊕ x ⊗ r
  monic_step c x m e r v h =
      distributive_l F Element L c (x ⊗ m) v
      ∙ ap (λ (s : A). c ⊗ v ⊕ s)
      (L.product_associative x m v ∙ ap (λ (s : A). x ⊗ s) h ∙ L.distributive x (e ⊗ v) r
      ∙ ap (λ (s : A). s ⊕ x ⊗ r) (sym (L.product_associative x e v)))
      ∙ sym (L.sum_associative (c ⊗ v) ((x ⊗ e) ⊗ v) (x ⊗ r))
      ∙ ap (λ (s : A). s ⊕ x ⊗ r) (sym (distributive_l F Element L c (x ⊗ e) v))

  -- the value of X^m + q times v
  evaluate-monic : (q : List A) (x v : A) → Element v
      → evaluate F (monic F q) x ⊗ v ≡ evaluate F q x ⊗ v ⊕ raised x (length q) v
  unfolding evaluate monic raised
  evaluate-monic [] x v ev =
      ap (λ (s : A). s ⊗ v) (ap (λ (s : A). 𝟙 ⊕ s) (product-zero_r F Element L x) ∙ sum-zero_r F Element L 𝟙)
      ∙ L.one_neutral v ev ∙ sym (L.sum_zero v) ∙ ap (λ (s : A). s ⊕ v) (sym (product-zero_l F Element L v))
  evaluate-monic (c ∷ q) x v ev =
      monic_step c x (evaluate F (monic F q) x) (evaluate F q x) (raised x (length q) v) v (evaluate-monic q x v ev)

  -- with s and e the values of but_last c r and q, t the leading coefficient, m that of X^m + q and
  -- k of the quotient so far
  division_step : (s t e m k x w : A) → m ⊗ t ≡ e ⊗ t ⊕ w
      → (s ⊕ w) ⊕ m ⊗ (x ⊗ k) ≡ (s ⊕ t ⊗ e) ⊕ m ⊗ (t ⊕ x ⊗ k)
  division_step s t e m k x w h =
      sym
      (ap (λ (v : A). (s ⊕ t ⊗ e) ⊕ v) (L.distributive m t (x ⊗ k))
      ∙ sym (L.sum_associative (s ⊕ t ⊗ e) (m ⊗ t) (m ⊗ (x ⊗ k)))
      ∙ ap (λ (v : A). v ⊕ m ⊗ (x ⊗ k)) cancelled)
    where
      cancelled : (s ⊕ t ⊗ e) ⊕ m ⊗ t ≡ s ⊕ w
      cancelled =
          L.sum_associative s (t ⊗ e) (m ⊗ t)
          ∙ ap (λ (v : A). s ⊕ v)
          (ap₂ ◌⊕◌ (L.product_commutative t e) h ∙ sum_cancel F Element L (e ⊗ t) w)

  horner : (c : A) (r : List A) (x : A) → c ⊕ x ⊗ evaluate F r x ≡ evaluate F (c ∷ r) x
  unfolding evaluate
  horner c r x = refl

  division_cons : (q : List A) (c : A) (r : List A) (x v k : A) → length r ≡ length q → Element (last c r)
      → v ≡ evaluate F r x ⊕ evaluate F (monic F q) x ⊗ k
      → c ⊕ x ⊗ v ≡ evaluate F (reduced F q c r) x ⊕ evaluate F (monic F q) x ⊗ (last c r ⊕ x ⊗ k)
  unfolding reduced
  division_cons q c r x v k h et ih =
      ap (λ (s : A). c ⊕ x ⊗ s) ih
      ∙ ap (λ (s : A). c ⊕ s)
      (L.distributive x (evaluate F r x) (m ⊗ k)
      ∙ ap (λ (s : A). x ⊗ evaluate F r x ⊕ s) (product_left_comm F Element L x m k))
      ∙ sym (L.sum_associative c (x ⊗ evaluate F r x) (m ⊗ (x ⊗ k)))
      ∙ ap (λ (s : A). s ⊕ m ⊗ (x ⊗ k)) (horner c r x ∙ evaluate-last c r x)
      ∙ division_step (evaluate F (but_last c r) x) t (evaluate F q x) m k x (raised x (length r) t)
      (evaluate-monic q x t et ∙ ap (λ (n : ℕ). evaluate F q x ⊗ t ⊕ raised x n t) (sym h))
      ∙ ap (λ (s : A). s ⊕ m ⊗ (t ⊕ x ⊗ k))
      (ap (λ (s : A). evaluate F (but_last c r) x ⊕ s) (sym (evaluate-scale F Element L t q x))
      ∙ sym (evaluate-plus F Element L (but_last c r) (scale F t q) x))
    where
      m : A
      m = evaluate F (monic F q) x

      t : A
      t = last c r

  -- p(x) = remainder(x) + (X^m + q)(x) · quotient(x)
  pub division : (q p : List A) (x : A) → All Element q → All Element p
      → evaluate F p x ≡ evaluate F (remainder_by F q p) x ⊕ evaluate F (monic F q) x ⊗ evaluate F (quotient_by F q p) x
  unfolding evaluate remainder_by quotient_by reduced
  division q [] x eq ep =
      sym
      (ap₂ ◌⊕◌ (evaluate_zeros F Element L (replicate (length q) 𝟘) x (all_replicate (λ c. c ≡ 𝟘) (length q) 𝟘 refl))
      (product-zero_r F Element L (evaluate F (monic F q) x))
      ∙ L.sum_zero 𝟘)
  division q (c ∷ p) x eq ep =
      division_cons q c (remainder_by F q p) x (evaluate F p x) (evaluate F (quotient_by F q p) x)
      (length-remainder F q p)
      (last-element c (remainder_by F q p) ep.0 (remainder-elements q p eq ep.1)) (division q p x eq ep.1)

  -- ---- degrees: Zeros (drop n p) says that the coefficients from n on are zero

  zeros_scale : (t : A) (q : List A) → t ≡ 𝟘 → Zeros F (scale F t q)
  unfolding scale
  zeros_scale t [] e = record {}
  zeros_scale t (c ∷ q) e = (ap (λ (s : A). s ⊗ c) e ∙ product-zero_l F Element L c, zeros_scale t q e)

  plus_zeros : (p q : List A) → length q ≤ length p → Zeros F q → plus F p q ≡ p
  unfolding plus
  plus_zeros [] [] h z = refl
  plus_zeros [] (d ∷ q) h z = absurd (omega arith)
  plus_zeros (c ∷ p) [] h z = refl
  plus_zeros (c ∷ p) (d ∷ q) h z =
      ap₂ (λ (a : A) (s : List A). a ∷ s) (ap (λ (s : A). c ⊕ s) z.0 ∙ sum-zero_r F Element L c)
      (plus_zeros p q (omega arith) z.1)

  -- where the leading coefficient is zero nothing is taken off
  reduced_same : (q : List A) (c : A) (r : List A) → length r ≡ length q → last c r ≡ 𝟘 → reduced F q c r ≡ but_last c r
  unfolding reduced
  reduced_same q c r h e =
      plus_zeros (but_last c r) (scale F (last c r) q)
      (le_of_eq (length-scale F (last c r) q ∙ sym (length-but_last c r ∙ h))) (zeros_scale (last c r) q e)

  zeros_parted : (i : ℕ) (c : A) (r : List A) → i ≤ length r → Zeros F (drop i (c ∷ r))
      → (last c r ≡ 𝟘) × Zeros F (drop i (but_last c r))
  unfolding last but_last
  zeros_parted zero c [] h z = (z.0, record {})
  zeros_parted (suc i) c [] h z = absurd (omega arith)
  zeros_parted zero c (d ∷ r) h z =
      let rest = zeros_parted zero d r (omega arith) z.1 in
      (rest.0, (z.0, rest.1))
  zeros_parted (suc i) c (d ∷ r) h z = zeros_parted i d r (omega arith) z

  zeros_joined : (i : ℕ) (c : A) (r : List A) → last c r ≡ 𝟘 → Zeros F (drop i (but_last c r)) → Zeros F (drop i (c ∷ r))
  unfolding last but_last
  zeros_joined zero c [] e z = (e, record {})
  zeros_joined (suc zero) c [] e z = record {}
  zeros_joined (suc (suc i)) c [] e z = record {}
  zeros_joined zero c (d ∷ r) e z = (z.0, zeros_joined zero d r e z.1)
  zeros_joined (suc i) c (d ∷ r) e z = zeros_joined i d r e z

  -- p with no coefficient from i on, i at most the degree of the divisor: neither has the remainder,
  -- and the quotient is zero
  Within : List A → List A → ℕ → Type 0
  Within q p i = Zeros F (drop i (remainder_by F q p)) × Zeros F (quotient_by F q p)

  within_cons : (q : List A) (c : A) (p : List A) (i : ℕ) → i ≤ length q → Zeros F (drop i (c ∷ remainder_by F q p))
      → Zeros F (quotient_by F q p) → Within q (c ∷ p) i
  unfolding Within remainder_by quotient_by reduced
  within_cons q c p i h zr zq =
      let parted = zeros_parted i c (remainder_by F q p) (omega (arith, length-remainder F q p)) zr in (
        subst (λ (s : List A). Zeros F (drop i s))
            (sym (reduced_same q c (remainder_by F q p) (length-remainder F q p) parted.0)) parted.1,
        (parted.0, zq),
      )

  within : (q p : List A) (i : ℕ) → i ≤ length q → Zeros F (drop i p) → Within q p i
  unfolding Within remainder_by quotient_by
  within q [] i h z =
      (all_drop (λ c. c ≡ 𝟘) i (replicate (length q) 𝟘) (all_replicate (λ c. c ≡ 𝟘) (length q) 𝟘 refl), record {})
  within q (c ∷ p) zero h z =
      let rest = within q p zero h z.1 in
      within_cons q c p zero h (z.0, rest.0) rest.1
  within q (c ∷ p) (suc i) h z =
      let rest = within q p i (omega arith) z in
      within_cons q c p (suc i) h rest.0 rest.1

  -- conversely, where the quotient is zero, p ends where its remainder does
  ends_with_remainder : (q p : List A) (i : ℕ) → Zeros F (quotient_by F q p) → Zeros F (drop i (remainder_by F q p))
      → Zeros F (drop i p)
  unfolding remainder_by quotient_by reduced
  ends_with_remainder q [] zero zq zr = record {}
  ends_with_remainder q [] (suc i) zq zr = record {}
  ends_with_remainder q (c ∷ p) zero zq zr =
      let joined = zeros_joined zero c (remainder_by F q p) zq.0
      (subst (λ (s : List A). Zeros F s) (reduced_same q c (remainder_by F q p) (length-remainder F q p) zq.0) zr) in
      (joined.0, ends_with_remainder q p zero zq.1 joined.1)
  ends_with_remainder q (c ∷ p) (suc i) zq zr =
      ends_with_remainder q p i zq.1
      (zeros_joined (suc i) c (remainder_by F q p) zq.0 (subst (λ (s : List A). Zeros F (drop (suc i) s))
      (reduced_same q c (remainder_by F q p) (length-remainder F q p) zq.0) zr))

  -- zero leaves zero, and conversely
  pub zeros_divided : (q p : List A) → Zeros F p → Zeros F (remainder_by F q p) × Zeros F (quotient_by F q p)
  unfolding Within
  zeros_divided q p z = within q p zero (omega arith) z

  pub zeros_of_divided : (q p : List A) → Zeros F (remainder_by F q p) → Zeros F (quotient_by F q p) → Zeros F p
  zeros_of_divided q p zr zq = ends_with_remainder q p zero zq zr

  -- no coefficient of p from m + j on: none of the quotient from j on, and conversely
  pub quotient_degree : (q p : List A) (j : ℕ) → Zeros F (drop (length q + j) p) → Zeros F (drop j (quotient_by F q p))
  unfolding Within quotient_by
  quotient_degree q p zero z =
      (within q p (length q) (le_refl (length q)) (subst (λ (n : ℕ). Zeros F (drop n p)) (add-zero (length q)) z)).1
  quotient_degree q [] (suc j) z = record {}
  quotient_degree q (c ∷ p) (suc j) z =
      quotient_degree q p j (subst (λ (n : ℕ). Zeros F (drop n (c ∷ p))) (add-suc (length q) j) z)

  pub degree_of_quotient : (q p : List A) (j : ℕ) → Zeros F (drop j (quotient_by F q p))
      → Zeros F (drop (length q + j) p)
  unfolding quotient_by
  degree_of_quotient q p zero z =
      subst (λ (n : ℕ). Zeros F (drop n p)) (sym (add-zero (length q)))
      (ends_with_remainder q p (length q) z
      (subst (λ (s : List A). Zeros F s)
      (sym (drop_of_length-le (remainder_by F q p) (le_of_eq (length-remainder F q p)))) (record {})))
  degree_of_quotient q [] (suc j) z = all_drop (λ c. c ≡ 𝟘) (length q + suc j) [] (record {})
  degree_of_quotient q (c ∷ p) (suc j) z =
      subst (λ (n : ℕ). Zeros F (drop n (c ∷ p))) (sym (add-suc (length q) j)) (degree_of_quotient q p j z)
