-- The rows of a polynomial: p(x) = Σ row_i(x) · q(x)^i, and rows from N on are zero exactly when the coefficients from
-- N · (degree of q) on are. Assumes nothing.
use mathlib.Core.Path.{◌≡◌, refl, sym, ap, ◌∙◌, subst}
use mathlib.Core.List.{List, map}
use Prim.Native.Nat.{ℕ, zero, suc, ◌+◌, ◌*◌}
use native.Mathlib.Nat.{suc-mul, add_comm, zero-mul}
use lib.ListN.{length, drop}
use Rattle.poly.specs.Carrier.{Operations, Laws}
use Rattle.poly.specs.Polynomial.{All, Zeros, evaluate}
use Rattle.poly.specs.Rows.{monic, remainder_by, quotient_by, rows}
use Rattle.poly.proofs.Evaluation.{evaluate_zeros}
use Rattle.poly.proofs.Division.{length-remainder, division, quotient_elements, zeros_divided}
use Rattle.poly.proofs.Division.{zeros_of_divided, quotient_degree, degree_of_quotient}
use Rattle.poly.proofs.Entries.{all_drop}

pub length-rows : {A : Type 0} (F : Operations A) (q : List A) (n : ℕ) (p : List A) → length (rows F q n p) ≡ n
unfolding rows
length-rows F q zero p = refl
length-rows F q (suc n) p = ap suc (length-rows F q n (quotient_by F q p))

-- each row has as many coefficients as q has below the leading one
pub rows_lengths : {A : Type 0} (F : Operations A) (q : List A) (n : ℕ) (p : List A)
    → All (λ row. length row ≡ length q) (rows F q n p)
unfolding rows
rows_lengths F q zero p = record {}
rows_lengths F q (suc n) p = (length-remainder F q p, rows_lengths F q n (quotient_by F q p))

module _ {A : Type 0} (F : Operations A) (Element : A → Type 0) (L : Laws A F Element) where
  open F use {zero as 𝟘, sum as ◌⊕◌, product as ◌⊗◌}

  infixl 60 ◌⊕◌
  infixl 70 ◌⊗◌
  -- n + 1 rows are one row and n rows of the quotient
  pub one_more : (q p : List A) (n : ℕ) → Zeros F (drop (suc n * length q) p)
      → Zeros F (drop (length q + n * length q) p)
  one_more q p n z = subst (λ (k : ℕ). Zeros F (drop k p)) (suc-mul n (length q) ∙ add_comm (n * length q) (length q)) z

  one_less : (q p : List A) (n : ℕ) → Zeros F (drop (length q + n * length q) p) → Zeros F (drop (suc n * length q) p)
  one_less q p n z =
      subst (λ (k : ℕ). Zeros F (drop k p)) (sym (suc-mul n (length q) ∙ add_comm (n * length q) (length q))) z

  none : (q p : List A) → Zeros F (drop (zero * length q) p) → Zeros F p
  none q p z = subst (λ (k : ℕ). Zeros F (drop k p)) (zero-mul (length q)) z

  -- p(x) is the value at q(x) of the polynomial whose coefficients are the rows' values at x
  pub rows-evaluate : (q : List A) (n : ℕ) (p : List A) (x : A) → All Element q → All Element p
      → Zeros F (drop (n * length q) p)
      → evaluate F p x ≡ evaluate F (map (λ row. evaluate F row x) (rows F q n p)) (evaluate F (monic F q) x)
  unfolding rows evaluate
  rows-evaluate q zero p x eq ep z = evaluate_zeros F Element L p x (none q p z)
  rows-evaluate q (suc n) p x eq ep z =
      division F Element L q p x eq ep
      ∙ ap (λ (v : A). evaluate F (remainder_by F q p) x ⊕ evaluate F (monic F q) x ⊗ v)
      (rows-evaluate q n (quotient_by F q p) x eq (quotient_elements F Element L q p eq ep)
      (quotient_degree F Element L q p (n * length q) (one_more q p n z)))

  -- ---- degrees

  rows_zeros : (q : List A) (n : ℕ) (p : List A) → Zeros F p → All (Zeros F) (rows F q n p)
  unfolding rows
  rows_zeros q zero p z = record {}
  rows_zeros q (suc n) p z =
      let both = zeros_divided F Element L q p z in
      (both.0, rows_zeros q n (quotient_by F q p) both.1)

  pub rows_degree : (N : ℕ) (q : List A) (n : ℕ) (p : List A) → Zeros F (drop (N * length q) p)
      → All (Zeros F) (drop N (rows F q n p))
  unfolding rows
  rows_degree zero q n p z = rows_zeros q n p (none q p z)
  rows_degree (suc N) q zero p z = record {}
  rows_degree (suc N) q (suc n) p z =
      rows_degree N q n (quotient_by F q p) (quotient_degree F Element L q p (N * length q) (one_more q p N z))

  zeros_of_rows : (q : List A) (n : ℕ) (p : List A) → Zeros F (drop (n * length q) p) → All (Zeros F) (rows F q n p)
      → Zeros F p
  unfolding rows
  zeros_of_rows q zero p whole z = none q p whole
  zeros_of_rows q (suc n) p whole z =
      zeros_of_divided F Element L q p z.0
      (zeros_of_rows q n (quotient_by F q p)
      (quotient_degree F Element L q p (n * length q) (one_more q p n whole)) z.1)

  pub degree_of_rows : (N : ℕ) (q : List A) (n : ℕ) (p : List A) → Zeros F (drop (n * length q) p)
      → All (Zeros F) (drop N (rows F q n p)) → Zeros F (drop (N * length q) p)
  unfolding rows
  degree_of_rows zero q n p whole z =
      subst (λ (k : ℕ). Zeros F (drop k p)) (sym (zero-mul (length q))) (zeros_of_rows q n p whole z)
  degree_of_rows (suc N) q zero p whole z = all_drop (λ c. c ≡ 𝟘) (suc N * length q) p (none q p whole)
  degree_of_rows (suc N) q (suc n) p whole z =
      one_less q p N
      (degree_of_quotient F Element L q p (N * length q)
      (degree_of_rows N q n (quotient_by F q p)
      (quotient_degree F Element L q p (n * length q) (one_more q p n whole)) z))
