-- The carriers that polynomials are taken over: fields of characteristic 2, in which a difference is a sum.
use Rattle.std.specs.Prelude.{◌≡◌, ◌≢◌, ℕ}
use Rattle.gf64.specs.Field.{sum, product, inverse}

-- what a carrier computes with
pub record Operations (A : Type 0) : Type 0 where
  pub zero : A
  pub one : A
  pub sum : (a b : A) → A
  pub product : (a b : A) → A
  pub inverse : (a : A) → A

-- sums and products obey their laws on the whole carrier; that one is neutral and that inverses divide
-- is asked of elements alone
pub record Laws (A : Type 0) (F : Operations A) (Element : A → Type 0) : Type 0 where
  pub sum_commutative : (a b : A) → F.sum a b ≡ F.sum b a
  pub sum_associative : (a b c : A) → F.sum (F.sum a b) c ≡ F.sum a (F.sum b c)
  pub sum_zero : (a : A) → F.sum F.zero a ≡ a
  pub sum_self : (a : A) → F.sum a a ≡ F.zero
  pub product_commutative : (a b : A) → F.product a b ≡ F.product b a
  pub product_associative : (a b c : A) → F.product (F.product a b) c ≡ F.product a (F.product b c)
  pub distributive : (a b c : A) → F.product a (F.sum b c) ≡ F.sum (F.product a b) (F.product a c)
  pub zero_element : Element F.zero
  pub one_element : Element F.one
  pub sum_element : (a b : A) → Element a → Element b → Element (F.sum a b)
  pub product_element : (a b : A) → Element a → Element b → Element (F.product a b)
  pub inverse_element : (a : A) → Element a → Element (F.inverse a)
  pub one_not_zero : F.one ≢ F.zero
  pub one_neutral : (a : A) → Element a → F.product F.one a ≡ a
  pub inverts : (a : A) → Element a → a ≢ F.zero → F.product a (F.inverse a) ≡ F.one

-- the field of 2^64 elements
abbrev pub gf64 : Operations ℕ
gf64 = record { zero = 0; one = 1; sum = sum; product = product; inverse = inverse }
