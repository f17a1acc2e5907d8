-- Run i of a list of whole runs, as a loop scales it. Assumes nothing.
use mathlib.Core.Path.{◌≡◌, sym, ap, ◌∙◌, subst}
use mathlib.Core.List.{List}
use Prim.Native.Nat.{ℕ, ◌+◌, ◌*◌, ◌/◌, ◌%◌, ◌^◌, ◌≤◌, ◌<◌}
use native.Mathlib.Nat.{mul-div_cancel, mul-mod_left, mul-le-mul_right, suc-mul}
use native.Mathlib.Numerals.{add-one}
use native.Mathlib.Omega.{arith}
use lib.Pow.{pow_pos, pow-add}
use lib.ListN.{length}
use borrow.Rule.Slice.PartMut.{mid_of, put_mid}
use Rattle.gf64.specs.Field.{product, power}
use Rattle.gf64.proofs.Ring.{product_comm}
use Rattle.gf64.proofs.Power.{power-suc}
use Rattle.poly.specs.Carrier.{gf64}
use Rattle.poly.specs.Polynomial.{scale}
use Rattle.poly.proofs.Filling.{filled}
use Rattle.transform.specs.Transform.{scaled_runs}
use Rattle.transform.proofs.Scaling.{runs_next, runs_end}

-- the next power of r
pub power_next : (p r i : ℕ) → p ≡ power r i → product p r ≡ power r (i + 1)
power_next p r i e =
    ap (λ (q : ℕ). product q r) e ∙ product_comm (power r i) r ∙ sym (power-suc r i) ∙ ap (power r) (sym (add-one i))

module _ (lower upper r i run : ℕ) (s now : List ℕ) (counted : length s ≡ 2 ^ (upper + lower)) (long : run ≡ 2 ^ lower)
    (inv : now ≡ filled (scaled_runs lower r s) s (i * run)) where
  whole : length s ≡ length s / run * run
  whole =
      subst (λ (n : ℕ). length s ≡ length s / n * n) (sym long)
      (product_of ∙ ap (λ (n : ℕ). n * 2 ^ lower)
      (sym (ap (λ (n : ℕ). n / 2 ^ lower) product_of ∙ mul-div_cancel (2 ^ upper) (pow_pos lower))))
    where
      product_of : length s ≡ 2 ^ upper * 2 ^ lower
      product_of = counted ∙ pow-add 2 upper lower

  one_more : i * run + run ≡ (i + 1) * run
  one_more = sym (ap (λ (m : ℕ). m * run) (add-one i) ∙ suc-mul i run)

  pub next : (changed : List ℕ) (n : ℕ) → i < length s / run → n ≡ run
      → changed ≡ scale gf64 (power r i) (mid_of (i * run) n now)
      → put_mid (i * run) n now changed ≡ filled (scaled_runs lower r s) s ((i + 1) * run)
  next changed n h m e =
      runs_next lower r s now changed (i * run) ((i + 1) * run) n (sym one_more ∙ ap (λ (k : ℕ). i * run + k) long)
      (m ∙ long) (subst (λ (k : ℕ). i * run % k ≡ 0) long (mul-mod_left i run))
      (subst (λ (k : ℕ). (i + 1) * run ≤ k) (sym whole) (mul-le-mul_right run (omega arith))) inv
      (e ∙ ap (λ (j : ℕ). scale gf64 (power r j) (mid_of (i * run) n now))
      (sym (subst (λ (k : ℕ). i * run / k ≡ i) long
      (mul-div_cancel i (subst (λ (k : ℕ). 0 < k) (sym long) (pow_pos lower))))))

  pub end : length s / run ≤ i → now ≡ scaled_runs lower r s
  end h =
      runs_end lower r s now (i * run) (subst (λ (k : ℕ). k ≤ i * run) (sym whole) (mul-le-mul_right run h)) inv
