-- From round to round of a query: what is known before a round, and what its check adds. Assumes nothing.
use mathlib.Core.Path.{◌≡◌, sym, ap, ◌∙◌, subst}
use mathlib.Core.Logic.{◌⊎◌, inl, inr}
use mathlib.Core.Bool.{Bool, true, false}
use Prim.Native.Nat.{ℕ, ◌+◌, ◌^◌, ◌<◌, ◌≤◌}
use native.Mathlib.Nat.{eq-or-lt_of_le}
use native.Mathlib.Numerals.{add-one}
use native.Mathlib.Omega.{arith}
use lib.Dec.{eqb}
use borrow.Author.Tests.{eq-eqb}
use Rattle.std.specs.Prelude.{Some, None}
use Rattle.refusal.proofs.Checks.{equal_of_test}
use Rattle.fri.specs.Run.{Run, rounds_in}
use Rattle.fri.specs.Rounds.{value_computed, value_found, failing_round}
use Rattle.fri.proofs.Rounds.{passing, failing}
use Rattle.round_checks.specs.declared.QueryPoint.{QueryPoint}
use Rattle.round_checks.specs.declared.RoundCheck.{RoundCheck}
use Rattle.round_checks.specs.Judging.{query_point_of, Made}

-- the query is there in layer i, and the rounds before it pass
pub record BeforeRound (run : Run) (j i : ℕ) (here : QueryPoint) : Type 0 where
  pub here_is : here ≡ query_point_of run j i
  pub passed : (n : ℕ) → n < i → value_computed run j n ≡ value_found run j n

module _ {run : Run} {j i : ℕ} {here next : QueryPoint} {check : RoundCheck} {passes : Bool} (before : BeforeRound run j i here)
    (made : j < 2 ^ run.k → here ≡ query_point_of run j i → Made run j i check next) (inside : j < 2 ^ run.k)
    (told : passes ≡ eqb check.computed.0 check.found.0) where
  here_made : Made run j i check next
  here_made = made inside before.here_is

  -- a check whose values differ fails, and is the first that does
  pub fails : i < rounds_in run → passes ≡ false → Some i ≡ failing_round run j
  fails within e =
      sym
      (failing run j i within
      (λ same.
      let equal : check.computed.0 ≡ check.found.0 = here_made.computed ∙ same ∙ sym here_made.found in
      let wrong : true ≡ false = sym (eq-eqb check.computed.0 check.found.0 equal) ∙ sym told ∙ e in
      cc)
      before.passed)

  -- else the query goes on
  pub goes_on : passes ≡ true → BeforeRound run j (i + 1) next
  goes_on e =
      let equal = equal_of_test check.computed.0 check.found.0 (sym told ∙ e) in
      record {
        here_is = here_made.next_is ∙ ap (query_point_of run j) (sym (add-one i));
        passed =
            λ n l.
            let most : n ≤ i = omega (arith, add-one i) in
            here_or_before n (eq-or-lt_of_le most) (sym here_made.computed ∙ equal ∙ here_made.found);
      }
    where
      here_or_before : (n : ℕ) → (n ≡ i) ⊎ (n < i) → value_computed run j i ≡ value_found run j i
          → value_computed run j n ≡ value_found run j n
      here_or_before n (inl same) f = subst (λ (m : ℕ). value_computed run j m ≡ value_found run j m) (sym same) f
      here_or_before n (inr earlier) f = before.passed n earlier

-- no round is left
pub all_pass : {run : Run} {j i : ℕ} {here : QueryPoint} → BeforeRound run j i here → rounds_in run ≤ i
    → None ≡ failing_round run j
all_pass {run} {j} before all = sym (passing run j (λ n h. before.passed n (omega (arith, all, h))))
