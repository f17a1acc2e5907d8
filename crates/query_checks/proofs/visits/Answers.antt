-- `query_checks::visits` meets its contract. Assumes nothing.
use mathlib.Core.Path.{◌≡◌, ◌∙◌}
use mathlib.Core.List.{map}
use Prim.Native.Nat.{ℕ}
use native.Mathlib.Omega.{arith}
use denote.Ref.{Bor}
use Rattle.std.proofs.Common.{rules, tests}
use Rattle.std.proofs.lemmas.Grind.{common_steps}
use Rattle.query_checks.proofs.Found.{seen_by, visited}
use Rattle.query_checks.proofs.visits.Goals as goal

pub returns : goal.returns
returns c =
    let a = c.args in
    let run = c.fold.ensures.runs in
    let items : map (λ (j : Bor ℕ). j.now) run.0.items ≡ a.queries.now = grind (arith, common_steps) in
    run.3 (seen_by a.step a.coset) (λ v b r f h. search (rules, tests)) ∙ visited a.step a.coset run.0.items a.queries.now items
