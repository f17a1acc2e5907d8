-- `query_checks::first_outside` meets its contract. Assumes nothing.
use Rattle.std.proofs.Common.{rules, tests, leb}
use Rattle.std.proofs.lemmas.Iterator.{YieldsList-from_slice}
use Rattle.std.proofs.lemmas.Iterator.Search.{position_from_yields_List}
use Rattle.query_checks.proofs.Found.{outside_found}
use Rattle.query_checks.proofs.first_outside.Goals as goal

pub returns : goal.returns
returns c =
    outside_found c.args.size c.args.queries.now c.position.result
    (position_from_yields_List (λ j. leb c.args.size j) _ _ c.position.result c.position.ensures.ran
    (YieldsList-from_slice _ c.iter.ensures.rest) (λ x b q k. search (rules, tests)))
