-- `independence::first_dependent` meets its contract: a place among the first 64 elements is the list's, and where
-- there is none the next element is dependent. Assumes nothing.
use mathlib.Core.Path.{sym}
use Rattle.coset.proofs.Dimension.{found_in_prefix}
use Rattle.independence.proofs.first_dependent.Goals as goal

pub returns-in-Some : goal.returns-in-Some
returns-in-Some c =
    let basis = c.args.basis.now in
    sym (found_in_prefix 64 basis c.in-Some.place (sym c.in-Some.ensures))
