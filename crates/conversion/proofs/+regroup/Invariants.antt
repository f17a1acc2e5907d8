-- `conversion::regroup` meets its contract. The measure is the number of levels above. Quarters, then each half by
-- itself. Assumes nothing.
use Rattle.conversion.proofs.+regroup.Given as goal

abbrev pub decreases-regroup : goal.decreases-regroup
decreases-regroup l = l.upper
