-- `conversion::regroup_back` meets its contract. The measure is the number of levels above. Each half by itself, then
-- quarters back. Assumes nothing.
use Rattle.conversion.proofs.+regroup_back.Given as goal

abbrev pub decreases-regroup_back : goal.decreases-regroup_back
decreases-regroup_back l = l.upper
