-- A number below ten is its digit; a longer one is its tenth part, which is smaller, and its last digit.
-- Assumes nothing.
use Rattle.printing.proofs.Output.+number.Given as goal

abbrev pub decreases-number : goal.decreases-number
decreases-number g l = l.n
