-- Each turn of the loop prints the line that comes next in the order.
-- Assumes nothing.
use Rattle.outcome_lines.proofs.Several.{Printing}
use Rattle.outcome_lines.proofs.numbered_lines.Given as goal

abbrev pub invariant-loop-k : goal.invariant-loop-k
invariant-loop-k g l = Printing l.entries l.initial.out l.out l.k-index
