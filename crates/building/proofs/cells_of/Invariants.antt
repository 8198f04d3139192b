-- The front of the array is the numbers of the first k nodes.
-- Assumes nothing.
use Rattle.building.proofs.Laid.{Laid}
use Rattle.building.proofs.cells_of.Given as goal

abbrev pub invariant-loop-k : goal.invariant-loop-k
invariant-loop-k l = Laid l.node-items l.k l.cells
