-- The node's pieces one after the other; a child's number is smaller, and that is the measure.
-- Assumes nothing.
use Rattle.writing.proofs.+write_node.Given as goal

abbrev pub decreases-write_node : goal.decreases-write_node
decreases-write_node l = l.k
