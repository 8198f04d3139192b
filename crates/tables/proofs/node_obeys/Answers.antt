-- The four tests of a node, each by its own equation.
-- Assumes nothing.
use Rattle.tables.specs.Rules.{node_obeys}
use Rattle.tables.proofs.node_obeys.Goals as goal

pub returns : goal.returns
unfolding node_obeys
returns c = rw (c.left_obeys-left.ensures, c.right_obeys-right.ensures, c.ends_obey-ends.ensures)
