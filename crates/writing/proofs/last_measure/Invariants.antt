-- Before node k the measures of all earlier nodes stand in their places, and its children are among them.
-- Assumes nothing.
use Rattle.tables.specs.Tree.{node_at}
use Rattle.writing.proofs.Measures.{Measured}
use Rattle.writing.proofs.last_measure.Given as goal

abbrev pub invariant-loop-k : goal.invariant-loop-k
invariant-loop-k l = Measured (node_at l.table.nodes) l.table.count l.k l.measures
