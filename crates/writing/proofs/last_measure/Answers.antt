-- Before node k the measures of all earlier nodes stand in their places, and its children are among them.
-- Assumes nothing.
use Rattle.std.proofs.Common.{arith, rules}
use Rattle.writing.proofs.Measures.{measured_next}
use Rattle.writing.proofs.last_measure.Goals as goal

pub loop-k-preserved : goal.loop-k-preserved
loop-k-preserved c =
    measured_next _ _ _ c.requires.ruled c.loop-k-test.true c.loop-k.measures _ c.loop-k.invariant c.node_measure.ensures
