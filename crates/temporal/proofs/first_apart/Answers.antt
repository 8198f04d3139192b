-- The loop's invariant: no place from i up to j is as far from i.
-- Assumes nothing.
use Rattle.temporal.proofs.Edges.{rises, edge_found}
use Rattle.temporal.proofs.first_apart.Goals as goal

pub overflow_sub-times : goal.overflow_sub-times
overflow_sub-times c = rises c.requires.rising _ _ c.loop-j.invariant.0 c.loop-j-test.true

pub returns-then-apart-times : goal.returns-then-apart-times
returns-then-apart-times c = edge_found c.requires.rising _ _ _ c.loop-j.invariant.0 c.if-apart-times.true c.loop-j.invariant.1
