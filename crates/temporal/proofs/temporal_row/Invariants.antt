-- The loop's invariant is `SoFar`: the first i places are filled, and the edges and what slides along are those of the place before.
-- Assumes nothing.
use Rattle.temporal.proofs.Row.{SoFar}
use Rattle.temporal.proofs.temporal_row.Given as goal

abbrev pub invariant-loop-i : goal.invariant-loop-i
invariant-loop-i l = SoFar l.e l.window l.times l.left l.right l.row l.initial.work l.work l.extremum l.first l.end l.i
