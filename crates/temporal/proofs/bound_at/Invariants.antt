-- The loop's invariant: `best` and `run` are what the places from i up to j give. Before the window there is nothing, after it nothing is added, and
-- where the carried value is beaten nothing later counts.
-- Assumes nothing.
use mathlib.Core.Path.{◌≡◌}
use Rattle.rows.specs.Cells.{cell}
use Rattle.logic.specs.Formula.{dual}
use Rattle.sliding.specs.Run.{over}
use Rattle.temporal.proofs.Along.{best}
use Rattle.temporal.proofs.bound_at.Given as goal

abbrev pub invariant-loop-j : goal.invariant-loop-j
invariant-loop-j l =
    (l.best ≡ best l.first l.end l.e (cell l.cells l.rows l.left) (cell l.cells l.rows l.right) l.i l.j)
    × (l.run ≡ over (dual l.e) (cell l.cells l.rows l.left) l.i l.j)
