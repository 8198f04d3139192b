-- The loop's invariant is the contract for the first i places; the child's row stands before them, so it is as it was, and its values can be negated.
-- Assumes nothing.
use mathlib.Core.Path.{◌≡◌}
use Prim.Native.Nat.{◌*◌}
use Rattle.lists.specs.Fill.{fill}
use Rattle.points.specs.Point.{signed}
use Rattle.rows.specs.Cells.{cell}
use Rattle.rows.proofs.signed_row.Given as goal

abbrev pub invariant-loop-i : goal.invariant-loop-i
invariant-loop-i l = l.work ≡ fill (l.row * l.rows) l.i (λ j. signed l.affirmed (cell l.initial.work l.rows l.child j)) l.initial.work
