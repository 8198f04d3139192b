-- The loop's invariant is the contract for the first i places; both children's rows stand before them, so they are as they were.
-- Assumes nothing.
use mathlib.Core.Path.{◌≡◌}
use Prim.Native.Nat.{◌*◌}
use Rattle.lists.specs.Fill.{fill}
use Rattle.logic.specs.Reading.{margin_extreme}
use Rattle.rows.specs.Cells.{cell}
use Rattle.rows.proofs.joined_row.Given as goal

abbrev pub invariant-loop-i : goal.invariant-loop-i
invariant-loop-i l = l.work ≡ fill (l.row * l.rows) l.i (λ j. margin_extreme l.e (cell l.initial.work l.rows l.left j) (cell l.initial.work l.rows l.right j)) l.initial.work
