-- The loop goes down. Its invariant: each place from j up to `high` holds the extremum from it up to `high`, and `suffix` is the one from j on.
-- Assumes nothing.
use mathlib.Core.Path.{◌≡◌}
use Prim.Native.Nat.{◌*◌, ◌≤◌, min}
use Rattle.rows.specs.Cells.{cell}
use Rattle.sliding.specs.Run.{over, suffixed}
use Rattle.sliding.proofs.fill_suffixes.Given as goal

abbrev pub invariant-loop-j : goal.invariant-loop-j
invariant-loop-j l =
    (min l.low l.high ≤ l.j)
    × (l.work ≡ suffixed l.e (cell l.initial.work l.rows l.source) (l.row * l.rows) l.j l.high l.initial.work)
    × (l.suffix ≡ over l.e (cell l.initial.work l.rows l.source) l.j l.high)
