-- Before the first row what is given, else the cell.
-- Assumes nothing.
use Rattle.numbers.proofs.Bits.{back_ok, back_is}
use Rattle.watch_cells.proofs.so_far.Goals as goal

pub returns-then-opening : goal.returns-then-opening
returns-then-opening c = rw c.if-opening.true (back_is c.ranges.none)

pub returns-else-opening : goal.returns-else-opening
returns-else-opening c = rw c.if-opening.false (back_ok _ c.result-1.given)
