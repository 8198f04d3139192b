-- `row_lines::count_rows` meets its contract: what was counted and what is left are the counts of the whole text.
-- Assumes nothing.
use Prim.Native.Nat.{◌-◌}
use lib.ListN.{length}
use Rattle.row_lines.proofs.Counting.{Counting}
use Rattle.row_lines.proofs.count_rows.Given as goal

abbrev pub invariant-loop-at : goal.invariant-loop-at
invariant-loop-at l = Counting l.channels l.s l.at l.rows l.filled

abbrev pub decreases-loop-at : goal.decreases-loop-at
decreases-loop-at l = length l.s - l.at
