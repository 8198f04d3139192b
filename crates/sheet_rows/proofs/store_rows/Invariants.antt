-- `sheet_rows::store_rows` meets its contract: with the rows that are left behind it, each slice is what it will be at the end.
-- Assumes nothing.
use Prim.Native.Nat.{◌-◌}
use lib.ListN.{length}
use Rattle.sheet_rows.proofs.Storing.{Filling}
use Rattle.sheet_rows.proofs.store_rows.Given as goal

abbrev pub invariant-loop-at : goal.invariant-loop-at
invariant-loop-at l = Filling l.s l.channels l.initial.times l.initial.values l.times l.values l.at l.rows

abbrev pub decreases-loop-at : goal.decreases-loop-at
decreases-loop-at l = length l.s - l.at
