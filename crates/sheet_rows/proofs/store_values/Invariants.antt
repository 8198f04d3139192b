-- `sheet_rows::store_values` meets its contract: with the values that are left behind it, the slice is what it will be at the end.
-- Assumes nothing.
use Rattle.sheet_rows.proofs.Storing.{Storing}
use Rattle.sheet_rows.proofs.store_values.Given as goal

abbrev pub invariant-loop-channel : goal.invariant-loop-channel
invariant-loop-channel l = Storing l.s l.at l.channels l.place l.initial.values l.values l.next l.channel
