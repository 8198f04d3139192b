-- A slice with room for a table's numbers is read as it stands. A shorter one, copied over zeros, makes the slice's table.
-- Assumes nothing.
use Rattle.flat.specs.Tables.{table_from}
use Rattle.flat.proofs.Padded.{padded_table}
use Rattle.flat.proofs.table_from.Goals as goal

pub returns-then-numbers-ge-CELLS : goal.returns-then-numbers-ge-CELLS
unfolding table_from
returns-then-numbers-ge-CELLS c = c.table_from.ensures

pub returns : goal.returns
returns c =
    let a = c.args in
    rw (c.table_from-2.ensures, c.write_front.ensures) (padded_table a.numbers.now a.count)
