-- A table from flat numbers: those of a node stand one after the other, those of the next one after them. Its numbers in turn are `cells_of` its nodes, in `building`.
-- Assumes nothing.
use Rattle.std.specs.Prelude.{List, ℕ}
use Rattle.tables.specs.declared.Table.{Table}
use Rattle.building.specs.Storing.{table_from as table_in}

-- a place that a slice doesn't have reads as 0; a count above 64 gives the empty table, which is refused alike
unfoldable pub table_from : List ℕ → ℕ → Table
table_from numbers count = table_in numbers count
