-- The numbers of all nodes hold the table's.
-- Assumes nothing.
use Rattle.writing.proofs.Tables.{cells_hold}
use borrow.Author.Rules.{rules}
use Rattle.writing.proofs.write_requirement.Goals as goal

pub write_numbered-requires : goal.write_numbered-requires
write_numbered-requires c = cells_hold c.args.table c.cells_of-cells.result c.cells_of-cells.ensures (search rules)
