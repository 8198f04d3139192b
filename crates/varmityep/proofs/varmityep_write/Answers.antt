-- The numbers, copied over zeros, make the table that they give and hold its nodes.
-- Assumes nothing.
use Rattle.std.proofs.Common.{◌≡◌, ◌∙◌}
use Rattle.flat.specs.Tables.{table_from}
use Rattle.flat.proofs.Padded.{padded_table}
use Rattle.writing.proofs.Tables.{from_hold}
use Rattle.varmityep.proofs.varmityep_write.Goals as goal
use Rattle.varmityep.proofs.varmityep_write.Goals.{After-table_from-table}

table_is : (c : After-table_from-table) → c.table_from-table.result ≡ table_from c.args.nodes.now c.args.count
table_is c = c.table_from-table.ensures ∙ rw c.write_front.ensures (padded_table c.args.nodes.now c.args.count)

pub write_numbered-requires : goal.write_numbered-requires
write_numbered-requires c = rw c.table_from-table.ensures (from_hold c.write_front.new.out c.args.count)

pub returns-clause-answer : goal.returns-clause-answer
returns-clause-answer c = c.from.ensures ∙ rw (table_is (goal.at.returns-clause-answer c).After-table_from-table) at c.write_numbered.ensures.answer

pub returns-clause-text : goal.returns-clause-text
returns-clause-text c = rw (table_is (goal.at.returns-clause-text c).After-table_from-table) at c.write_numbered.ensures.text
