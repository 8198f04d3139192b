-- What was printed is the whole text, whose length tells whether the slice has room; then it is what the slice begins with.
-- Assumes nothing.
use Rattle.std.proofs.Common.{◌≤◌, ◌∙◌, length}
use Rattle.lists.proofs.Front.{written_in_front}
use Rattle.writing.specs.Written.{table_text}
use Rattle.writing.proofs.Tables.{laid_ruled}
use Rattle.writing.proofs.Refusals.{is_fifteen, is_none}
use Rattle.writing.proofs.Arrays.{text_printed}
use Rattle.writing.proofs.write_table.Goals as goal

pub write_node-requires : goal.write_node-requires
write_node-requires c = laid_ruled c.args.table c.args.cells.now c.requires.holds_nodes c.requires.table_rules

pub returns-then-text-written : goal.returns-then-text-written
returns-then-text-written c =
    let w = c.as_slice-written.ensures ∙ text_printed c.args.table c.args.cells.now c.requires.holds_nodes c.requires.table_rules c.requires.limits (rw c.new-out.ensures at c.write_node.ensures) in
    let e = is_fifteen c.args.table (length c.args.text.now) c.requires.table_rules c.requires.limits (rw w at c.if-text-written.true) in
    record { answer = rw e; text = rw e }

pub returns : goal.returns
returns c =
    let w = c.as_slice-written.ensures ∙ text_printed c.args.table c.args.cells.now c.requires.holds_nodes c.requires.table_rules c.requires.limits (rw c.new-out.ensures at c.write_node.ensures) in
    let h : length (table_text c.args.table) ≤ length c.args.text.now = rw w at c.if-text-written.false in
    let e = is_none c.args.table (length c.args.text.now) c.requires.table_rules c.requires.limits h in
    record { answer = rw (e, w); text = rw e ((rw w at c.write_front.ensures) ∙ written_in_front (table_text c.args.table) c.args.text.now h) }
