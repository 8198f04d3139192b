-- After r turns the first r rows are filled.
-- Assumes nothing.
use mathlib.Core.Path.{◌≡◌}
use Rattle.lists.specs.Fill.{fill_rows}
use Rattle.recordings.specs.Card.{card_of, rows}
use Rattle.verdicts.specs.Cells.{row_value}
use Rattle.verdicts.proofs.strong_rows.Given as goal

abbrev pub invariant-loop-row : goal.invariant-loop-row
invariant-loop-row l = l.work ≡ fill_rows (rows (card_of l.recording)) (row_value (card_of l.recording) l.step l.fn.table.nodes) l.row l.initial.work
