-- The rows before this one hold what its node reads, so the node's row function fills what row r is to hold.
-- Assumes nothing.
use Rattle.verdicts.proofs.Rows.{due_asks, due_filled}
use Rattle.verdicts.proofs.strong_row.Goals as goal

pub node_row-requires : goal.node_row-requires
node_row-requires c = due_asks c.requires.1 _ _ c.left_row-left.ensures c.row_for-right.ensures

pub returns : goal.returns
returns c =
    λ t d.
    due_filled d _ _ _ c.row_window-window.ensures c.left_row-left.ensures c.row_for-right.ensures c.node_row.ensures
