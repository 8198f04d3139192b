-- After r turns the first r rows are filled.
-- Assumes nothing.
use Rattle.std.proofs.Common.{refl, ◌∙◌}
use Rattle.lists.proofs.Filled.{rows_next, rows_none}
use Rattle.verdicts.proofs.Rows.{so_far}
use Rattle.verdicts.proofs.strong_rows.Goals as goal

pub loop-row-init : goal.loop-row-init
loop-row-init c = rows_none _ _ _

pub strong_row-requires : goal.strong_row-requires
strong_row-requires c = (c.args.table, record { filled = so_far _ c.requires _ c.loop-row.invariant c.loop-row-test.true; node_is = refl })

pub loop-row-preserved : goal.loop-row-preserved
loop-row-preserved c =
    c.strong_row.ensures c.args.table (record { filled = so_far _ c.requires _ c.loop-row.invariant c.loop-row-test.true; node_is = refl }) ∙ rows_next _ _ _ _ c.loop-row.invariant
