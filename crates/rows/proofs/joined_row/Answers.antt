-- The loop's invariant is the contract for the first i places; both children's rows stand before them, so they are as they were.
-- Assumes nothing.
use Rattle.std.proofs.Common.{rules}
use Rattle.lists.proofs.Filled.{fill_none, fill_next}
use Rattle.rows.proofs.Kept.{child_kept}
use Rattle.rows.proofs.joined_row.Goals as goal

pub loop-i-init : goal.loop-i-init
loop-i-init c = fill_none _ _ _

pub loop-i-preserved : goal.loop-i-preserved
loop-i-preserved c =
    let l = child_kept _ _ _ _ _ c.requires.0 c.loop-i.invariant _ c.loop-i-test.true in
    let r = child_kept _ _ _ _ _ c.requires.1 c.loop-i.invariant _ c.loop-i-test.true in
    fill_next _ _ _ _ c.loop-i.invariant (search rules)
