-- The loop's invariant is the contract for the first i places; the child's row stands before them, so it is as it was, and its values can be negated.
-- Assumes nothing.
use Rattle.std.proofs.Common.{rules}
use Rattle.lists.proofs.Filled.{fill_none, fill_next}
use Rattle.numbers.proofs.Parts.{within_neg}
use Rattle.points.proofs.Fits.{top_fits}
use Rattle.rows.proofs.Kept.{child_kept}
use Rattle.rows.proofs.signed_row.Goals as goal

pub loop-i-init : goal.loop-i-init
loop-i-init c = fill_none _ _ _

pub signed_of-requires : goal.signed_of-requires
signed_of-requires c =
    let kept = child_kept _ _ _ _ _ c.requires.0 c.loop-i.invariant _ c.loop-i-test.true in
    let fits = top_fits (within_neg (c.requires.1.bounded _ c.loop-i-test.true)) in
    search rules

pub loop-i-preserved : goal.loop-i-preserved
loop-i-preserved c =
    let kept = child_kept _ _ _ _ _ c.requires.0 c.loop-i.invariant _ c.loop-i-test.true in
    fill_next _ _ _ _ c.loop-i.invariant (search rules)
