-- The front of the array is the numbers of the first k nodes.
-- Assumes nothing.
use mathlib.Core.Path.{refl}
use Rattle.building.proofs.Laid.{laid_start, laid_next}
use borrow.Author.Rules.{rules}
use Rattle.building.proofs.cells_of.Goals as goal

pub loop-k-init : goal.loop-k-init
loop-k-init c = laid_start _ (search rules) _ refl

pub loop-k-preserved : goal.loop-k-preserved
loop-k-preserved c = laid_next _ (search rules) _ _ _ _ c.loop-k.invariant c.loop-k-test.true c.push.ensures.cells
