-- A sample outside the window changes nothing.
-- Assumes nothing.
use mathlib.Core.Path.{◌∙◌}
use Rattle.numbers.proofs.Bits.{back_ok, back_is}
use Rattle.watch_cells.proofs.margin_after.Goals as goal

pub returns-then-here : goal.returns-then-here
returns-then-here c =
    rw c.if-here.true (back_ok c.extreme-then-here.result c.extreme-then-here.type_inv ∙ c.extreme-then-here.ensures ∙ rw (back_is c.ranges.margin, back_ok c.extreme.result c.extreme.type_inv, c.extreme.ensures, back_is c.ranges.right, back_is c.ranges.carried, c.dual.ensures))

pub returns-else-here : goal.returns-else-here
returns-else-here c = rw c.if-here.false (back_is c.ranges.margin)
