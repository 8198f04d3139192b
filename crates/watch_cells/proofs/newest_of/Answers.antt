-- The row is the last sample: it is in the window if that starts now.
-- Assumes nothing.
use mathlib.Core.Path.{◌≡◌, sym, ◌∙◌}
use mathlib.Core.Bool.{true, false}
use Rattle.logic.specs.Window.{inside}
use Rattle.numbers.proofs.Bits.{back_is, back_ok}
use Rattle.watch_cells.specs.State.{kept_window}
use Rattle.watch_cells.proofs.newest_of.Goals as goal

pub returns-then-in_window : goal.returns-then-in_window
returns-then-in_window c =
    let h : inside (kept_window c.args.node) 0 ≡ true = sym c.in_window.ensures ∙ c.if-in_window.true in
    rw h (back_is c.ranges.right)

pub returns-else-in_window : goal.returns-else-in_window
returns-else-in_window c =
    let h : inside (kept_window c.args.node) 0 ≡ false = sym c.in_window.ensures ∙ c.if-in_window.false in
    rw h (back_ok c.over_nothing.result c.over_nothing.type_inv ∙ c.over_nothing.ensures)
