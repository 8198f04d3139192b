-- What is below all margins isn't negated.
-- Assumes nothing.
use mathlib.Core.Path.{sym, ◌∙◌}
use mir.Facts.{to_z-of_z}
use Rattle.numbers.proofs.Bits.{back_ok}
use Rattle.watch_cells.proofs.Points.{negative_fits, no_margin_below}
use Rattle.watch_cells.proofs.opposite.Goals as goal

pub negated-requires : goal.negated-requires
negated-requires c =
    let f = c.ranges.a in
    let t = simp to_z-of_z at c.at_most.ensures in
    simp to_z-of_z (negative_fits c.args.a f (sym t ∙ c.if-at_most.true))

pub returns-then-at_most : goal.returns-then-at_most
returns-then-at_most c = λ w. let f = c.ranges.a in back_ok c.negated.result c.negated.type_inv ∙ (simp to_z-of_z at c.negated.ensures)

pub returns-else-at_most : goal.returns-else-at_most
returns-else-at_most c =
    λ w.
    let f = c.ranges.a in
    let t = simp to_z-of_z at c.at_most.ensures in
    absurd (no_margin_below c.args.a w (sym t ∙ c.if-at_most.false))
