-- With a left operand the loop over the window gives the reading; without, what slides along is it.
-- Assumes nothing.
use mathlib.Core.Path.{sym, ap, ◌∙◌}
use Prim.Native.Nat.{◌+◌, ◌-◌}
use lib.IntN.{ℤ}
use Rattle.numbers.proofs.Bits.{back_ok, back_is}
use Rattle.logic.specs.Reading.{along, margins}
use Rattle.recordings.specs.Distance.{TOP}
use Rattle.rows.specs.Cells.{cell}
use Rattle.std.specs.Prelude.{Option, ℕ}
use Rattle.temporal.specs.Reading.{left_at}
use Rattle.temporal.specs.Slid.{slid_at}
use Rattle.temporal.proofs.Along.{between, lone}
use Rattle.temporal.proofs.at_place.Goals as goal
use Rattle.temporal.proofs.at_place.Goals.{Start}

-- the reading with a given left operand, and what slides along with it
abbrev reading : Start → Option ℕ → ℤ
reading c x =
    along (margins TOP) c.args.e (between c.args.first c.args.end) (λ m. c.args.i + m) (λ m. left_at c.args.e c.args.cells.now c.args.rows x (c.args.i + m)) (λ m. cell c.args.cells.now c.args.rows c.args.right (c.args.i + m)) (c.args.rows - c.args.i)

abbrev sliding : Start → Option ℕ → ℤ
sliding c x = slid_at c.args.e c.args.cells.now c.args.rows x c.args.right c.args.i c.args.first c.args.end

pub returns-in-Some : goal.returns-in-Some
returns-in-Some c =
    back_ok c.bound_at.result c.bound_at.type_inv ∙ c.bound_at.ensures ∙ sym (ap (reading (goal.at.returns-in-Some c).Start) c.in-Some.is)

pub returns-in-None : goal.returns-in-None
returns-in-None c =
    let p = c.requires.place_asks.0 in
    back_is c.ranges.slid ∙ c.requires.bounded.1 ∙ ap (sliding (goal.at.returns-in-None c).Start) c.in-None.is
    ∙ sym (lone c.args.first c.args.end c.args.e (cell c.args.cells.now c.args.rows c.args.right) c.args.i c.args.rows c.requires.bounded.0.bounded p.from p.end_inside)
    ∙ sym (ap (reading (goal.at.returns-in-None c).Start) c.in-None.is)
