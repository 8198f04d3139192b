-- What the functions of a temporal row ask of their callers.
-- Assumes nothing.
use Rattle.std.specs.Prelude.{Option, List, ℕ, ◌+◌, ◌*◌, ◌≤◌, ◌<◌, ℤ, length}
use Rattle.rows.specs.Cells.{Bounded}
use Rattle.temporal.specs.Reading.{Rising, LeftEarlier}

-- the right operand's row lies in the cells, and the window's places in the rows
pub record PlaceAsks (cells : List ℤ) (n right i first end : ℕ) : Type 0 where
  pub right_inside : right * n + n ≤ length cells
  pub from : i ≤ first
  pub end_inside : end ≤ n

-- both operands' rows stand before the row that is filled, which lies in the cells; the right one's values lie within TOP; times rise
pub record TemporalAsks (work : List ℤ) (times : List ℕ) (left : Option ℕ) (right row : ℕ) : Type 0 where
  pub left_earlier : LeftEarlier row left
  pub right_earlier : right < row
  pub right_bounded : Bounded work (length times) right
  pub room : row * length times + length times ≤ length work
  pub times_rise : Rising times
