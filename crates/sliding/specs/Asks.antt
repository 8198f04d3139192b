-- What moving the ends of a run asks of its caller.
-- Assumes nothing.
use Rattle.std.specs.Prelude.{◌≡◌, List, ℕ, ◌≤◌, ◌<◌, ℤ}
use Rattle.logic.specs.declared.Extremum.{Extremum}
use Rattle.rows.specs.Cells.{cell, Above}
use Rattle.sliding.specs.declared.SlidingExtremum.{SlidingExtremum}
use Rattle.sliding.specs.Run.{over}

-- the tail is f's extremum behind the cut, and each place from `low` up to the cut holds the one from itself up to the cut
pub record Sliding (e : Extremum) (f stored : ℕ → ℤ) (s : SlidingExtremum) (low : ℕ) : Type 0 where
  pub ordered : s.cut ≤ s.high
  pub tail_is : s.tail ≡ over e f s.cut s.high
  pub stored_are : (j : ℕ) → low ≤ j → j < s.cut → stored j ≡ over e f j s.cut

-- the row that slides stands before the row that is filled; the high end stays in the rows and never goes back
pub record AdvanceAsks (work : List ℤ) (n source row : ℕ) (e : Extremum) (s : SlidingExtremum) (low high : ℕ) : Type 0 where
  pub above : Above work n source row
  pub inside : high ≤ n
  pub onward : s.high ≤ high
  pub sliding : Sliding e (cell work n source) (cell work n row) s low
