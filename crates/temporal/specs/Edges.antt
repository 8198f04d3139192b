-- Where a window begins and ends among the places of rising times.
-- Assumes nothing.
use Rattle.std.specs.Prelude.{◌≡◌, true, false, List, ℕ, ◌-◌, ◌≤◌, ◌<◌, length, get_or}
use Rattle.logic.specs.declared.Stop.{Stop}
use Rattle.logic.specs.Window.{reaches}

-- no place from i up to, not including, r is past the stop of i
pub record Reached (times : List ℕ) (stop : Stop) (i r : ℕ) : Type 0 where
  pub in_times : r ≤ length times
  pub reached : (j : ℕ) → i ≤ j → j < r → reaches stop (get_or times j 0 - get_or times i 0) ≡ true

-- r is the first place from i on that is past the stop of i, or the count of places where none is
pub record Edge (times : List ℕ) (stop : Stop) (i r : ℕ) : Type 0 where
  pub from : i ≤ r
  pub short : Reached times stop i r
  pub past : (j : ℕ) → r ≤ j → j < length times → reaches stop (get_or times j 0 - get_or times i 0) ≡ false
