-- Rows of cells: with n places to a row, row r owns the cells from r × n on.
-- Assumes nothing.
use Rattle.std.specs.Prelude.{List, ℕ, ◌+◌, ◌*◌, ◌≤◌, ◌<◌, ℤ, pos, length, get_or}
use Rattle.numbers.specs.Order.{Within}
use Rattle.recordings.specs.Distance.{TOP}
use Rattle.recordings.specs.Accepted.{MOST_SCALE, Ends, Values}
use Rattle.recordings.specs.declared.Predicate.{Predicate}

-- the value of row r at place i
abbrev pub cell : List ℤ → ℕ → ℕ → ℕ → ℤ
cell w n r i = get_or w (r * n + i) (pos 0)

-- a row that is filled from an earlier row
pub record Above (w : List ℤ) (n child row : ℕ) : Type 0 where
  pub earlier : child < row
  pub room : row * n + n ≤ length w

-- its values can be negated
pub record Bounded (w : List ℤ) (n child : ℕ) : Type 0 where
  pub bounded : (i : ℕ) → i < n → Within TOP (cell w n child i)

-- the recording has what a predicate reads: its channel at every place, all in range, and the scale
pub record Leaf (values : List ℤ) (channels : ℕ) (p : Predicate) (scale n : ℕ) : Type 0 where
  pub small_scale : scale ≤ MOST_SCALE
  pub known : p.channel < channels
  pub ends : Ends p.range
  pub all_values : n * channels ≤ length values
  pub in_range : Values values
