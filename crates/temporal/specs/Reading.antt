-- What a temporal row holds: until and release, eventually and always, read over the places of a list of times.
-- Assumes nothing.
use Rattle.std.specs.Prelude.{Option, Some, None, List, ℕ, suc, ◌+◌, ◌*◌, ◌≤◌, ◌<◌, ℤ, length, get_or}
use Rattle.logic.specs.declared.Window.{Window}
use Rattle.logic.specs.declared.Extremum.{Extremum}
use Rattle.logic.specs.Formula.{dual}
use Rattle.logic.specs.declared.Direction.{Direction}
use Rattle.logic.specs.Reading.{Places, place, count, offset, along, margins, margin_nothing}
use Rattle.recordings.specs.Distance.{TOP}
use Rattle.rows.specs.Cells.{cell}

-- one place for each time
abbrev pub places : List ℕ → Places
places times = record { first = 0; end = length times; time = λ i. get_or times i 0 }

-- the left operand: a row; or nothing, for eventually, which is until from true, and for always, which is release from false
abbrev pub left_at : Extremum → List ℤ → ℕ → Option ℕ → ℕ → ℤ
left_at e w n (Some r) i = cell w n r i
left_at e w n None i = margin_nothing TOP (dual e)

-- the reading of a temporal operator at place i, from its operands' values
abbrev pub temporal_at : Direction → Extremum → Window → Places → (ℕ → ℤ) → (ℕ → ℤ) → ℕ → ℤ
temporal_at d e w F l r i = along (margins TOP) e w (offset d F i) (λ m. l (place d i m)) (λ m. r (place d i m)) (count d F i)

-- times rise
pub record Rising (times : List ℕ) : Type 0 where
  pub rising : (i : ℕ) → suc i < length times → get_or times i 0 < get_or times (suc i) 0

-- an operand's row lies in the cells
abbrev pub LeftInside : ℕ → ℕ → Option ℕ → Type 0
LeftInside cells n (Some r) = r * n + n ≤ cells
LeftInside cells n None = Unit

-- an operand's row stands before the row that is filled
abbrev pub LeftEarlier : ℕ → Option ℕ → Type 0
LeftEarlier row (Some r) = r < row
LeftEarlier row None = Unit
