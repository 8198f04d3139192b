-- The form of a head's line that has one number.
-- Assumes nothing.
use Rattle.std.specs.Prelude.{ℕ, ◌≤◌, ◌≡◌, List, ◌++◌}
use Rattle.text.specs.Bytes.{bytes}
use Rattle.text.specs.Number.{largest}
use Rattle.text.specs.Numeral.{Numeral}

-- a line of a key and a number
pub record NumberLine (key line : List ℕ) (value : ℕ) : Type 0 where
  pub digits : List ℕ
  pub numeral : Numeral digits value
  pub bound : value ≤ largest
  pub spelled : line ≡ key ++ digits ++ bytes "\n"
