-- The text that keeps one of its requirements alone.
-- Assumes nothing.
use Rattle.std.specs.Prelude.{ℕ, Bool, not, cond, List, [], ◌∷◌, ◌++◌, get_or}
use Rattle.lines.specs.Lines.{lines, joined}
use Rattle.requirement_lines.specs.Form.{is_requirement}

-- the lines before the first of a kind, and those from it on
unfoldable pub before_first : (List ℕ → Bool) → List (List ℕ) → List (List ℕ)
before_first kind [] = []
before_first kind (l ∷ ls) = cond (kind l) [] (l ∷ before_first kind ls)

unfoldable pub from_first : (List ℕ → Bool) → List (List ℕ) → List (List ℕ)
from_first kind [] = []
from_first kind (l ∷ ls) = cond (kind l) (l ∷ ls) (from_first kind ls)

abbrev pub is_other : List ℕ → Bool
is_other l = not (is_requirement l)

-- the lines of the head, the `req=` lines, and the lines behind them
abbrev pub head_lines_of : List ℕ → List (List ℕ)
head_lines_of s = before_first is_requirement (lines s)

abbrev pub requirement_lines_of : List ℕ → List (List ℕ)
requirement_lines_of s = before_first is_other (from_first is_requirement (lines s))

abbrev pub row_lines_of : List ℕ → List (List ℕ)
row_lines_of s = from_first is_other (from_first is_requirement (lines s))

-- the text without its `req=` lines but the k-th, counted from 0
unfoldable pub only : ℕ → List ℕ → List ℕ
only k s = joined (head_lines_of s ++ (get_or (requirement_lines_of s) k [] ∷ row_lines_of s))
