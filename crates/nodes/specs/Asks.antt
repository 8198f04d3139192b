-- What filling a node's row asks of its caller.
-- Assumes nothing.
use Rattle.std.specs.Prelude.{◌≡◌, List, ℕ, ◌+◌, ◌*◌, ◌≤◌, ◌<◌, length, ℤ}
use Rattle.recordings.specs.declared.Range.TheVariants.{Unset}
use Rattle.recordings.specs.Card.{Card, rows, predicate}
use Rattle.recordings.specs.Accepted.{Recorded}
use Rattle.rows.specs.Cells.{Bounded}
use Rattle.tables.specs.declared.Node.{Node}
use Rattle.tables.specs.Kind.{operator, predicate_kind}
use Rattle.tables.specs.Rules.{Use, child, number, unused, left_use, right_use}

-- a row that an operand is read from stands before the row that is filled
abbrev pub Earlier : Use → ℕ → ℕ → Type 0
Earlier child from row = from < row
Earlier number from row = Unit
Earlier unused from row = Unit

pub record NodeAsks (work : List ℤ) (c : Card) (n : Node) (left right row : ℕ) : Type 0 where
  pub recorded : Recorded c
  pub left_earlier : Earlier (left_use (operator n.kind)) left row
  pub right_earlier : Earlier (right_use (operator n.kind)) right row
  pub numbered : n.kind ≡ predicate_kind → n.left ≤ 15
  pub set : n.kind ≡ predicate_kind → (predicate c n.left).range ≡ Unset → ⊥
  pub room : row * rows c + rows c ≤ length work
  pub bounded : (q : ℕ) → q < row → Bounded work (rows c) q

-- two readings of an operand's values agree at every sample, where it is an operand
abbrev pub Agree : Use → ℕ → (ℕ → ℤ) → (ℕ → ℤ) → Type 0
Agree child n f g = (i : ℕ) → i < n → f i ≡ g i
Agree number n f g = Unit
Agree unused n f g = Unit
