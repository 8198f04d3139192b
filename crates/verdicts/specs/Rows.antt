-- One row of a verdict's cells: which rows it reads, with which window, and what must stand in the cells before it.
-- Assumes nothing.
use Rattle.std.specs.Prelude.{◌≡◌, Bool, true, false, not, cond, List, ℕ, ◌+◌, ◌*◌, ◌/◌, ◌≤◌, ◌<◌, length, ℤ}
use Rattle.logic.specs.declared.Window.{Window}
use Rattle.logic.specs.Negation.{turn}
use Rattle.logic.specs.Strengthening.{strengthen_window}
use Rattle.recordings.specs.Accepted.{LONGEST_STEP}
use Rattle.recordings.specs.Card.{Card, rows}
use Rattle.lists.specs.Fill.{fill}
use Rattle.rows.specs.Cells.{cell}
use Rattle.tables.specs.declared.Node.{Node}
use Rattle.tables.specs.declared.Table.{Table}
use Rattle.tables.specs.Kind.{operator_extremum, is_not}
use Rattle.tables.specs.declared.Operator.{Operator}
use Rattle.tables.specs.Tree.{window, node_at}
use Rattle.rules.specs.Refusals.{Sound}
use Rattle.verdicts.specs.Cells.{row_value}

-- until and eventually contract their windows, release and always expand them; the others have none
abbrev pub strong_window : Bool → ℕ → Operator → Node → Window
strong_window b step o n = strengthen_window (turn b (operator_extremum o)) step (window n)

-- "not" reads its child's other row
abbrev pub left_sign : Bool → Operator → Bool
left_sign b o = cond (is_not o) (not b) b

-- the row of node k, or of its negation
abbrev pub row_of : Bool → ℕ → ℕ
row_of true k = 2 * k
row_of false k = 2 * k + 1

-- what is judged before any row is filled
pub record Ready (c : Card) (t : Table) (step cells : ℕ) : Type 0 where
  pub sound : Sound c t
  pub step_bound : step ≤ LONGEST_STEP
  pub room : 2 * t.count * rows c ≤ cells

-- the rows before row r are filled
pub record Filled (c : Card) (t : Table) (step : ℕ) (work : List ℤ) (r : ℕ) : Type 0 where
  pub ready : Ready c t step (length work)
  pub row_inside : r < 2 * t.count
  pub done : (q i : ℕ) → q < r → i < rows c → cell work (rows c) q i ≡ row_value c step t.nodes q i

-- and node n is the one that row r is of
pub record Due (c : Card) (t : Table) (n : Node) (step : ℕ) (work : List ℤ) (r : ℕ) : Type 0 where
  pub filled : Filled c t step work r
  pub node_is : n ≡ node_at t.nodes (r / 2)

-- filled from node n, row r holds what it is to hold, of whatever table
abbrev pub Fills : Card → Node → ℕ → List ℤ → ℕ → List ℤ → Type 0
Fills c n step work r out = (t : Table) → Due c t n step work r → out ≡ fill (r * rows c) (rows c) (row_value c step t.nodes r) work
