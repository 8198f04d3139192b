-- What a node's row is filled from.
-- Assumes nothing.
use Rattle.std.specs.Prelude.{◌≡◌, List, ℕ, ◌+◌, ◌*◌, ◌≤◌, ◌<◌, ℤ, length}
use Rattle.logic.specs.Formula.{Formula}
use Rattle.recordings.specs.declared.Range.TheVariants.{Unset}
use Rattle.recordings.specs.Card.{Card, rows, predicate}
use Rattle.recordings.specs.Margin.{margin}
use Rattle.recordings.specs.Accepted.{Recorded}
use Rattle.tables.specs.declared.Node.{Node}
use Rattle.tables.specs.declared.Table.{Table}
use Rattle.tables.specs.Kind.{predicate_kind}
use Rattle.tables.specs.Rules.{NodeRules}
use Rattle.rules.specs.Refusals.{Sound}
use Rattle.rows.specs.Cells.{cell, Bounded}

-- the node may stand at place k, what it names is set, its row lies in the cells, and earlier rows hold margins
pub record RowAsks (c : Card) (n : Node) (k : ℕ) (work : List ℤ) : Type 0 where
  pub ruled : NodeRules n k
  pub named : n.kind ≡ predicate_kind → (predicate c n.left).range ≡ Unset → ⊥
  pub recorded : Recorded c
  pub room : k * rows c + rows c ≤ length work
  pub bounded : (q : ℕ) → q < k → Bounded work (rows c) q

-- rows before k hold the margins of the requirements φ 0, φ 1, ..
pub record Holds (c : Card) (work : List ℤ) (k : ℕ) (φ : ℕ → Formula ℕ) : Type 0 where
  pub holds : (q i : ℕ) → q < k → i < rows c → cell work (rows c) q i ≡ margin c (φ q) i

-- refusals 3 to 8 do not apply
pub record TableAsks (c : Card) (t : Table) (work : List ℤ) : Type 0 where
  pub sound : Sound c t
  pub room : t.count * rows c ≤ length work
