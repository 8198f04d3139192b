-- What the writers ask of their callers: that a node and all before it obey the table's rules, and that cells hold a table's nodes. And what is written of a node without children.
-- Assumes nothing.
use Rattle.std.specs.Prelude.{◌≡◌, ℕ, ◌≤◌, ◌<◌, cond, List, ◌++◌, eqb}
use Rattle.printing.specs.Decimal.{decimal}
use Rattle.tables.specs.declared.Node.{Node}
use Rattle.tables.specs.Kind.{true_kind, predicate_kind}
use Rattle.tables.specs.declared.Table.{Table}
use Rattle.tables.specs.Tree.{NODES, node_at}
use Rattle.tables.specs.Rules.{NodeRules}
use Rattle.grammar.specs.Operators.{letter}
use Rattle.building.specs.Storing.{node_from}

pub record Ruled (at : ℕ → Node) (k : ℕ) : Type 0 where
  pub inside : k < NODES
  pub each : (j : ℕ) → j ≤ k → NodeRules (at j) j

-- `T`, or a predicate by its number
abbrev pub leaf_text : Node → List ℕ
leaf_text n = cond (eqb n.kind predicate_kind) (letter predicate_kind ++ decimal n.left) (letter true_kind)

-- cells that hold a table's nodes, as far as they count
abbrev pub HoldsNodes : List ℕ → Table → Type 0
HoldsNodes cells t = (j : ℕ) → j < NODES → j < t.count → node_from cells j ≡ node_at t.nodes j
