-- The same window closed at both ends: an end that a mark excludes is the one that it reads as, and is counted. `proofs/Windows` shows that a table with its windows closed
-- means what it meant.
-- Assumes nothing.
use Rattle.std.specs.Prelude.{map, ◌+◌, ◌-◌}
use Rattle.tables.specs.declared.Span.{Span}
use Rattle.tables.specs.declared.Node.{Node}
use Rattle.tables.specs.declared.Table.{Table}
use Rattle.tables.specs.Tree.{span}

abbrev pub closed_span : Span → Span
closed_span w = span (w.lo + w.openlo) (w.hi - w.openhi)

abbrev pub closed_node : Node → Node
closed_node n = record { kind = n.kind; left = n.left; right = n.right; span = closed_span n.span }

abbrev pub closed_table : Table → Table
closed_table t = record { nodes = map closed_node t.nodes; count = t.count }
