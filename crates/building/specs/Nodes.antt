-- The table of a tree: its nodes left, right, parent, none shared.
use Rattle.std.specs.Prelude.{ℕ, ◌+◌, ◌-◌, List, [], ◌∷◌, ◌++◌, replicate}
use Rattle.tables.specs.declared.Node.{Node}
use Rattle.tables.specs.declared.Table.{Table}
use Rattle.tables.specs.declared.Span.{Span}
use Rattle.tables.specs.Tree.{NODES, no_span}
use Rattle.tables.specs.Kind.{true_kind, predicate_kind}
use Rattle.grammar.specs.Tree.{Tree, truth, predicate, one, two, size}

-- a node: kind, children, window
abbrev pub node : ℕ → ℕ → ℕ → Span → Node
node k l r w = record { kind = k; left = l; right = r; span = w }

-- all numbers 0
abbrev pub empty_node : Node
empty_node = node 0 0 0 no_span

-- the empty table
abbrev pub empty_table : Table
empty_table = record { nodes = replicate NODES empty_node; count = 0 }

-- the nodes of a tree, the first of which has the number o: those of the left child, of the right child, the parent last
unfoldable pub nodes_of : ℕ → Tree → List Node
nodes_of o truth = node true_kind 0 0 no_span ∷ []
nodes_of o (predicate p) = node predicate_kind p 0 no_span ∷ []
nodes_of o (one k w a) = nodes_of o a ++ (node k (o + size a - 1) 0 w ∷ [])
nodes_of o (two k w a b) =
    nodes_of o a ++ (nodes_of (o + size a) b ++ (node k (o + size a - 1) (o + size a + size b - 1) w ∷ []))

-- the table of a tree; places beyond its nodes are empty
abbrev pub table_of : Tree → Table
table_of a = record { nodes = nodes_of 0 a ++ replicate (NODES - size a) empty_node; count = size a }
