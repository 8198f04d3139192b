-- The tree that a table's node stands for. A shared node stands in it once for each use, as in a text: the tree is unshared. Its table in turn is `table_of` it.
-- Assumes nothing.
use Rattle.std.specs.Prelude.{ℕ, ◌-◌}
use Rattle.tables.specs.declared.Node.{Node}
use Rattle.tables.specs.declared.Table.{Table}
use Rattle.tables.specs.Kind.{operator}
use Rattle.tables.specs.Tree.{node_at, meaning}
use Rattle.tables.specs.Rules.{Use, child, number, unused, left_use, right_use}
use Rattle.grammar.specs.Tree.{Tree, truth, predicate, one, two}

-- a node over the trees of its children, by what its left and right number are
abbrev pub tree_by : Use → Use → Node → (ℕ → Tree) → Tree
tree_by child child n tree = two n.kind n.span (tree n.left) (tree n.right)
tree_by child number n tree = one n.kind n.span (tree n.left)
tree_by child unused n tree = one n.kind n.span (tree n.left)
tree_by number right n tree = predicate n.left
tree_by unused right n tree = truth

abbrev pub node_tree : Node → (ℕ → Tree) → Tree
node_tree n tree = tree_by (left_use (operator n.kind)) (right_use (operator n.kind)) n tree

-- node k's
unfoldable pub unshared : (ℕ → Node) → ℕ → Tree
unshared at k = meaning node_tree truth at k

-- a table's: the root is the last node
abbrev pub tree_of : Table → Tree
tree_of t = unshared (node_at t.nodes) (t.count - 1)
