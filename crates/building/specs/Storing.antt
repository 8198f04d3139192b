-- A reading while its nodes are kept in cells, WIDTH numbers to a node.
use Rattle.std.specs.Prelude.{ℕ, zero, suc, ◌+◌, ◌-◌, ◌*◌, ◌≤◌, ◌≡◌, List, [], ◌∷◌, ◌++◌, Option, Some, None, cond, get_or, set, replicate, leb}
use Rattle.std.proofs.lemmas.List.Edits.{sets}
use Rattle.text.specs.Bytes.{bytes}
use Rattle.text.specs.Mark.{mark_at, after}
use Rattle.tables.specs.declared.Node.{Node}
use Rattle.tables.specs.declared.Table.{Table}
use Rattle.tables.specs.Tree.{NODES, marked}
use Rattle.tables.specs.declared.Span.{Span}
use Rattle.grammar.specs.Tree.{size}
use Rattle.grammar.specs.Reading.{Reading, got, none}
use Rattle.building.specs.declared.Subtree.{Subtree}
use Rattle.building.specs.Nodes.{node, empty_table, nodes_of}

-- a node has seven numbers
abbrev pub WIDTH : ℕ
WIDTH = 7

-- cells for all nodes of a table
abbrev pub CELLS : ℕ
CELLS = WIDTH * NODES

-- all of them 0
abbrev pub zeros : List ℕ
zeros = replicate CELLS 0

abbrev pub numbers_of : Node → List ℕ
numbers_of x = x.kind ∷ x.left ∷ x.right ∷ x.span.lo ∷ x.span.hi ∷ x.span.openlo ∷ x.span.openhi ∷ []

-- the numbers of nodes, one node after the other
unfoldable pub cells_of : List Node → List ℕ
cells_of [] = []
cells_of (x ∷ xs) = numbers_of x ++ cells_of xs

abbrev pub read_part : ℕ → ℕ → ℕ → Option Subtree
read_part end root free = Some (record { end = end; root = root; free = free })

-- what a reading gives where its first node has the number o and a table has room for NODES
unfoldable pub step_of : ℕ → Reading → Option Subtree
step_of o (got a n) = cond (leb (o + size a) NODES) (read_part n (o + size a - 1) (o + size a)) None
step_of o none = None

-- a leaf: the cells of its node are written where it has room, and no other; a refused one writes nothing
unfoldable pub leaf_cells : ℕ → Reading → List ℕ → List ℕ
leaf_cells o (got a n) cells = cond (leb (o + size a) NODES) (sets cells (WIDTH * o) (cells_of (nodes_of o a))) cells
leaf_cells o none cells = cells

-- a larger part: the same where it is not refused; a refused one may leave what it had written of its beginning
unfoldable pub Wrote : ℕ → Reading → List ℕ → List ℕ → Type 0
Wrote o (got a n) before after = o + size a ≤ NODES → after ≡ sets before (WIDTH * o) (cells_of (nodes_of o a))
Wrote o none before after = Unit {0}

-- a reading is done
pub record Done (o : ℕ) (x : Reading) (r : Option Subtree) (before after : List ℕ) : Type 0 where
  pub step : r ≡ step_of o x
  pub cells : Wrote o x before after

-- one node more, which is the root
abbrev pub pushed_step : ℕ → ℕ → Option Subtree
pushed_step free at = cond (leb NODES free) None (read_part at free (free + 1))

abbrev pub pushed_cells : ℕ → Node → List ℕ → List ℕ
pushed_cells free x cells = cond (leb NODES free) cells (sets cells (WIDTH * free) (numbers_of x))

-- the parent of a reading; of one reading it is the left child, after another the right one
abbrev pub parent_step : Option Subtree → Option Subtree
parent_step p = after p (λ x. pushed_step x.free x.end) None

abbrev pub wrap_cells : ℕ → Span → Option Subtree → List ℕ → List ℕ
wrap_cells k w p cells = after p (λ x. pushed_cells x.free (node k x.root 0 w) cells) cells

abbrev pub join_cells : ℕ → Span → ℕ → Option Subtree → List ℕ → List ℕ
join_cells k w left p cells = after p (λ x. pushed_cells x.free (node k left x.root w) cells) cells

-- a reading and the parenthesis that closes it
abbrev pub closed_step : List ℕ → Option Subtree → Option Subtree
closed_step s p = after p (λ x. after (mark_at (bytes ")") s x.end) (λ n. read_part n x.root x.free) None) None

-- the node whose numbers stand from a place on; that of a number; and the table of the first of them
abbrev pub node_read : List ℕ → ℕ → Node
node_read cells at =
    record {
      kind = get_or cells at 0;
      left = get_or cells (at + 1) 0;
      right = get_or cells (at + 2) 0;
      span = marked (get_or cells (at + 3) 0) (get_or cells (at + 4) 0) (get_or cells (at + 5) 0) (get_or cells (at + 6) 0);
    }

abbrev pub node_from : List ℕ → ℕ → Node
node_from cells k = node_read cells (WIDTH * k)

unfoldable pub nodes_from : List ℕ → ℕ → List Node
nodes_from cells zero = empty_table.nodes
nodes_from cells (suc k) = set (nodes_from cells k) k (node_from cells k)

abbrev pub table_from : List ℕ → ℕ → Table
table_from cells count = cond (leb count NODES) (record { nodes = nodes_from cells count; count = count }) empty_table
