-- Refusal 3, of the table alone: the rules of a requirement table, each as a test and as the sentence that the test stands for. `proofs/Rules` shows the two equal.
-- Assumes nothing.
use Rattle.std.specs.Prelude.{◌≡◌, Bool, true, false, cond, ◌&&◌, ◌⊎◌, List, ℕ, ◌+◌, ◌≤◌, ◌<◌, leb, ltb, eqb, length}
use Rattle.lists.specs.Fold.{all_below}
use Rattle.tables.specs.declared.Span.{Span}
use Rattle.tables.specs.declared.Node.{Node}
use Rattle.tables.specs.declared.Table.{Table}
use Rattle.tables.specs.Kind.{kinds, operator}
use Rattle.tables.specs.declared.Operator.{Operator}
use Rattle.tables.specs.declared.Operator.TheVariants.{Constant, Named, Negated, Unknown, Joined, Binary, Unary}
use Rattle.tables.specs.Tree.{NODES, LONGEST, NO_END, no_span, node_at}

-- what a node's left or right number is: a child, a predicate's number, or unused
pub data Use : Type 0 where
  child number unused : Use

abbrev pub left_use : Operator → Use
left_use Constant = unused
left_use Named = number
left_use Negated = child
left_use Unknown = unused
left_use (Joined e) = child
left_use (Binary d e) = child
left_use (Unary d e) = child

abbrev pub right_use : Operator → Use
right_use Constant = unused
right_use Named = unused
right_use Negated = unused
right_use Unknown = unused
right_use (Joined e) = child
right_use (Binary d e) = child
right_use (Unary d e) = unused

abbrev pub is_child : Use → Bool
is_child child = true
is_child number = false
is_child unused = false

-- the temporal operators alone have a window
abbrev pub timed : Operator → Bool
timed Constant = false
timed Named = false
timed Negated = false
timed Unknown = false
timed (Joined e) = false
timed (Binary d e) = true
timed (Unary d e) = true

-- children of node k are earlier nodes; predicates are numbered 0 to 15; unused numbers are 0
abbrev pub use_obeys : Use → ℕ → ℕ → Bool
use_obeys child k x = ltb x k
use_obeys number k x = leb x 15
use_obeys unused k x = eqb x 0

abbrev pub Used : Use → ℕ → ℕ → Type 0
Used child k x = x < k
Used number k x = x ≤ 15
Used unused k x = x ≡ 0

-- a window has lo and hi up to 1,000,000,000, or hi 4,294,967,295 for no end; its marks are 0 or 1, without end the high one 0; as read it is not empty
abbrev pub in_limits : Span → Bool
in_limits w = leb w.lo LONGEST && (leb w.openlo 1 && leb w.openhi 1)

abbrev pub window_obeys : Span → Bool
window_obeys w = in_limits w && cond (eqb w.hi NO_END) (eqb w.openhi 0) (leb w.hi LONGEST && leb (w.lo + w.openlo + w.openhi) w.hi)

pub record WindowRules (w : Span) : Type 0 where
  pub low : w.lo ≤ LONGEST
  pub marks : (w.openlo ≤ 1) × (w.openhi ≤ 1)
  pub high : ((w.hi ≡ NO_END) × (w.openhi ≡ 0)) ⊎ ((w.hi ≤ LONGEST) × (w.lo + w.openlo + w.openhi ≤ w.hi))

-- where there is no window its numbers are unused
abbrev pub is_blank : Span → Bool
is_blank w = eqb w.lo 0 && (eqb w.hi 0 && (eqb w.openlo 0 && eqb w.openhi 0))

abbrev pub ends_obey : Bool → Span → Bool
ends_obey true w = window_obeys w
ends_obey false w = is_blank w

abbrev pub EndsRules : Bool → Span → Type 0
EndsRules true w = WindowRules w
EndsRules false w = w ≡ no_span

-- node k
unfoldable pub node_obeys : Node → ℕ → Bool
node_obeys n k =
    ltb n.kind (length kinds)
    && (use_obeys (left_use (operator n.kind)) k n.left
    && (use_obeys (right_use (operator n.kind)) k n.right && ends_obey (timed (operator n.kind)) n.span))

pub record NodeRules (n : Node) (k : ℕ) : Type 0 where
  pub known : n.kind < length kinds
  pub left : Used (left_use (operator n.kind)) k n.left
  pub right : Used (right_use (operator n.kind)) k n.right
  pub ends : EndsRules (timed (operator n.kind)) n.span

-- 1 to 64 nodes, and every one of them obeys, those that the root doesn't reach included
unfoldable pub nodes_obey : List Node → ℕ → Bool
nodes_obey ns n = all_below (λ k. node_obeys (node_at ns k) k) n

unfoldable pub table_obeys : Table → Bool
table_obeys t = leb t.count NODES && (leb 1 t.count && nodes_obey t.nodes t.count)

pub record TableRules (t : Table) : Type 0 where
  pub some_node : 1 ≤ t.count
  pub few_nodes : t.count ≤ NODES
  pub each : (k : ℕ) → k < t.count → NodeRules (node_at t.nodes k) k
