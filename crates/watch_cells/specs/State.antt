-- How a watch lies in two slices. Numbers: its refusal, the count of nodes, the first time, the least time that the next row may have, the count of channels; then
-- eight scales, two numbers for each of sixteen predicates, seven for each of 64 nodes. Cells: each predicate's two ends, then three runs with a cell for each node.
-- Assumes nothing.
use Rattle.std.specs.Prelude.{◌≡◌, List, ◌&&◌, cond, ℕ, zero, suc, ◌+◌, ◌-◌, ◌*◌, ◌≤◌, ◌<◌, leb, ltb, length, get_or, ℤ, pos}
use Rattle.logic.specs.declared.Window.{Window}
use Rattle.logic.specs.Formula.{Formula, truth, atom, negation, junction, temporal}
use Rattle.recordings.specs.declared.Predicate.{Predicate}
use Rattle.recordings.specs.declared.Setup.{Setup}
use Rattle.recordings.specs.Card.{Card, rows, first_time, predicate_at}
use Rattle.recordings.specs.Margin.{margin}
use Rattle.recordings.specs.Accepted.{MOST_CHANNELS}
use Rattle.tables.specs.declared.Node.{Node}
use Rattle.tables.specs.declared.Table.{Table}
use Rattle.tables.specs.Tree.{NODES, span, as_read, node_at, tree}
use Rattle.tables.specs.Rules.{window_obeys}
use Rattle.tables.specs.Closed.{closed_span}
use Rattle.building.specs.Storing.{WIDTH, node_read}
use Rattle.flat.specs.Predicates.{range_from}
use Rattle.arrivals.specs.Fits.{carried, next_time}

-- where the scales, the predicates' numbers and the nodes begin, and the nodes' cells
abbrev pub SCALES_AT : ℕ
SCALES_AT = 5

abbrev pub RANGES_AT : ℕ
RANGES_AT = 13

abbrev pub NODES_AT : ℕ
NODES_AT = 45

abbrev pub HELD_AT : ℕ
HELD_AT = 32

-- the slices' lengths
abbrev pub NUMBERS : ℕ
NUMBERS = NODES_AT + WIDTH * NODES

abbrev pub CELLS : ℕ
CELLS = 224

-- a node as a watch keeps it: its window closed, so that no row asks for marks; one that breaks the rules, of a refused making, stays as it is
abbrev pub kept_node : Node → Node
kept_node n = record { kind = n.kind; left = n.left; right = n.right; span = cond (window_obeys n.span) (closed_span n.span) n.span }

-- and its window, both ends counted: the marks are not looked at
abbrev pub kept_window : Node → Window
kept_window n = as_read (span n.span.lo n.span.hi)

-- node k
abbrev pub node_in : List ℕ → ℕ → Node
node_in numbers k = node_read numbers (NODES_AT + WIDTH * k)

-- predicate p
abbrev pub predicate_in : List ℕ → List ℤ → ℕ → Predicate
predicate_in numbers cells p =
    record {
      channel = get_or numbers (RANGES_AT + 2 * p + 1) 0;
      range = range_from (get_or numbers (RANGES_AT + 2 * p) 0) (get_or cells (2 * p) (pos 0)) (get_or cells (2 * p + 1) (pos 0));
    }

-- of node q, its margin at the newest row (part 0), its margin at sample 0 (part 1), or what it carries (part 2)
abbrev pub held_in : List ℤ → ℕ → ℕ → ℤ
held_in cells q part = get_or cells (HELD_AT + NODES * part + q) (pos 0)

-- what a temporal operator carries; other requirements carry nothing
abbrev pub carried_by : Card → Formula ℕ → ℤ
carried_by c truth = pos 0
carried_by c (atom p) = pos 0
carried_by c (negation φ) = pos 0
carried_by c (junction e l r) = pos 0
carried_by c (temporal d e w l r) = carried c e l

-- the three of one requirement
abbrev pub part_of : Card → Formula ℕ → ℕ → ℤ
part_of c φ zero = margin c φ (rows c - 1)
part_of c φ (suc zero) = margin c φ 0
part_of c φ (suc (suc part)) = carried_by c φ

-- and of node q: 0 before the first row, and where there is no node
abbrev pub cell_of : Table → Card → ℕ → ℕ → ℤ
cell_of t c part q = cond (leb 1 (rows c) && ltb q t.count) (part_of c (tree t.nodes q) part) (pos 0)

-- ---- the slices hold a table and a setup
pub record Planned (numbers : List ℕ) (cells : List ℤ) (t : Table) (s : Setup) : Type 0 where
  pub long : NUMBERS ≤ length numbers
  pub wide : CELLS ≤ length cells
  pub count : get_or numbers 1 0 ≡ t.count
  pub channels : get_or numbers 4 0 ≡ s.channels
  pub scales : (ch : ℕ) → ch < MOST_CHANNELS → get_or numbers (SCALES_AT + ch) 0 ≡ get_or s.scales.each ch 0
  pub predicates : (p : ℕ) → p < 16 → predicate_in numbers cells p ≡ predicate_at s.predicates p
  pub nodes : (k : ℕ) → k < NODES → node_in numbers k ≡ kept_node (node_at t.nodes k)

-- ---- the times of the rows so far
pub record Clock (numbers : List ℕ) (c : Card) : Type 0 where
  pub start : get_or numbers 2 0 ≡ first_time c
  pub next : get_or numbers 3 0 ≡ next_time c

-- ---- node q's cells hold what they are to
pub record Held (cells : List ℤ) (t : Table) (c : Card) (q : ℕ) : Type 0 where
  pub each : (part : ℕ) → part < 3 → held_in cells q part ≡ cell_of t c part q
