-- What a row does to the cells of a watch's nodes, one after the other.
-- Assumes nothing.
use Rattle.std.specs.Prelude.{◌≡◌, Bool, true, false, cond, List, Option, Some, None, ℕ, suc, ◌+◌, ◌-◌, ◌≤◌, ◌<◌, eqb, length, get_or, ℤ, pos, neg_ℤ}
use Rattle.numbers.specs.Order.{Within}
use Rattle.logic.specs.Window.{inside}
use Rattle.logic.specs.declared.Extremum.{Extremum}
use Rattle.logic.specs.Formula.{dual}
use Rattle.logic.specs.Reading.{margin_extreme, margin_nothing}
use Rattle.recordings.specs.declared.Predicate.{Predicate}
use Rattle.recordings.specs.Card.{Card, rows, time}
use Rattle.recordings.specs.Distance.{TOP, scaled_distance}
use Rattle.recordings.specs.Accepted.{MOST_CHANNELS, ScaleInRange, InRange, Proper}
use Rattle.tables.specs.declared.Node.{Node}
use Rattle.tables.specs.declared.Table.{Table}
use Rattle.tables.specs.Kind.{operator, operator_extremum, predicate_kind}
use Rattle.tables.specs.declared.Operator.{Operator}
use Rattle.tables.specs.declared.Operator.TheVariants.{Constant, Named, Negated, Unknown, Joined, Binary, Unary}
use Rattle.tables.specs.Tree.{NODES}
use Rattle.tables.specs.Rules.{is_child, left_use, right_use, timed, TableRules}
use Rattle.predicates.specs.Predicates.{Named as EachSet}
use Rattle.nesting.specs.Nesting.{Unnested}
use Rattle.arrivals.specs.Arrivals.{Row, with_row}
use Rattle.arrivals.specs.Fits.{Fits}
use Rattle.watch_cells.specs.State.{CELLS, SCALES_AT, HELD_AT, kept_window, predicate_in, held_in, Planned, Held}

-- a node without window at one place, from its operands' values there; `leaf` is its own where it has none
abbrev pub point_of : Operator → ℤ → ℤ → ℤ → ℤ
point_of Constant leaf l r = leaf
point_of Named leaf l r = leaf
point_of Negated leaf l r = neg_ℤ l
point_of Unknown leaf l r = leaf
point_of (Joined e) leaf l r = margin_extreme e l r
point_of (Binary d e) leaf l r = leaf
point_of (Unary d e) leaf l r = leaf

-- "not", or "and" or "or" by its extremum
abbrev pub untimed : Option Extremum → Operator
untimed None = Negated
untimed (Some e) = Joined e

-- what part of a child's cells holds, if it is a child
pub record Operand (cells : List ℤ) (k part child : ℕ) (v : ℤ) : Type 0 where
  pub earlier : child < k
  pub value : held_in cells child part ≡ v

-- what a node without window is worked out from
pub record PointAsks (cells : List ℤ) (n : Node) (k part : ℕ) (l r : ℤ) : Type 0 where
  pub left : is_child (left_use (operator n.kind)) ≡ true → Operand cells k part n.left l
  pub right : is_child (right_use (operator n.kind)) ≡ true → Operand cells k part n.right r
  pub bounded : operator n.kind ≡ Negated → Within TOP l

-- the value of a node without window, from a part of its operands' cells
pub record IsPoint (cells : List ℤ) (n : Node) (k part : ℕ) (v : ℤ) : Type 0 where
  pub untimed : timed (operator n.kind) ≡ false
  pub value : (leaf l r : ℤ) → PointAsks cells n k part l r → v ≡ point_of (operator n.kind) leaf l r

-- what a predicate's node reads: the predicate, its channel's scale, and a value of that channel
pub record LeafAsks (numbers : List ℕ) (cells values : List ℤ) (n : Node) (p : Predicate) (scale : ℕ) : Type 0 where
  pub numbered : n.left ≤ 15
  pub predicate_is : predicate_in numbers cells n.left ≡ p
  pub proper : Proper p MOST_CHANNELS
  pub known : p.channel < MOST_CHANNELS
  pub here : p.channel < length values
  pub scale_is : get_or numbers (SCALES_AT + p.channel) 0 ≡ scale
  pub scaled : ScaleInRange scale
  pub in_range : InRange (get_or values p.channel (pos 0))

-- the distance of the row's value from the predicate that a node names
abbrev pub IsDistance : List ℕ → List ℤ → List ℤ → Node → ℤ → Type 0
IsDistance numbers cells values n v = (p : Predicate) (scale : ℕ) → LeafAsks numbers cells values n p scale → v ≡ scaled_distance TOP scale p.range (get_or values p.channel (pos 0))

-- what a node without operands has at the row: a predicate its distance, true TOP
pub record LeafValue (numbers : List ℕ) (cells values : List ℤ) (n : Node) (v : ℤ) : Type 0 where
  pub own : n.kind ≤ predicate_kind
  pub true_is : (n.kind ≡ predicate_kind → ⊥) → v ≡ pos TOP
  pub named_is : n.kind ≡ predicate_kind → IsDistance numbers cells values n v

-- what a temporal operator is worked out from: its operands at the row; eventually and always have what an extremum over nothing is on their left
pub record TimedAsks (cells : List ℤ) (n : Node) (e : Extremum) (l r : ℤ) : Type 0 where
  pub windowed : timed (operator n.kind) ≡ true
  pub extremum_is : operator_extremum (operator n.kind) ≡ e
  pub left_two : is_child (right_use (operator n.kind)) ≡ true → n.left < NODES → l ≡ held_in cells n.left 0
  pub left_one : is_child (right_use (operator n.kind)) ≡ false → l ≡ margin_nothing TOP (dual e)
  pub right_two : is_child (right_use (operator n.kind)) ≡ true → n.right < NODES → r ≡ held_in cells n.right 0
  pub right_one : is_child (right_use (operator n.kind)) ≡ false → n.left < NODES → r ≡ held_in cells n.left 0

-- what a node holds before the row; `none` before the first
abbrev pub so_far : List ℤ → Bool → ℤ → ℕ → ℕ → ℤ
so_far cells opening none k part = cond opening none (held_in cells k part)

-- a temporal operator's margin with one sample more, where that is in the window: right there joined with what left was before it
abbrev pub margin_after : Extremum → ℤ → ℤ → ℤ → Bool → ℤ
margin_after e margin carried r here = cond here (margin_extreme e margin (margin_extreme (dual e) r carried)) margin

-- a temporal operator at the row itself, behind which there is no sample yet: right there, if its window starts now
abbrev pub newest_of : Node → Extremum → ℤ → ℤ
newest_of n e r = cond (inside (kept_window n) 0) r (margin_nothing TOP e)

-- places outside the nodes' cells keep their contents, whatever the slices hold
pub record SameBeyond (before after : List ℤ) : Type 0 where
  pub same : (i : ℕ) → (HELD_AT ≤ i → i < CELLS → ⊥) → get_or after i (pos 0) ≡ get_or before i (pos 0)

-- ---- a row that was accepted arrives
pub record Arriving (values : List ℤ) (opening : Bool) (since : ℕ) (t : Table) (c : Card) (r : Row) : Type 0 where
  pub ruled : TableRules t
  pub named : EachSet c t
  pub unnested : Unnested t
  pub fits : Fits c
  pub fits_next : Fits (with_row c r)
  pub values_are : values ≡ r.values
  pub fitting : length r.values ≡ c.setup.channels
  pub opening_is : opening ≡ eqb (rows c) 0
  pub since_is : since ≡ r.time - time (with_row c r) 0

-- the first k nodes have taken it; the others hold what they held before
pub record Taking (numbers : List ℕ) (cells : List ℤ) (t : Table) (c : Card) (r : Row) (k : ℕ) : Type 0 where
  pub planned : Planned numbers cells t c.setup
  pub done : (q : ℕ) → q < k → Held cells t (with_row c r) q
  pub waiting : (q : ℕ) → k ≤ q → q < NODES → Held cells t c q

-- node k takes the row
abbrev pub NodeTakes : List ℕ → List ℤ → List ℤ → List ℤ → Bool → ℕ → ℕ → Type 0
NodeTakes numbers before after values opening since k = (t : Table) (c : Card) (r : Row) → Arriving values opening since t c r → k < t.count → Taking numbers before t c r k → Taking numbers after t c r (suc k)
