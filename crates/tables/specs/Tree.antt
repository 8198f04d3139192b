-- The requirement that a table's node stands for: the node's kind over the requirements of its children, which are earlier nodes.
-- Assumes nothing.
use Rattle.std.specs.Prelude.{cond, List, [], ◌∷◌, ◌++◌, ℕ, zero, suc, ◌+◌, ◌-◌, eqb, get_or}
use Rattle.logic.specs.declared.Stop.TheVariants.{Endless, Before}
use Rattle.logic.specs.declared.Window.{Window}
use Rattle.logic.specs.declared.Extremum.{Extremum}
use Rattle.logic.specs.declared.Extremum.TheVariants.{Largest, Smallest}
use Rattle.logic.specs.Formula.{Formula, truth, atom, negation, junction, temporal}
use Rattle.tables.specs.declared.Span.{Span}
use Rattle.tables.specs.declared.Node.{Node}
use Rattle.tables.specs.declared.Table.{Table}
use Rattle.tables.specs.Kind.{operator}
use Rattle.tables.specs.declared.Operator.{Operator}
use Rattle.tables.specs.declared.Operator.TheVariants.{Constant, Named, Negated, Unknown, Joined, Binary, Unary}

-- a table has up to so many nodes
abbrev pub NODES : ℕ
NODES = 64

-- the ends of a window go up to this; and hi for a window without end
abbrev pub LONGEST : ℕ
LONGEST = 1_000_000_000

abbrev pub NO_END : ℕ
NO_END = 4_294_967_295

-- a window as it is written: its ends, and for each the mark that excludes it; with both ends counted; and the numbers of a kind without a window
abbrev pub marked : ℕ → ℕ → ℕ → ℕ → Span
marked lo hi openlo openhi = record { lo = lo; hi = hi; openlo = openlo; openhi = openhi }

abbrev pub span : ℕ → ℕ → Span
span lo hi = marked lo hi 0 0

abbrev pub no_span : Span
no_span = span 0 0

-- the window as it is read: an excluded low end reads as lo + 1, an excluded high end as hi - 1; what is read is counted, so the first second past it is hi + 1, or hi
abbrev pub as_read : Span → Window
as_read w = record { from = w.lo + w.openlo; stop = cond (eqb w.hi NO_END) Endless (Before (suc w.hi - w.openhi)) }

abbrev pub window : Node → Window
window n = as_read n.span

-- what stands left of a single operand: eventually is until from true, always is release from false
abbrev pub unary_left : Extremum → Formula ℕ
unary_left Largest = truth
unary_left Smallest = negation truth

-- a node over the requirements of earlier nodes
abbrev pub formula : Operator → Node → (ℕ → Formula ℕ) → Formula ℕ
formula Constant n child = truth
formula Named n child = atom n.left
formula Negated n child = negation (child n.left)
formula Unknown n child = truth
formula (Joined e) n child = junction e (child n.left) (child n.right)
formula (Binary d e) n child = temporal d e (window n) (child n.left) (child n.right)
formula (Unary d e) n child = temporal d e (window n) (unary_left e) (child n.left)

abbrev pub node_at : List Node → ℕ → Node
node_at ns k = get_or ns k (record { kind = 0; left = 0; right = 0; span = no_span })

-- what each of the first k nodes is taken for, `of` giving it from a node and what its children are taken for: they are earlier nodes, and it looks them up among those
unfoldable pub meanings : {A : Type 0} → (Node → (ℕ → A) → A) → A → (ℕ → Node) → ℕ → List A
meanings of none at zero = []
meanings of none at (suc k) = meanings of none at k ++ (of (at k) (λ child. get_or (meanings of none at k) child none) ∷ [])

-- of node k
unfoldable pub meaning : {A : Type 0} → (Node → (ℕ → A) → A) → A → (ℕ → Node) → ℕ → A
meaning of none at k = get_or (meanings of none at (suc k)) k none

-- the requirement of node k
abbrev pub node_formula : Node → (ℕ → Formula ℕ) → Formula ℕ
node_formula n child = formula (operator n.kind) n child

unfoldable pub tree : List Node → ℕ → Formula ℕ
tree ns k = meaning node_formula truth (node_at ns) k

-- the root is the last node
abbrev pub root : Table → Formula ℕ
root t = tree t.nodes (t.count - 1)
