-- A table that obeys the rules: each of its nodes is ruled, so the tree of its root is one that the grammar has; and the numbers that its nodes are laid out in give the same tree.
-- Assumes nothing.
use mathlib.Core.Path.{◌≡◌, refl, sym, ap, ◌∙◌}
use mathlib.Core.List.{List, [], append-nil}
use Prim.Native.Nat.{ℕ, zero, suc, ◌-◌, ◌≤◌, ◌<◌}
use native.Mathlib.Omega.{arith}
use native.Mathlib.Decide.{dec_le}
use borrow.Author.Tests.{le-leb, lt-leb}
use lib.ListN.{length}
use Rattle.tables.specs.declared.Node.{Node}
use Rattle.tables.specs.declared.Table.{Table}
use Rattle.tables.specs.Kind.{operator}
use Rattle.tables.specs.declared.Operator.{Operator}
use Rattle.tables.specs.declared.Operator.TheVariants.{Constant, Named, Negated, Unknown, Joined, Binary, Unary}
use Rattle.tables.specs.Tree.{NODES, node_at}
use Rattle.tables.specs.Rules.{Use, child, number, unused, left_use, right_use, Used, NodeRules, TableRules}
use Rattle.grammar.specs.Tree.{Tree}
use Rattle.building.specs.Storing.{CELLS, cells_of, node_from, table_from}
use Rattle.building.specs.Unshared.{tree_by, unshared, tree_of}
use Rattle.building.proofs.Cells.{length_cells, node_back, node_kept}
use Rattle.building.proofs.Unshared.{unshared_node, unshared_alike}
use Rattle.requirements.proofs.Rules.{Proper}
use Rattle.writing.specs.Ruled.{Ruled, HoldsNodes}

-- ---- ruled

pub table_ruled : (t : Table) → TableRules t → Ruled (node_at t.nodes) (t.count - 1)
table_ruled t r = record { inside = omega (arith, r.few_nodes, r.some_node); each = λ j l. r.each j (omega (arith, r.some_node)) }

ruled_alike : (at bt : ℕ → Node) (k : ℕ) → ((j : ℕ) → j ≤ k → bt j ≡ at j) → Ruled at k → Ruled bt k
ruled_alike at bt k e r = record { inside = r.inside; each = λ j l. rw (e j l) (r.each j l) }

-- ---- proper

no_number : (o : Operator) → right_use o ≡ number → ⊥
no_number Constant e = let z : ◌≡◌ {A = ℕ} 0 1 = cc in omega arith
no_number Named e = let z : ◌≡◌ {A = ℕ} 0 1 = cc in omega arith
no_number Negated e = let z : ◌≡◌ {A = ℕ} 0 1 = cc in omega arith
no_number Unknown e = let z : ◌≡◌ {A = ℕ} 0 1 = cc in omega arith
no_number (Joined x) e = let z : ◌≡◌ {A = ℕ} 0 1 = cc in omega arith
no_number (Binary d x) e = let z : ◌≡◌ {A = ℕ} 0 1 = cc in omega arith
no_number (Unary d x) e = let z : ◌≡◌ {A = ℕ} 0 1 = cc in omega arith

proper_by : (u v : Use) (n : Node) (k : ℕ) (f : ℕ → Tree) → left_use (operator n.kind) ≡ u → right_use (operator n.kind) ≡ v → NodeRules n k → Used u k n.left → Used v k n.right
    → ((c : ℕ) → c < k → Proper (f c)) → Proper (tree_by u v n f)
proper_by child child n k f a b r l m h = (record { known = r.known; lefts = a; rights = b; ends = r.ends }, h n.left l, h n.right m)
proper_by child number n k f a b r l m h = absurd (no_number (operator n.kind) b)
proper_by child unused n k f a b r l m h = (record { known = r.known; lefts = a; rights = b; ends = r.ends }, h n.left l)
proper_by number v n k f a b r l m h = l
proper_by unused v n k f a b r l m h = tt

-- by the node's number: f bounds it
proper_below : (at : ℕ → Node) (f k : ℕ) → k < f → Ruled at k → Proper (unshared at k)
proper_below at zero k h r = absurd (omega arith)
proper_below at (suc f) k h r =
    let n = r.each k (omega arith) in
    rw (unshared_node at k n)
    (proper_by (left_use (operator (at k).kind)) (right_use (operator (at k).kind)) (at k) k (unshared at) refl refl n n.left n.right
    (λ c l. proper_below at f c (omega arith) (record { inside = omega (arith, r.inside); each = λ j i. r.each j (omega arith) })))

pub tree_proper : (t : Table) → TableRules t → Proper (tree_of t)
tree_proper t r = proper_below (node_at t.nodes) (suc t.count) (t.count - 1) (omega arith) (table_ruled t r)

-- ---- laid out

-- the numbers of all its nodes hold them
pub cells_hold : (t : Table) (cells : List ℕ) → cells ≡ cells_of t.nodes → length cells ≡ CELLS → HoldsNodes cells t
cells_hold t cells e l j few h = ap (λ (c : List ℕ). node_from c j) (e ∙ sym (append-nil (cells_of t.nodes))) ∙ node_back t.nodes [] j (omega (arith, l, ap length e, length_cells t.nodes))

-- any cells hold the table that is read from them
pub from_hold : (cells : List ℕ) (count : ℕ) → HoldsNodes cells (table_from cells count)
from_hold cells count = go (dec_le count NODES)
  where
    go : Dec (count ≤ NODES) → HoldsNodes cells (table_from cells count)
    go (yes l) = rw (le-leb count NODES l) (λ j few h. sym (node_kept cells count j h l))
    go (no l) = rw (lt-leb count NODES (omega arith)) (λ j few h. absurd (omega arith))

module _ (t : Table) (cells : List ℕ) (same : HoldsNodes cells t) (r : TableRules t) where
  pub laid_ruled : Ruled (node_from cells) (t.count - 1)
  laid_ruled = ruled_alike (node_at t.nodes) (node_from cells) (t.count - 1) (λ j h. same j (omega (arith, r.few_nodes, r.some_node)) (omega (arith, r.some_node))) (table_ruled t r)

  pub laid_tree : unshared (node_from cells) (t.count - 1) ≡ tree_of t
  laid_tree = unshared_alike (node_at t.nodes) (node_from cells) (t.count - 1) (λ j h. same j (omega (arith, r.few_nodes, r.some_node)) (omega (arith, r.some_node)))
