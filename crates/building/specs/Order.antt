-- "Nodes stand left, right, parent, none shared": two sentences about a table, whatever made it.
-- Assumes nothing.
use Rattle.std.specs.Prelude.{ℕ, suc, ◌+◌, ◌<◌, ◌≡◌, cond, List, [], ◌∷◌, eqb, take}
use Rattle.tables.specs.declared.Node.{Node}
use Rattle.tables.specs.declared.Table.{Table}
use Rattle.tables.specs.Kind.{operator}
use Rattle.tables.specs.Tree.{node_at}
use Rattle.tables.specs.Rules.{Use, child, number, unused, left_use, right_use}

-- what stands directly before node k: its right child, behind the left one; where it has no right child, the left one
abbrev pub Ordered : Use → Use → Node → ℕ → Type 0
Ordered child child n k = (n.left < n.right) × (suc n.right ≡ k)
Ordered child number n k = suc n.left ≡ k
Ordered child unused n k = suc n.left ≡ k
Ordered number right n k = Unit
Ordered unused right n k = Unit

abbrev pub NodeOrdered : Node → ℕ → Type 0
NodeOrdered n k = Ordered (left_use (operator n.kind)) (right_use (operator n.kind)) n k

-- left, right, parent
pub record LeftRightParent (t : Table) : Type 0 where
  pub each : (k : ℕ) → k < t.count → NodeOrdered (node_at t.nodes k) k

-- how often nodes name node c as a child
abbrev pub names : Use → ℕ → ℕ → ℕ
names child c x = cond (eqb c x) 1 0
names number c x = 0
names unused c x = 0

unfoldable pub parents : List Node → ℕ → ℕ
parents [] c = 0
parents (x ∷ xs) c = names (left_use (operator x.kind)) c x.left + names (right_use (operator x.kind)) c x.right + parents xs c

-- none shared: every node but the root is the child of one parent's one place, and the root of none
pub record NoneShared (t : Table) : Type 0 where
  pub once : (c : ℕ) → suc c < t.count → parents (take t.count t.nodes) c ≡ 1
  pub root : (c : ℕ) → suc c ≡ t.count → parents (take t.count t.nodes) c ≡ 0
