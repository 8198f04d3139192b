-- A node's tree is its kind over the trees of its children, and says the node's requirement.
-- Assumes nothing.
use mathlib.Core.Path.{◌≡◌, refl}
use mathlib.Core.List.{List}
use Prim.Native.Nat.{ℕ, ◌-◌, ◌≤◌}
use Rattle.logic.specs.Formula.{Formula}
use Rattle.tables.specs.declared.Node.{Node}
use Rattle.tables.specs.declared.Table.{Table}
use Rattle.tables.specs.Kind.{operator}
use Rattle.tables.specs.declared.Operator.{Operator}
use Rattle.tables.specs.declared.Operator.TheVariants.{Constant, Named, Negated, Unknown, Joined, Binary, Unary}
use Rattle.tables.specs.Tree.{formula, node_formula, node_at, tree, root}
use Rattle.tables.specs.Rules.{Use, child, number, unused, left_use, right_use, NodeRules}
use Rattle.tables.proofs.Rules.{child_before}
use Rattle.tables.proofs.Trees.{meaning_node, meaning_turned}
use Rattle.grammar.specs.Tree.{Tree, truth}
use Rattle.building.specs.Says.{says}
use Rattle.building.specs.Unshared.{tree_by, node_tree, unshared, tree_of}

-- a node asks for nothing but its children
tree_same : (u v : Use) (n : Node) (f g : ℕ → Tree) → (u ≡ child → f n.left ≡ g n.left) → (v ≡ child → f n.right ≡ g n.right) → tree_by u v n f ≡ tree_by u v n g
tree_same child child n f g l r = rw (l refl, r refl)
tree_same child number n f g l r = rw (l refl)
tree_same child unused n f g l r = rw (l refl)
tree_same number v n f g l r = refl
tree_same unused v n f g l r = refl

pub unshared_node : (at : ℕ → Node) (k : ℕ) → NodeRules (at k) k → unshared at k ≡ node_tree (at k) (unshared at)
unfolding unshared
unshared_node at k r =
    let u : Use = left_use (operator (at k).kind) in
    let v : Use = right_use (operator (at k).kind) in
    meaning_node node_tree truth at k (λ f g h. tree_same u v (at k) f g (λ e. h (at k).left (child_before u k (at k).left r.left e)) (λ e. h (at k).right (child_before v k (at k).right r.right e)))

-- equal nodes have equal trees
pub unshared_alike : (at bt : ℕ → Node) (k : ℕ) → ((j : ℕ) → j ≤ k → bt j ≡ at j) → unshared bt k ≡ unshared at k
unfolding unshared
unshared_alike at bt k e = meaning_turned node_tree truth node_tree (λ a. a) at bt k
    (λ j l f g h. rw (e j l) (tree_same (left_use (operator (at j).kind)) (right_use (operator (at j).kind)) (at j) g f (λ _. h (at j).left) (λ _. h (at j).right)))

-- what a node's tree says, by its operator
says_by : (o : Operator) (n : Node) → operator n.kind ≡ o → (f : ℕ → Tree) (g : ℕ → Formula ℕ) → ((c : ℕ) → g c ≡ says (f c)) → formula o n g ≡ says (tree_by (left_use o) (right_use o) n f)
unfolding says
says_by Constant n e f g h = refl
says_by Named n e f g h = refl
says_by Negated n e f g h = rw (e, h n.left)
says_by Unknown n e f g h = refl
says_by (Joined x) n e f g h = rw (e, h n.left, h n.right)
says_by (Binary d x) n e f g h = rw (e, h n.left, h n.right)
says_by (Unary d x) n e f g h = rw (e, h n.left)

pub unshared_says : (ns : List Node) (k : ℕ) → tree ns k ≡ says (unshared (node_at ns) k)
unfolding tree unshared says
unshared_says ns k = meaning_turned node_tree truth node_formula says (node_at ns) (node_at ns) k (λ j l f g h. says_by (operator (node_at ns j).kind) (node_at ns j) refl f g h)

-- so a table's tree says the requirement of its root
pub tree_says : (t : Table) → root t ≡ says (tree_of t)
tree_says t = unshared_says t.nodes (t.count - 1)
