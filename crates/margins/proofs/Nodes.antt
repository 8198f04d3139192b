-- Where the earlier rows hold the margins of requirements, a node's row is filled with the margins of the node over them: the reading's line for its kind,
-- with cells for its operands' readings.
-- Assumes nothing.
use mathlib.Core.Path.{◌≡◌, refl, sym, ap, ◌∙◌, subst}
use mathlib.Core.Bool.{true, false}
use mathlib.Core.List.{List}
use Prim.Native.Nat.{ℕ, ◌*◌, ◌<◌}
use lib.Dec.{T}
use lib.IntN.{ℤ, neg_ℤ}
use Rattle.lists.specs.Fill.{fill}
use Rattle.lists.proofs.Filled.{fill_cong}
use Rattle.logic.specs.declared.Extremum.TheVariants.{Largest, Smallest}
use Rattle.logic.specs.Formula.{Formula}
use Rattle.recordings.specs.Card.{Card, rows}
use Rattle.recordings.specs.Margin.{margin, robustness}
use Rattle.tables.specs.declared.Node.{Node}
use Rattle.tables.specs.Kind.{is_not, operator}
use Rattle.tables.specs.declared.Operator.{Operator}
use Rattle.tables.specs.declared.Operator.TheVariants.{Constant, Named, Negated, Unknown, Joined, Binary, Unary}
use Rattle.tables.specs.Tree.{window, formula}
use Rattle.tables.specs.Rules.{NodeRules, left_use, right_use}
use Rattle.rows.specs.Cells.{cell}
use Rattle.nodes.specs.Values.{node_value}
use Rattle.nodes.proofs.Values.{value_same}
use Rattle.nodes.proofs.Operands.{used_agree}
use Rattle.margins.specs.Nodes.{Holds}

module _ (c : Card) (w : List ℤ) (k : ℕ) (φ : ℕ → Formula ℕ) (H : Holds c w k φ) where
  held : (x : ℕ) → x < k → (i : ℕ) → i < rows c → cell w (rows c) x i ≡ margin c (φ x) i
  held x h i a = H.holds x i h a

  -- the reading's line for each kind but "not", whose row the margin negates
  value_is : (o : Operator) (n : Node) → is_not o ≡ false → (i : ℕ) → node_value c true (window n) o n (margin c (φ n.left)) (margin c (φ n.right)) i ≡ margin c (formula o n φ) i
  unfolding node_value robustness
  value_is Constant n h i = refl
  value_is Named n h i = refl
  value_is Negated n h i = absurd (subst T h tt)
  value_is Unknown n h i = refl
  value_is (Joined e) n h i = refl
  value_is (Binary d e) n h i = refl
  value_is (Unary d Largest) n h i = refl
  value_is (Unary d Smallest) n h i = refl

  pub value_filled : (n : Node) {l : List ℤ} → NodeRules n k → is_not (operator n.kind) ≡ false → l ≡ fill (k * rows c) (rows c) (node_value c true (window n) (operator n.kind) n (cell w (rows c) n.left) (cell w (rows c) n.right)) w → l ≡ fill (k * rows c) (rows c) (margin c (formula (operator n.kind) n φ)) w
  value_filled n r h e =
      e
      ∙ fill_cong _ _ _ _ _ (λ i a.
      value_same c true (window n) (operator n.kind) n _ _ _ _ (used_agree (left_use (operator n.kind)) k n.left (rows c) (held n.left) r.left) (used_agree (right_use (operator n.kind)) k n.right (rows c) (held n.right) r.right) i a ∙ value_is (operator n.kind) n h i)

  pub negation_filled : (n : Node) {l : List ℤ} → operator n.kind ≡ Negated → n.left < k → l ≡ fill (k * rows c) (rows c) (λ i. neg_ℤ (cell w (rows c) n.left i)) w → l ≡ fill (k * rows c) (rows c) (margin c (formula (operator n.kind) n φ)) w
  unfolding robustness
  negation_filled n {l} o h e =
      subst (λ (x : Operator). l ≡ fill (k * rows c) (rows c) (margin c (formula x n φ)) w) (sym o) (e ∙ fill_cong _ _ _ _ _ (λ i a. ap neg_ℤ (H.holds n.left i h a)))
