-- The strengthened margin of a node comes from its children's, sign by sign: pushing "not" down and strengthening both go through a node one operator at a time.
-- Assumes nothing.
use mathlib.Core.Path.{◌≡◌, refl, ap, ◌∙◌}
use mathlib.Core.Bool.{Bool, true, false}
use mathlib.Core.List.{List}
use Prim.Native.Nat.{ℕ}
use Rattle.numbers.specs.Order.{Within}
use Rattle.logic.specs.declared.Extremum.TheVariants.{Largest, Smallest}
use Rattle.logic.specs.Formula.{Formula}
use Rattle.logic.specs.Strengthening.{strengthened}
use Rattle.recordings.specs.Card.{Card}
use Rattle.recordings.specs.Distance.{TOP}
use Rattle.recordings.specs.Margin.{robustness, margin}
use Rattle.recordings.specs.Accepted.{Recorded}
use Rattle.recordings.proofs.Margins.{measured, margin_bounded}
use Rattle.tables.specs.declared.Node.{Node}
use Rattle.tables.specs.Kind.{operator}
use Rattle.tables.specs.declared.Operator.{Operator}
use Rattle.tables.specs.declared.Operator.TheVariants.{Constant, Named, Negated, Unknown, Joined, Binary, Unary}
use Rattle.tables.specs.Tree.{formula, node_at, tree}
use Rattle.tables.specs.Rules.{NodeRules}
use Rattle.tables.proofs.Trees.{tree_node}
use Rattle.nodes.specs.Values.{node_value}
use Rattle.verdicts.specs.Cells.{strong}
use Rattle.verdicts.specs.Rows.{strong_window, left_sign}

module _ (c : Card) (step : ℕ) where
  -- a node over any requirements of its children
  by_kind : (o : Operator) (b : Bool) (n : Node) (sub : ℕ → Formula ℕ) (i : ℕ) → margin c (strengthened step b (formula o n sub)) i ≡ node_value c b (strong_window b step o n) o n (margin c (strengthened step (left_sign b o) (sub n.left))) (margin c (strengthened step b (sub n.right))) i
  unfolding robustness node_value
  by_kind Constant true n sub i = refl
  by_kind Constant false n sub i = refl
  by_kind Named true n sub i = refl
  by_kind Named false n sub i = refl
  by_kind Negated b n sub i = refl
  by_kind Unknown true n sub i = refl
  by_kind Unknown false n sub i = refl
  by_kind (Joined e) b n sub i = refl
  by_kind (Binary d e) b n sub i = refl
  by_kind (Unary d Largest) true n sub i = refl
  by_kind (Unary d Largest) false n sub i = refl
  by_kind (Unary d Smallest) true n sub i = refl
  by_kind (Unary d Smallest) false n sub i = refl

  pub strong_node : (ns : List Node) (b : Bool) (k : ℕ) → NodeRules (node_at ns k) k → (i : ℕ) → strong c step ns b k i ≡ node_value c b (strong_window b step (operator (node_at ns k).kind) (node_at ns k)) (operator (node_at ns k).kind) (node_at ns k) (strong c step ns (left_sign b (operator (node_at ns k).kind)) (node_at ns k).left) (strong c step ns b (node_at ns k).right) i
  unfolding strong
  strong_node ns b k r i =
      ap (λ (φ : Formula ℕ). margin c (strengthened step b φ) i) (tree_node ns k r)
      ∙ by_kind (operator (node_at ns k).kind) b (node_at ns k) (tree ns) i

  pub strong_bounded : Recorded c → (ns : List Node) (b : Bool) (k i : ℕ) → Within TOP (strong c step ns b k i)
  unfolding strong
  strong_bounded ok ns b k i = margin_bounded (measured ok) (strengthened step b (tree ns k)) i
