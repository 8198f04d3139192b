-- Whether a temporal operator stands in a node, and whether one stands inside another there, is known from the node's operator and from what was noted of its operands.
-- These are earlier nodes: so the walk has noted them, and a nesting deeper down was found where it stands.
-- Assumes nothing.
use mathlib.Core.Path.{◌≡◌, refl, ◌∙◌}
use mathlib.Core.Bool.{Bool, true, false, not, ◌&&◌, ◌||◌, or-false, not-not}
use mathlib.Core.List.{List}
use Prim.Native.Nat.{ℕ, ◌+◌, ◌<◌}
use native.Mathlib.Omega.{arith}
use native.Mathlib.Decide.{ℕ_discrete}
use native.Mathlib.Numerals.{add-one}
use lib.Dec.{T}
use lib.ListN.{length, get_or, set, length-set}
use lib.Seq.{get_or-set_same, get_or-set_other}
use mir.Facts.{yes_and}
use Rattle.lists.specs.Fold.{all_below}
use Rattle.lists.proofs.Below.{same_test, all_at, Tested}
use Rattle.logic.specs.declared.Extremum.TheVariants.{Largest, Smallest}
use Rattle.logic.specs.Formula.{Formula}
use Rattle.tables.specs.declared.Node.{Node}
use Rattle.tables.specs.declared.Table.{Table}
use Rattle.tables.specs.Kind.{operator}
use Rattle.tables.specs.declared.Operator.{Operator}
use Rattle.tables.specs.declared.Operator.TheVariants.{Constant, Named, Negated, Unknown, Joined, Binary, Unary}
use Rattle.tables.specs.Tree.{NODES, formula, node_at, tree}
use Rattle.tables.specs.Rules.{Used, left_use, right_use, timed, NodeRules, TableRules}
use Rattle.tables.proofs.Trees.{tree_node}
use Rattle.nesting.specs.Nesting.{momentary, unnested}
use Rattle.nesting.specs.Operands.{in_operands}

-- a temporal operator stands in it
abbrev lasting : Formula ℕ → Bool
lasting φ = not (momentary φ)

one_lasts : (a b : Bool) → not a || not b ≡ not (a && b)
one_lasts true b = refl
one_lasts false b = refl

none_lasts : (a b : Bool) → not (not a || not b) ≡ a && b
none_lasts a b = rw one_lasts (not-not (a && b))

alone : (a : Bool) → not (not a || false) ≡ a
alone a = rw or-false (not-not a)

-- ---- a node of a table, where of earlier nodes is noted whether a temporal operator stands in them
module _ (ns : List Node) (k : ℕ) (noted : ℕ → Bool) (before : (c : ℕ) → c < k → noted c ≡ lasting (tree ns c)) where
  abbrev n : Node
  n = node_at ns k

  abbrev below : Operator → Bool
  below o = in_operands o (noted n.left) (noted n.right)

  by_operator : (o : Operator) → Used (left_use o) k n.left → Used (right_use o) k n.right → timed o || below o ≡ lasting (formula o n (tree ns))
  by_operator Constant l r = refl
  by_operator Named l r = refl
  by_operator Negated l r = rw or-false (before n.left l)
  by_operator Unknown l r = refl
  by_operator (Joined e) l r = rw (before n.left l, before n.right r) (one_lasts (momentary (tree ns n.left)) (momentary (tree ns n.right)))
  by_operator (Binary d e) l r = refl
  by_operator (Unary d e) l r = refl

  lasting_node : NodeRules (node_at ns k) k → timed (operator n.kind) || below (operator n.kind) ≡ lasting (tree ns k)
  lasting_node r = rw (tree_node ns k r) (by_operator (operator n.kind) r.left r.right)

  -- and no earlier node nests
  module _ (earlier : (c : ℕ) → c < k → T (unnested (tree ns c))) where
    nested_by_operator : (o : Operator) → Used (left_use o) k n.left → Used (right_use o) k n.right → not (timed o && below o) ≡ unnested (formula o n (tree ns))
    nested_by_operator Constant l r = refl
    nested_by_operator Named l r = refl
    nested_by_operator Negated l r = same_test (λ _. earlier n.left l) (λ _. tt)
    nested_by_operator Unknown l r = refl
    nested_by_operator (Joined e) l r =
        same_test (λ _. yes_and (unnested (tree ns n.left)) (unnested (tree ns n.right)) (earlier n.left l) (earlier n.right r)) (λ _. tt)
    nested_by_operator (Binary d e) l r = rw (before n.left l, before n.right r) (none_lasts (momentary (tree ns n.left)) (momentary (tree ns n.right)))
    nested_by_operator (Unary d Largest) l r = rw (before n.left l) (alone (momentary (tree ns n.left)))
    nested_by_operator (Unary d Smallest) l r = rw (before n.left l) (alone (momentary (tree ns n.left)))

    unnested_node : NodeRules (node_at ns k) k → not (timed (operator n.kind) && below (operator n.kind)) ≡ unnested (tree ns k)
    unnested_node r = rw (tree_node ns k r) (nested_by_operator (operator n.kind) r.left r.right)

-- ---- the walk over a table's nodes

-- no temporal operator stands inside another in node j
abbrev clear : Table → ℕ → Bool
clear t j = unnested (tree t.nodes j)

-- before node k, `ok` says whether all earlier nodes are clear, and in the place of each is noted whether a temporal operator stands in it
pub record Noted (t : Table) (k : ℕ) (notes : List Bool) (ok : Bool) : Type 0 where
  pub tested : Tested (clear t) t.count k ok
  pub long : length notes ≡ NODES
  pub each : (j : ℕ) → j < k → get_or notes j false ≡ lasting (tree t.nodes j)

-- two tests that are the same where a third holds
where_so : (a : Bool) {b c : Bool} → (T a → b ≡ c) → a && b ≡ a && c
where_so true h = h tt
where_so false h = refl

module _ (t : Table) (rules : TableRules t) (k : ℕ) (h : k < t.count) where
  abbrev node : Node
  node = node_at t.nodes k

  pub noted_next : (notes : List Bool) {ok a b : Bool} → Noted t k notes ok → a ≡ timed (operator (node_at t.nodes k).kind)
      → b ≡ in_operands (operator (node_at t.nodes k).kind) (get_or notes (node_at t.nodes k).left false) (get_or notes (node_at t.nodes k).right false)
      → Noted t (k + 1) (set notes k (a || b)) (ok && not (a && b))
  noted_next notes {ok} {a} {b} i p q = record { tested = record { inside = omega arith; so_far = so_far }; long = length-set notes k (a || b) ∙ i.long; each = each }
    where
      noted : ℕ → Bool
      noted j = get_or notes j false

      so_far : ok && not (a && b) ≡ all_below (clear t) (k + 1)
      so_far = rw (add-one k, i.tested.so_far) (where_so (all_below (clear t) k) (λ s. rw (p, q) (unnested_node t.nodes k noted i.each (all_at (clear t) k s) (rules.each k h))))

      each : (j : ℕ) → j < k + 1 → get_or (set notes k (a || b)) j false ≡ lasting (tree t.nodes j)
      each j g = elim (ℕ_discrete j k) [
        | yes e ↦ rw e (get_or-set_same notes k (a || b) false (omega (arith, rules.few_nodes, i.long)) ∙ (rw (p, q) (lasting_node t.nodes k noted i.each (rules.each k h))))
        | no e ↦ get_or-set_other notes k j (a || b) false e ∙ i.each j (omega arith)
      ]
