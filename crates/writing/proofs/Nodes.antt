-- What is written of a node, by what its numbers are: two children, one, or none. The pieces printed one after the other are the text of the node's tree where a part is due.
-- Assumes nothing.
use mathlib.Core.Path.{◌≡◌, refl, sym, ap, ◌∙◌}
use mathlib.Core.List.{List, ◌++◌, append_assoc}
use mathlib.Core.Bool.{true, false, cond}
use Prim.Native.Nat.{ℕ, ◌<◌}
use native.Mathlib.Omega.{arith}
use lib.Dec.{eqb}
use Rattle.text.proofs.Tests.{by_test, false_true}
use Rattle.printing.specs.Output.{Output, printed}
use Rattle.printing.proofs.Printed.{printed_then}
use Rattle.tables.specs.declared.Node.{Node}
use Rattle.tables.specs.Kind.{operator, predicate_kind}
use Rattle.tables.specs.declared.Operator.{Operator}
use Rattle.tables.specs.declared.Operator.TheVariants.{Constant, Named, Negated, Unknown, Joined, Binary, Unary}
use Rattle.tables.specs.Rules.{child, number, unused, is_child, left_use, right_use, NodeRules}
use Rattle.tables.proofs.Rules.{child_before}
use Rattle.tables.proofs.EveryKind.{left_is}
use Rattle.grammar.specs.declared.Part.{Part}
use Rattle.grammar.specs.declared.Part.TheVariants.{Unary as unary}
use Rattle.building.specs.Unshared.{node_tree, unshared}
use Rattle.building.proofs.Unshared.{unshared_node}
use Rattle.spelling.specs.Text.{part_of, left_part, right_part, sign, text_as}
use Rattle.spelling.specs.Pieces.{opening, closing}
use Rattle.spelling.proofs.Pairs.{grouped_pieces}
use Rattle.writing.specs.Ruled.{Ruled, leaf_text}

-- ---- what the tests of a kind say of its numbers

pub two_uses : (o : Operator) → is_child (right_use o) ≡ true → (left_use o ≡ child) × (right_use o ≡ child)
two_uses Constant h = absurd (false_true h)
two_uses Named h = absurd (false_true h)
two_uses Negated h = absurd (false_true h)
two_uses Unknown h = absurd (false_true h)
two_uses (Joined e) h = (refl, refl)
two_uses (Binary d e) h = (refl, refl)
two_uses (Unary d e) h = absurd (false_true h)

pub one_uses : (o : Operator) → is_child (right_use o) ≡ false → is_child (left_use o) ≡ true → (left_use o ≡ child) × (right_use o ≡ unused)
one_uses Constant g h = absurd (false_true h)
one_uses Named g h = absurd (false_true h)
one_uses Negated g h = (refl, refl)
one_uses Unknown g h = absurd (false_true h)
one_uses (Joined e) g h = absurd (false_true (sym g))
one_uses (Binary d e) g h = absurd (false_true (sym g))
one_uses (Unary d e) g h = (refl, refl)

module _ (at : ℕ → Node) (k : ℕ) (n : Node) (e : n ≡ at k) (ruled : Ruled at k) where
  -- the rules of the node itself
  own_rules : NodeRules n k
  own_rules = rw e (ruled.each k (omega arith))

  -- an earlier node's rules
  earlier : (j : ℕ) → j < k → Ruled at j
  earlier j l = record { inside = omega (arith, ruled.inside); each = λ i h. ruled.each i (omega arith) }

  pub left_before : left_use (operator n.kind) ≡ child → (n.left < k) × Ruled at n.left
  left_before c = let l = child_before _ k n.left own_rules.left c in (l, earlier n.left l)

  pub right_before : right_use (operator n.kind) ≡ child → (n.right < k) × Ruled at n.right
  right_before c = let l = child_before _ k n.right own_rules.right c in (l, earlier n.right l)

  tree_is : unshared at k ≡ node_tree n (unshared at)
  tree_is = rw e (unshared_node at k (ruled.each k (omega arith)))

  -- ---- the text in pieces

  two_text : (due : Part) → is_child (right_use (operator n.kind)) ≡ true
      → text_as due (unshared at k) ≡ opening due (part_of n.kind) ++ (text_as (left_part (part_of n.kind)) (unshared at n.left) ++ (sign n.kind n.span ++ (text_as (right_part (part_of n.kind)) (unshared at n.right) ++ closing due (part_of n.kind))))
  unfolding text_as
  two_text due h =
      let u = two_uses (operator n.kind) h in
      let p : Part = part_of n.kind in
      let l : List ℕ = text_as (left_part p) (unshared at n.left) in
      let s : List ℕ = sign n.kind n.span in
      let r : List ℕ = text_as (right_part p) (unshared at n.right) in
      rw (tree_is, u.0, u.1)
      (grouped_pieces due p (l ++ (s ++ r)) ∙ ap (λ (w : List ℕ). opening due p ++ w) (append_assoc l (s ++ r) (closing due p) ∙ ap (λ (w : List ℕ). l ++ w) (append_assoc s r (closing due p))))

  pub two_printed : (due own left right : Part) → is_child (right_use (operator n.kind)) ≡ true → own ≡ part_of n.kind → left ≡ left_part own → right ≡ right_part own
      → (o : Output) {p q r s t : Output} → p ≡ printed o (opening due own) → q ≡ printed p (text_as left (unshared at n.left)) → r ≡ printed q (sign n.kind n.span)
      → s ≡ printed r (text_as right (unshared at n.right)) → t ≡ printed s (closing due own) → t ≡ printed o (text_as due (unshared at k))
  two_printed due own left right h i j m o a b c d f =
      let z = printed_then o _ _ a (printed_then _ _ _ b (printed_then _ _ _ c (printed_then _ _ _ d f))) in
      let y = rw (m, j, i) at z in
      y ∙ ap (printed o) (sym (two_text due h))

  pub one_printed : (due : Part) → is_child (right_use (operator n.kind)) ≡ false → is_child (left_use (operator n.kind)) ≡ true
      → (o : Output) {p q : Output} → p ≡ printed o (sign n.kind n.span) → q ≡ printed p (text_as unary (unshared at n.left)) → q ≡ printed o (text_as due (unshared at k))
  unfolding text_as
  one_printed due g h o a b =
      let u = one_uses (operator n.kind) g h in
      rw (tree_is, u.0, u.1) (printed_then o _ _ a b)

  pub leaf_printed : (due : Part) → is_child (left_use (operator n.kind)) ≡ false → (o : Output) {p : Output} → p ≡ printed o (leaf_text n) → p ≡ printed o (text_as due (unshared at k))
  unfolding text_as
  leaf_printed due h o a = a ∙ ap (printed o) (sym (by_test (eqb n.kind predicate_kind) (λ t. rw (tree_is, leaf_use t, t) refl) (λ t. rw (tree_is, other_use t, t) refl)))
    where
      used : left_use (operator n.kind) ≡ cond (eqb n.kind predicate_kind) number unused
      used = rw h at (left_is n.kind)

      leaf_use : eqb n.kind predicate_kind ≡ true → left_use (operator n.kind) ≡ number
      leaf_use t = rw t at used

      other_use : eqb n.kind predicate_kind ≡ false → left_use (operator n.kind) ≡ unused
      other_use t = rw t at used
