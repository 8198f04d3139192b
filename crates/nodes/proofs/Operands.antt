-- The rules say which of a node's numbers are children, and that those are earlier nodes. So where earlier nodes have earlier rows, the node's operands stand
-- before its row; and where those rows hold certain values, they are its operands' values.
-- Assumes nothing.
use mathlib.Core.Path.{◌≡◌, subst}
use mathlib.Core.List.{List}
use Prim.Native.Nat.{ℕ, ◌+◌, ◌*◌, ◌≤◌, ◌<◌}
use lib.IntN.{ℤ}
use lib.ListN.{length}
use Rattle.recordings.specs.declared.Range.TheVariants.{Unset}
use Rattle.recordings.specs.Card.{Card, rows, predicate}
use Rattle.recordings.specs.Accepted.{Recorded}
use Rattle.rows.specs.Cells.{Bounded}
use Rattle.tables.specs.declared.Node.{Node}
use Rattle.tables.specs.Kind.{operator, predicate_kind}
use Rattle.tables.specs.Rules.{NodeRules, Use, child, number, unused, Used, left_use, right_use}
use Rattle.nodes.specs.Asks.{Earlier, Agree, NodeAsks}

used_earlier : (u : Use) (k x : ℕ) {from row : ℕ} → (x < k → from < row) → Used u k x → Earlier u from row
used_earlier child k x f h = f h
used_earlier number k x f h = tt
used_earlier unused k x f h = tt

pub used_agree : (u : Use) (k x n : ℕ) {f g : ℕ → ℤ} → (x < k → (i : ℕ) → i < n → f i ≡ g i) → Used u k x → Agree u n f g
used_agree child k x n f h = f h
used_agree number k x n f h = tt
used_agree unused k x n f h = tt

-- `place`, `other` say that an earlier node's row, as left and as right operand, stands before the row that is filled
pub node_asks : {work : List ℤ} {c : Card} {n : Node} {k left right row : ℕ} → NodeRules n k → (n.left < k → left < row) → (n.right < k → right < row) → Recorded c → (n.kind ≡ predicate_kind → (predicate c n.left).range ≡ Unset → ⊥) → row * rows c + rows c ≤ length work → ((q : ℕ) → q < row → Bounded work (rows c) q) → NodeAsks work c n left right row
node_asks {n} {k} r place other recorded set room bounded = record {
  recorded = recorded;
  left_earlier = used_earlier (left_use (operator n.kind)) k n.left place r.left;
  right_earlier = used_earlier (right_use (operator n.kind)) k n.right other r.right;
  numbered = λ e. subst (λ (x : ℕ). Used (left_use (operator x)) k n.left) e r.left;
  set = set;
  room = room;
  bounded = bounded;
}
