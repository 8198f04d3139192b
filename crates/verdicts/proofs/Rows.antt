-- Numbers of rows: which row a node's values stand in, and that the rows before row r hold what row r is filled from.
-- Assumes nothing.
use mathlib.Core.Path.{◌≡◌, refl, sym, ap, ◌∙◌, subst}
use mathlib.Core.Bool.{Bool, true, false}
use mathlib.Core.List.{List}
use Prim.Native.Nat.{ℕ, ◌+◌, ◌*◌, ◌/◌, ◌%◌, ◌<◌}
use native.Mathlib.Omega.{arith}
use borrow.Author.Tests.{eq-eqb, ne_eqb}
use lib.IntN.{ℤ}
use lib.ListN.{length}
use Rattle.logic.specs.declared.Window.{Window}
use Rattle.recordings.specs.Card.{Card, rows}
use Rattle.lists.specs.Fill.{fill, fill_rows}
use Rattle.lists.proofs.Filled.{earlier_row, fill_cong, length_rows, rows_in}
use Rattle.rows.specs.Cells.{cell, Bounded}
use Rattle.tables.specs.declared.Node.{Node}
use Rattle.tables.specs.declared.Table.{Table}
use Rattle.tables.specs.Kind.{operator}
use Rattle.tables.specs.declared.Operator.{Operator}
use Rattle.tables.specs.Tree.{node_at}
use Rattle.tables.specs.Rules.{left_use, right_use, NodeRules}
use Rattle.nodes.specs.Values.{node_value}
use Rattle.nodes.specs.Asks.{NodeAsks}
use Rattle.nodes.proofs.Values.{value_same}
use Rattle.nodes.proofs.Operands.{used_agree, node_asks}
use Rattle.verdicts.specs.Rows.{strong_window, left_sign, row_of, Ready, Filled, Due}
use Rattle.verdicts.specs.Cells.{sign_of_row, strong, row_value}
use Rattle.verdicts.proofs.Strong.{strong_node, strong_bounded}

-- ---- the rows' numbers
even : (k : ℕ) → 2 * k % 2 ≡ 0
even k = omega arith

odd : (k : ℕ) → (2 * k + 1) % 2 ≡ 0 → ⊥
odd k h = omega arith

half_even : (k : ℕ) → 2 * k / 2 ≡ k
half_even k = omega arith

half_odd : (k : ℕ) → (2 * k + 1) / 2 ≡ k
half_odd k = omega arith

-- a node's row has its sign and its number
pub row_sign : (b : Bool) (k : ℕ) → sign_of_row (row_of b k) ≡ b
row_sign true k = eq-eqb (2 * k % 2) 0 (even k)
row_sign false k = ne_eqb ((2 * k + 1) % 2) 0 (odd k)

pub row_node : (b : Bool) (k : ℕ) → row_of b k / 2 ≡ k
row_node true k = half_even k
row_node false k = half_odd k

-- rows of an earlier node stand before row r
pub earlier_rows : (b : Bool) (x r : ℕ) → x < r / 2 → row_of b x < r
earlier_rows true x r h = omega arith
earlier_rows false x r h = omega arith

pub row_value_of : (c : Card) (step : ℕ) (ns : List Node) (b : Bool) (k i : ℕ) → row_value c step ns (row_of b k) i ≡ strong c step ns b k i
row_value_of c step ns b k i = rw (row_sign b k, row_node b k) refl

-- ---- what row r asks of the cells before it
module _ {c : Card} {t : Table} {step : ℕ} {work : List ℤ} {r : ℕ} (f : Filled c t step work r) where
  abbrev k : ℕ
  k = r / 2

  abbrev n : Node
  n = node_at t.nodes k

  abbrev o : Operator
  o = operator n.kind

  abbrev b : Bool
  b = sign_of_row r

  node_inside : k < t.count
  node_inside = omega (arith, f.row_inside)

  rules : NodeRules n k
  rules = f.ready.sound.ruled.each k node_inside

  -- a filled row's cells are its node's values
  filled_cell : (s : Bool) (x : ℕ) → x < k → (i : ℕ) → i < rows c → cell work (rows c) (row_of s x) i ≡ strong c step t.nodes s x i
  filled_cell s x h i l = f.done (row_of s x) i (earlier_rows s x r h) l ∙ row_value_of c step t.nodes s x i

  bounded_row : (q : ℕ) → q < r → Bounded work (rows c) q
  bounded_row q h = record { bounded = λ i l. rw (f.done q i h l) (strong_bounded c step f.ready.sound.recorded t.nodes (sign_of_row q) (q / 2) i) }

  asks : NodeAsks work c n (row_of (left_sign b o) n.left) (row_of b n.right) r
  asks = node_asks rules (earlier_rows (left_sign b o) n.left r) (earlier_rows b n.right r) f.ready.sound.recorded (f.ready.sound.named.set k node_inside) (omega (arith, earlier_row r (2 * t.count) (rows c) f.row_inside, f.ready.room)) bounded_row

  -- what the node's row function makes of these cells is what row r is to hold
  row_same : (i : ℕ) → i < rows c → node_value c b (strong_window b step o n) o n (cell work (rows c) (row_of (left_sign b o) n.left)) (cell work (rows c) (row_of b n.right)) i ≡ row_value c step t.nodes r i
  row_same i l =
      value_same c b (strong_window b step o n) o n _ _ _ _ (used_agree (left_use o) k n.left (rows c) (filled_cell (left_sign b o) n.left) rules.left) (used_agree (right_use o) k n.right (rows c) (filled_cell b n.right) rules.right) i l
      ∙ sym (strong_node c step t.nodes b k rules i)

  -- the same with the window and the rows that the code found
  asks_at : (x y : ℕ) → x ≡ row_of (left_sign b o) n.left → y ≡ row_of b n.right → NodeAsks work c n x y r
  asks_at x y p q = rw (p, q) asks

  row_filled : (w : Window) (x y : ℕ) {out : List ℤ} → w ≡ strong_window b step o n → x ≡ row_of (left_sign b o) n.left → y ≡ row_of b n.right → out ≡ fill (r * rows c) (rows c) (node_value c b w o n (cell work (rows c) x) (cell work (rows c) y)) work → out ≡ fill (r * rows c) (rows c) (row_value c step t.nodes r) work
  row_filled w x y e p q h = (rw (e, p, q) at h) ∙ fill_cong (r * rows c) (rows c) _ _ work row_same

-- the same of the node that the code was handed
module _ {c : Card} {t : Table} {n : Node} {step : ℕ} {work : List ℤ} {r : ℕ} (d : Due c t n step work r) where
  handed_on : (P : Node → Type 0) → P (node_at t.nodes (r / 2)) → P n
  handed_on P h = subst P (sym d.node_is) h

  pub due_asks : (x y : ℕ) → x ≡ row_of (left_sign (sign_of_row r) (operator n.kind)) n.left → y ≡ row_of (sign_of_row r) n.right → NodeAsks work c n x y r
  due_asks = handed_on (λ m. (x y : ℕ) → x ≡ row_of (left_sign (sign_of_row r) (operator m.kind)) m.left → y ≡ row_of (sign_of_row r) m.right → NodeAsks work c m x y r) (asks_at d.filled)

  pub due_filled : (w : Window) (x y : ℕ) {out : List ℤ} → w ≡ strong_window (sign_of_row r) step (operator n.kind) n → x ≡ row_of (left_sign (sign_of_row r) (operator n.kind)) n.left → y ≡ row_of (sign_of_row r) n.right
      → out ≡ fill (r * rows c) (rows c) (node_value c (sign_of_row r) w (operator n.kind) n (cell work (rows c) x) (cell work (rows c) y)) work → out ≡ fill (r * rows c) (rows c) (row_value c step t.nodes r) work
  due_filled w x y {out} = handed_on (λ m. w ≡ strong_window (sign_of_row r) step (operator m.kind) m → x ≡ row_of (left_sign (sign_of_row r) (operator m.kind)) m.left → y ≡ row_of (sign_of_row r) m.right
      → out ≡ fill (r * rows c) (rows c) (node_value c (sign_of_row r) w (operator m.kind) m (cell work (rows c) x) (cell work (rows c) y)) work → out ≡ fill (r * rows c) (rows c) (row_value c step t.nodes r) work) (row_filled d.filled w x y)

-- ---- the loop over the rows
module _ {c : Card} {t : Table} {step : ℕ} (w₀ : List ℤ) (ok : Ready c t step (length w₀)) {work : List ℤ} (r : ℕ) (h : work ≡ fill_rows (rows c) (row_value c step t.nodes) r w₀) where
  pub same_length : length work ≡ length w₀
  same_length = ap length h ∙ length_rows (rows c) (row_value c step t.nodes) r w₀

  pub so_far : r < 2 * t.count → Filled c t step work r
  so_far l = record {
    ready = record { sound = ok.sound; step_bound = ok.step_bound; room = rw same_length ok.room };
    row_inside = l;
    done = λ q i p s. rw h (rows_in (rows c) (row_value c step t.nodes) r w₀ q i _ p s (omega (arith, earlier_row r (2 * t.count) (rows c) l, ok.room)));
  }
