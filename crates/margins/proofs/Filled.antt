-- Row after row: the rows before k hold the margins of the first k nodes, which lie within TOP, so node k's row can be filled from them.
-- Assumes nothing.
use mathlib.Core.Path.{◌≡◌, refl, sym, ap, ◌∙◌}
use mathlib.Core.List.{List}
use Prim.Native.Nat.{ℕ, ◌+◌, ◌*◌, ◌≤◌, ◌<◌}
use lib.IntN.{ℤ, pos}
use lib.ListN.{length}
use Rattle.lists.specs.Fill.{fill, fill_rows}
use Rattle.lists.proofs.Filled.{fill_cong, rows_in, rows_next}
use Rattle.logic.specs.Formula.{Formula}
use Rattle.recordings.specs.Card.{Card, rows}
use Rattle.recordings.specs.Accepted.{Recorded}
use Rattle.recordings.specs.Margin.{margin}
use Rattle.recordings.proofs.Margins.{measured, margin_bounded}
use Rattle.tables.specs.declared.Node.{Node}
use Rattle.tables.specs.Kind.{operator}
use Rattle.tables.specs.Tree.{tree, formula, node_at}
use Rattle.tables.specs.Rules.{NodeRules}
use Rattle.tables.proofs.Trees.{tree_node}
use Rattle.rows.specs.Cells.{Bounded}
use Rattle.margins.specs.Nodes.{Holds}

module _ (c : Card) (φ : ℕ → Formula ℕ) where
  -- rows filled with margins hold them
  pub filled_holds : (k : ℕ) (w : List ℤ) {l : List ℤ} → k * rows c ≤ length w → l ≡ fill_rows (rows c) (λ q. margin c (φ q)) k w → Holds c l k φ
  filled_holds k w h e = record { holds = λ q i a b. rw e (rows_in (rows c) (λ q. margin c (φ q)) k w q i (pos 0) a b h) }

  pub holds_bounded : {l : List ℤ} (k : ℕ) → Recorded c → Holds c l k φ → (q : ℕ) → q < k → Bounded l (rows c) q
  holds_bounded k r H q h = record { bounded = λ i a. rw (H.holds q i h a) (margin_bounded (measured r) (φ q) i) }

-- one row more
pub filled_next : (c : Card) (ns : List Node) (k : ℕ) (w : List ℤ) {l m : List ℤ} → NodeRules (node_at ns k) k → l ≡ fill_rows (rows c) (λ q. margin c (tree ns q)) k w → m ≡ fill (k * rows c) (rows c) (margin c (formula (operator (node_at ns k).kind) (node_at ns k) (tree ns))) l → m ≡ fill_rows (rows c) (λ q. margin c (tree ns q)) (k + 1) w
filled_next c ns k w r e f =
    f
    ∙ fill_cong _ _ _ _ _ (λ i a. ap (λ (ψ : Formula ℕ). margin c ψ i) (sym (tree_node ns k r)))
    ∙ rows_next (rows c) (λ q. margin c (tree ns q)) k w e

pub filled_none : (c : Card) (φ : ℕ → Formula ℕ) (w : List ℤ) → w ≡ fill_rows (rows c) (λ q. margin c (φ q)) 0 w
unfolding fill_rows
filled_none c φ w = refl
