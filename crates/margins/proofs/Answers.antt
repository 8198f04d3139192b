-- Refusal 8 comes after 3 to 7. Where a number applies, the answer is that number with margin 0 and the cells are as they were; where none does, it is the
-- root's margin at sample 0, which is read back from the root's row.
-- Assumes nothing.
use Rattle.std.proofs.Common.{Ok, Err}
use mathlib.Core.Path.{◌≡◌, sym, ap₂, ◌∙◌}
use mathlib.Core.List.{List, [], ◌∷◌}
use Prim.Native.Nat.{ℕ, ◌*◌, ◌+◌, ◌-◌, ◌≤◌, ◌<◌}
use native.Mathlib.Omega.{arith}
use native.Mathlib.Nat.{mul-le-mul_right}
use lib.Dec.{leb→le}
use lib.IntN.{ℤ, pos}
use lib.ListN.{length}
use borrow.Author.Tests.{lt-leb, le-leb}
use Rattle.lists.specs.Fill.{fill_rows}
use Rattle.lists.proofs.Filled.{earlier_row, rows_in}
use Rattle.recordings.specs.Card.{Card, rows}
use Rattle.recordings.specs.Margin.{margin}
use Rattle.rows.specs.Cells.{cell}
use Rattle.tables.specs.declared.Table.{Table}
use Rattle.tables.specs.Tree.{tree, root}
use Rattle.refusals.specs.declared.Refusal.{Refusal}
use Rattle.refusals.specs.First.{first}
use Rattle.refusals.specs.Number.{number}
use Rattle.rules.specs.Refusals.{checks, Sound}
use Rattle.refusals.proofs.First.{first_stays, first_here, first_behind, parts_none, unless_none, unless_some}
use Rattle.refusals.proofs.Number.{not_none}
use Rattle.rules.proofs.Refusals.{sound}
use Rattle.margins.specs.Answers.{margin_outcome, margin_room, margin_refusal, margin_judged, margin_cells}

module _ (c : Card) (t : Table) (cells : ℕ) where
  pub refusal_early : (first (checks c t) ≡ 0 → ⊥) → margin_refusal c t cells ≡ first (checks c t)
  refusal_early h = first_stays (checks c t) (margin_room c t cells ∷ []) h

  pub refusal_room : first (checks c t) ≡ 0 → cells < t.count * rows c → margin_refusal c t cells ≡ 8
  refusal_room e h = first_here (checks c t) (margin_room c t cells) [] tt e (lt-leb (t.count * rows c) cells h)

  pub refusal_none : first (checks c t) ≡ 0 → t.count * rows c ≤ cells → margin_refusal c t cells ≡ 0
  unfolding first
  refusal_none e h = first_behind (checks c t) (margin_room c t cells) [] tt e (le-leb (t.count * rows c) cells h)

  -- number 0 says that none of refusals 3 to 8 applies
  pub accepted : margin_refusal c t cells ≡ 0 → Sound c t × (t.count * rows c ≤ cells)
  accepted e = let p = parts_none (checks c t) (margin_room c t cells) [] tt tt e in (sound c t p.0, leb→le (t.count * rows c) cells p.1)

  -- ---- the answer
  pub refused_outcome : (r : Refusal) → number r ≡ margin_refusal c t cells → margin_outcome (Err r) ≡ margin_judged c t cells
  unfolding margin_judged
  refused_outcome r e = ap₂ (λ (x : ℕ) (y : ℤ). record { number = x; margin = y }) e (sym (unless_some _ _ _ (λ z. not_none r (e ∙ z))))

  pub accepted_outcome : (m : ℤ) → 0 ≡ margin_refusal c t cells → m ≡ margin c (root t) 0 → margin_outcome (Ok m) ≡ margin_judged c t cells
  unfolding margin_judged
  accepted_outcome m e h = ap₂ (λ (x : ℕ) (y : ℤ). record { number = x; margin = y }) e (h ∙ sym (unless_none _ _ (sym e)))

-- an accepted table over an accepted recording needs few cells
pub few_cells : {c : Card} {t : Table} → Sound c t → t.count * rows c ≤ 262_144
few_cells {c} s = omega (arith, mul-le-mul_right (rows c) s.ruled.few_nodes, s.recorded.lengths.few_rows)

-- ---- the cells
module _ (c : Card) (t : Table) (w : List ℤ) where
  pub cells_kept : (r : Refusal) → number r ≡ margin_refusal c t (length w) → w ≡ margin_cells c t w
  unfolding margin_cells
  cells_kept r e = sym (unless_some _ _ _ (λ z. not_none r (e ∙ z)))

  pub cells_filled : {l : List ℤ} → margin_refusal c t (length w) ≡ 0 → l ≡ fill_rows (rows c) (λ k. margin c (tree t.nodes k)) t.count w → l ≡ margin_cells c t w
  unfolding margin_cells
  cells_filled e f = f ∙ sym (unless_none _ _ e)

  -- the root's cell at sample 0
  pub root_inside : Sound c t → t.count * rows c ≤ length w → (t.count - 1) * rows c + 0 < length w
  root_inside s h =
      omega (arith, earlier_row (t.count - 1) t.count (rows c) (omega (arith, s.ruled.some_node)), s.recorded.lengths.some_row)

  pub root_cell : {l : List ℤ} → Sound c t → t.count * rows c ≤ length w → l ≡ fill_rows (rows c) (λ k. margin c (tree t.nodes k)) t.count w → cell l (rows c) (t.count - 1) 0 ≡ margin c (root t) 0
  root_cell s h f =
      rw f (rows_in (rows c) (λ k. margin c (tree t.nodes k)) t.count w (t.count - 1) 0 (pos 0) (omega (arith, s.ruled.some_node)) s.recorded.lengths.some_row h)
