-- What the margin's contract promises, sentence by sentence: which number is answered, what is handed back with it, and what each cell holds.
-- Assumes nothing.
use mathlib.Core.Path.{◌≡◌, sym, ◌∙◌}
use mathlib.Core.List.{List, [], ◌∷◌}
use Prim.Native.Nat.{ℕ, ◌*◌, ◌+◌, ◌≤◌, ◌<◌}
use lib.Dec.{leb→le, le→leb}
use lib.IntN.{ℤ, pos}
use lib.Signed.{lt_z}
use lib.ListN.{length, get_or}
use Rattle.numbers.specs.Order.{Within}
use Rattle.lists.specs.Fill.{fill_rows}
use Rattle.lists.proofs.Filled.{rows_in, rows_out}
use Rattle.recordings.specs.Distance.{TOP}
use Rattle.recordings.specs.Card.{Card, rows}
use Rattle.recordings.specs.Margin.{margin, true_of}
use Rattle.recordings.proofs.Margins.{measured, measured_positive, margin_bounded, margin_truth, margin_not_zero}
use Rattle.tables.specs.declared.Table.{Table}
use Rattle.tables.specs.Tree.{tree, root}
use Rattle.refusals.specs.First.{AllExact, Refused}
use Rattle.rules.specs.Refusals.{checks, Sound}
use Rattle.refusals.proofs.First.{refused, first_is, exact_append, unless_none, unless_some}
use Rattle.rules.proofs.Refusals.{exact, sound_passes}
use Rattle.margins.specs.Answers.{margin_room, margin_checks, margin_judged, margin_cells}
use Rattle.margins.proofs.Answers.{accepted, refusal_none}

module _ (c : Card) (t : Table) (cells : ℕ) where
  -- each test of the list holds exactly where its sentence does
  exact_checks : AllExact (margin_checks c t cells)
  exact_checks = exact_append (checks c t) (margin_room c t cells ∷ []) (exact c t) (λ _. (record { sound = leb→le _ _; complete = le→leb _ _ }, λ _. tt))

  -- a number m is answered exactly when its condition applies and no earlier one does
  pub number_refused : ((margin_judged c t cells).number ≡ 0 → ⊥) → Refused (margin_checks c t cells) (margin_judged c t cells).number
  unfolding margin_judged
  number_refused h = refused (margin_checks c t cells) exact_checks h

  pub refused_number : (m : ℕ) → Refused (margin_checks c t cells) m → (margin_judged c t cells).number ≡ m
  unfolding margin_judged
  refused_number m h = first_is (margin_checks c t cells) exact_checks h

  -- 0 is answered exactly when none of refusals 3 to 8 applies
  pub number_none : (margin_judged c t cells).number ≡ 0 → Sound c t × (t.count * rows c ≤ cells)
  unfolding margin_judged
  number_none e = accepted c t cells e

  pub none_number : Sound c t → t.count * rows c ≤ cells → (margin_judged c t cells).number ≡ 0
  unfolding margin_judged
  none_number s h = refusal_none c t cells (sound_passes c t s) h

  -- under a refusal the margin is 0
  pub refused_margin : ((margin_judged c t cells).number ≡ 0 → ⊥) → (margin_judged c t cells).margin ≡ pos 0
  unfolding margin_judged
  refused_margin h = unless_some _ _ _ h

  -- else it is the root's at sample 0, which is never 0 and never further from it than TOP
  pub margin_is : (margin_judged c t cells).number ≡ 0 → (margin_judged c t cells).margin ≡ margin c (root t) 0
  unfolding margin_judged
  margin_is e = unless_none _ _ e

  pub margin_nonzero : (margin_judged c t cells).number ≡ 0 → (margin_judged c t cells).margin ≡ pos 0 → ⊥
  margin_nonzero e h = margin_not_zero (measured_positive (measured (number_none e).0.recorded)) (root t) 0 (sym (margin_is e) ∙ h)

  -- it is above 0 exactly when the requirement is true of the samples
  pub margin_sign : (margin_judged c t cells).number ≡ 0 → lt_z (pos 0) (margin_judged c t cells).margin ≡ true_of c (root t) 0
  margin_sign e = rw (margin_is e) (margin_truth (measured_positive (measured (number_none e).0.recorded)) (root t) 0)

  pub margin_within : (margin_judged c t cells).number ≡ 0 → Within TOP (margin_judged c t cells).margin
  margin_within e = rw (margin_is e) (margin_bounded (measured (number_none e).0.recorded) (root t) 0)

module _ (c : Card) (t : Table) (w : List ℤ) where
  -- nothing lent changes under a refusal
  pub refused_cells : ((margin_judged c t (length w)).number ≡ 0 → ⊥) → margin_cells c t w ≡ w
  unfolding margin_judged margin_cells
  refused_cells h = unless_some _ _ _ h

  cells_are : (margin_judged c t (length w)).number ≡ 0 → margin_cells c t w ≡ fill_rows (rows c) (λ k. margin c (tree t.nodes k)) t.count w
  unfolding margin_judged margin_cells
  cells_are e = unless_none _ _ e

  -- cell k × rows + i ends as node k's margin at i, whether the root reaches the node or not
  pub cell_is : (margin_judged c t (length w)).number ≡ 0 → (k i : ℕ) → k < t.count → i < rows c → get_or (margin_cells c t w) (k * rows c + i) (pos 0) ≡ margin c (tree t.nodes k) i
  cell_is e k i a b = rw (cells_are e) (rows_in (rows c) (λ q. margin c (tree t.nodes q)) t.count w k i (pos 0) a b (number_none c t (length w) e).1)

  -- later cells keep their contents
  pub later_kept : (margin_judged c t (length w)).number ≡ 0 → (m : ℕ) → t.count * rows c ≤ m → get_or (margin_cells c t w) m (pos 0) ≡ get_or w m (pos 0)
  later_kept e m h = rw (cells_are e) (rows_out (rows c) (λ q. margin c (tree t.nodes q)) t.count w m (pos 0) h)
