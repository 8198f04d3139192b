-- What the verdict function promises, in the customer's words: each is read off its contract, `verdict_outcome r ≡ verdict_judged ..` and `verdict_cells ..`, whose number 0 is acceptance.
-- Assumes nothing.
use mathlib.Core.Path.{◌≡◌, sym, ◌∙◌}
use mathlib.Core.Bool.{Bool, true, false}
use mathlib.Core.List.{List, ◌∷◌}
use Prim.Native.Nat.{ℕ, ◌+◌, ◌*◌, ◌≤◌, ◌<◌}
use native.Mathlib.Omega.{arith}
use lib.Dec.{leb→le, le→leb}
use lib.IntN.{ℤ, pos}
use lib.ListN.{length, get_or}
use Rattle.lists.proofs.Filled.{rows_in, rows_out}
use Rattle.logic.specs.Strengthening.{strengthened}
use Rattle.recordings.specs.declared.Verdict.TheVariants.{Holds, Fails, NotShown}
use Rattle.recordings.specs.Card.{Card, rows}
use Rattle.recordings.specs.Margin.{margin}
use Rattle.recordings.specs.Verdict.{hold, fail, verdict}
use Rattle.recordings.specs.Accepted.{Accepted}
use Rattle.recordings.specs.Shown.{Shown}
use Rattle.recordings.proofs.Verdicts.{holds_shown, fails_shown}
use Rattle.tables.specs.declared.Table.{Table}
use Rattle.tables.specs.Tree.{tree, root}
use Rattle.refusals.specs.First.{AllExact, Refused}
use Rattle.rules.specs.Refusals.{checks, Sound}
use Rattle.refusals.proofs.First.{refused, first_is, exact_append, unless_none, unless_some}
use Rattle.rules.proofs.Refusals.{exact, sound_passes}
use Rattle.sampling.specs.Sampling.{checks as sampling_checks}
use Rattle.sampling.proofs.Sampling.{accepted_passes, exact as sampling_exact}
use Rattle.verdicts.specs.Cells.{strong, row_value, cells}
use Rattle.verdicts.specs.Rows.{row_of}
use Rattle.verdicts.specs.Answer.{verdict_room, verdict_checks, verdict_refusal, verdict_judged, verdict_cells}
use Rattle.verdicts.proofs.Rows.{row_value_of}
use Rattle.verdicts.proofs.Entry.{refused_late, nothing_refused}

module _ (c : Card) (t : Table) (step drift size : ℕ) where
  -- 0 is answered exactly when none of refusals 3 to 11 applies: the recording, requirement, step and drift are accepted
  pub number_none : (verdict_judged c t step drift size).number ≡ 0 → Sound c t × (2 * t.count * rows c ≤ size) × Accepted c step drift
  unfolding verdict_judged
  number_none e = let r = nothing_refused c t step drift size e in (r.0.sound, r.0.room, r.1)

  pub none_number : Sound c t → 2 * t.count * rows c ≤ size → Accepted c step drift → (verdict_judged c t step drift size).number ≡ 0
  unfolding verdict_judged
  none_number s h a = refused_late c t step drift size (sound_passes c t s) h ∙ accepted_passes c step drift a

  pub number_accepted : (verdict_judged c t step drift size).number ≡ 0 → Accepted c step drift
  number_accepted e = (number_none e).2

  -- the verdict, hold and fail are the definitions'; under a refusal they are "not shown", 0 and 0
  pub verdict_is : (verdict_judged c t step drift size).number ≡ 0 → (verdict_judged c t step drift size).verdict ≡ verdict c step drift (root t)
  unfolding verdict_judged
  verdict_is e = unless_none _ _ e

  pub hold_is : (verdict_judged c t step drift size).number ≡ 0 → (verdict_judged c t step drift size).hold ≡ hold c step (root t)
  unfolding verdict_judged
  hold_is e = unless_none _ _ e

  pub fail_is : (verdict_judged c t step drift size).number ≡ 0 → (verdict_judged c t step drift size).fail ≡ fail c step (root t)
  unfolding verdict_judged
  fail_is e = unless_none _ _ e

  pub refused_values : ((verdict_judged c t step drift size).number ≡ 0 → ⊥) → ((verdict_judged c t step drift size).verdict ≡ NotShown) × ((verdict_judged c t step drift size).hold ≡ pos 0) × ((verdict_judged c t step drift size).fail ≡ pos 0)
  unfolding verdict_judged
  refused_values h = (unless_some _ _ _ h, unless_some _ _ _ h, unless_some _ _ _ h)

  -- a number m is answered exactly when its condition applies and no earlier one does
  pub exact_checks : AllExact (verdict_checks c t step drift size)
  exact_checks = exact_append (checks c t) (verdict_room c t size ∷ sampling_checks c step drift) (exact c t) (λ _. (record { sound = leb→le _ _; complete = le→leb _ _ }, λ _. sampling_exact c step drift))

  pub number_refused : ((verdict_judged c t step drift size).number ≡ 0 → ⊥) → Refused (verdict_checks c t step drift size) (verdict_judged c t step drift size).number
  unfolding verdict_judged verdict_refusal
  number_refused h = refused (verdict_checks c t step drift size) exact_checks h

  pub refused_number : (m : ℕ) → Refused (verdict_checks c t step drift size) m → (verdict_judged c t step drift size).number ≡ m
  unfolding verdict_judged verdict_refusal
  refused_number m h = first_is (verdict_checks c t step drift size) exact_checks h

  -- ---- demand 3
  -- "When the verdict is "holds", the requirement is true of every such history at every second of it within one step of the first sample"; and "for every
  -- accepted recording, also one without any history, "holds" says besides that the requirement is true of the samples".
  pub holds : (verdict_judged c t step drift size).number ≡ 0 → (verdict_judged c t step drift size).verdict ≡ Holds → Shown c step drift true (root t)
  holds e v = holds_shown (number_accepted e) (root t) (sym (verdict_is e) ∙ v)

  -- "When the verdict is "fails", the requirement is false of every such history at all of these seconds"; and ""fails" that it is false of them", the samples.
  pub fails : (verdict_judged c t step drift size).number ≡ 0 → (verdict_judged c t step drift size).verdict ≡ Fails → Shown c step drift false (root t)
  fails e v = fails_shown (number_accepted e) (root t) (sym (verdict_is e) ∙ v)

module _ (c : Card) (t : Table) (step drift : ℕ) (w : List ℤ) where
  -- nothing lent changes under a refusal
  pub refused_cells : ((verdict_judged c t step drift (length w)).number ≡ 0 → ⊥) → verdict_cells c t step drift w ≡ w
  unfolding verdict_judged verdict_cells
  refused_cells h = unless_some _ _ _ h

  cells_are : (verdict_judged c t step drift (length w)).number ≡ 0 → verdict_cells c t step drift w ≡ cells c step t.nodes t.count w
  unfolding verdict_judged verdict_cells
  cells_are e = unless_none _ _ e

  -- row 2k has node k's strengthened margins (at true), row 2k + 1 those of its negation (at false)
  pub cell_is : (verdict_judged c t step drift (length w)).number ≡ 0 → (b : Bool) (k i : ℕ) → k < t.count → i < rows c → get_or (verdict_cells c t step drift w) (row_of b k * rows c + i) (pos 0) ≡ margin c (strengthened step b (tree t.nodes k)) i
  unfolding strong
  cell_is e b k i h g =
      rw (cells_are e) (rows_in (rows c) (row_value c step t.nodes) (2 * t.count) w (row_of b k) i (pos 0) (inside b) g (number_none c t step drift (length w) e).1)
      ∙ row_value_of c step t.nodes b k i
    where
      inside : (b : Bool) → row_of b k < 2 * t.count
      inside true = omega arith
      inside false = omega arith

  -- later cells keep their contents
  pub later_kept : (verdict_judged c t step drift (length w)).number ≡ 0 → (m : ℕ) → 2 * t.count * rows c ≤ m → get_or (verdict_cells c t step drift w) m (pos 0) ≡ get_or w m (pos 0)
  later_kept e m h = rw (cells_are e) (rows_out (rows c) (row_value c step t.nodes) (2 * t.count) w m (pos 0) h)
