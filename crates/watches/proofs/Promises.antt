-- Whatever rows are offered to a watch, refused ones among them, it is the watch of those that were accepted; so its margin is theirs, by the definition. By induction over the rows.
-- Assumes nothing.
use mathlib.Core.Path.{◌≡◌, refl, sym, ap, ◌∙◌, subst}
use mathlib.Core.List.{List, [], ◌∷◌}
use Prim.Native.Nat.{ℕ, ◌<◌}
use lib.ListN.{get_or}
use lib.IntN.{pos}
use Rattle.recordings.specs.declared.Predicate.{Predicate}
use Rattle.recordings.specs.declared.Scales.{Scales}
use Rattle.recordings.specs.declared.Setup.{Setup}
use Rattle.recordings.specs.Card.{Card}
use Rattle.tables.specs.declared.Table.{Table}
use Rattle.refusals.specs.First.{first, AllExact, Refused}
use Rattle.refusals.proofs.First.{refused, first_is, exact_append, answers}
use Rattle.std.specs.Prelude.{ℤ, Result}
use Rattle.margins.specs.Answers.{MarginOutcome}
use Rattle.arrivals.specs.Arrivals.{Row, watch_setup, no_rows, making_checks, accepted, recorded, margin_so_far}
use Rattle.arrivals.proofs.Refusals.{making_exact}
use Rattle.arrivals.proofs.Promises.{making_refuses, making_silences}
use Rattle.watch_cells.specs.State.{NUMBERS, CELLS}
use Rattle.watches.specs.declared.Watch.{Watch}
use Rattle.watches.specs.Watches.{room_check, lent_checks}
use Rattle.watches.proofs.Answers.{roomy, roomy_passes}
use Rattle.watches.specs.Run.{told_outcome, Watching, Taken, Took, Told, Run, rest, offer}

pub run_watching : (t : Table) (c : Card) {w v : Watch} {rs : List Row} → Run w rs v → Watching w t c → Watching v t (recorded t c rs)
run_watching t c (rest w) W = W
run_watching t c (offer w v r rs a k q) W = run_watching t (accepted t c r) q (k.watch t c W)

-- every number and every cell of a watch is fixed by its table, its setup and the rows that were accepted
pub places_fixed : (t : Table) (c : Card) {w v : Watch} → Watching w t c → Watching v t c → ((i : ℕ) → i < NUMBERS → get_or w.numbers i 0 ≡ get_or v.numbers i 0) × ((i : ℕ) → i < CELLS → get_or w.cells i (pos 0) ≡ get_or v.cells i (pos 0))
places_fixed t c W same = (λ i h. W.numbers_are i h ∙ sym (same.numbers_are i h), λ i h. W.cells_are i h ∙ sym (same.cells_are i h))

-- the margin after any list of offered rows is the margin, by the definition, of the recording made of the accepted ones
pub margin_while_running : (t : Table) (ps : List Predicate) (ks : Scales) {w v : Watch} {rs : List Row} (a : Result ℤ ℕ) → Watching w t (no_rows (watch_setup ps ks)) → Run w rs v → Told v a → told_outcome a ≡ margin_so_far (recorded t (no_rows (watch_setup ps ks)) rs) t
margin_while_running t ps ks a W q f = f t _ (run_watching t (no_rows (watch_setup ps ks)) q W)

-- ---- a refused making: the same number to every row, the watch equal, and the same number to the margin
module _ (t : Table) (c : Card) (h : first (making_checks c t) ≡ 0 → ⊥) where
  pub refused_for_ever : {w : Watch} (r : Row) {a : Taken} → Watching w t c → Took w r a → (a.number ≡ first (making_checks c t)) × (a.watch ≡ w)
  refused_for_ever r W k = let e = k.number t c W ∙ making_refuses c t r h in (e, k.equal (λ z. h (sym e ∙ z)))

  pub run_refused : {w v : Watch} {rs : List Row} → Watching w t c → Run w rs v → v ≡ w
  run_refused W (rest w) = refl
  run_refused W (offer w v r rs a k q) = let e = (refused_for_ever r W k).1 in run_refused (subst (λ (x : Watch). Watching x t c) (sym e) W) q ∙ e

  pub margin_refused : {w : Watch} (a : Result ℤ ℕ) → Watching w t c → Told w a → (told_outcome a).number ≡ first (making_checks c t)
  margin_refused a W f = ap (λ (o : MarginOutcome). o.number) (f t c W) ∙ making_silences c t h

-- ---- a watch that is lent: the making's number or 8, exactly when its condition applies and no earlier one does
module _ (s : Setup) (t : Table) (numbers cells : ℕ) where
  lent_exact : AllExact (lent_checks s t numbers cells)
  lent_exact = exact_append (making_checks (no_rows s) t) (room_check numbers cells ∷ []) (making_exact (no_rows s) t) (λ _. (record { sound = λ h. roomy numbers cells (answers h); complete = roomy_passes numbers cells }, λ _. tt))

  pub lent_refused : (first (lent_checks s t numbers cells) ≡ 0 → ⊥) → Refused (lent_checks s t numbers cells) (first (lent_checks s t numbers cells))
  lent_refused h = refused (lent_checks s t numbers cells) lent_exact h

  pub refused_lent : (m : ℕ) → Refused (lent_checks s t numbers cells) m → first (lent_checks s t numbers cells) ≡ m
  refused_lent m h = first_is (lent_checks s t numbers cells) lent_exact h
