-- What a watch holds gives its answers: the making's number in front of every list, the times for a row's, and the root's cell for the margin. A row that was accepted leaves the
-- watch of the longer recording.
-- Assumes nothing.
use mathlib.Core.Path.{◌≡◌, sym, ap₂, ◌∙◌, subst}
use mathlib.Core.Bool.{true, false}
use mathlib.Core.List.{List, [], ◌∷◌, ◌++◌}
use Prim.Native.Nat.{ℕ, ◌-◌, ◌≤◌}
use native.Mathlib.Omega.{arith}
use native.Mathlib.Decide.{ℕ_discrete}
use lib.Dec.{T, leb, leb→le, le→leb, eqb→eq}
use lib.ListN.{length, get_or}
use lib.IntN.{ℤ}
use mir.Facts.{and_yes, yes_and}
use borrow.Author.Tests.{eq-eqb, ne_eqb, lt-leb, le-leb}
use Rattle.numbers.proofs.Parts.{holds}
use Rattle.recordings.specs.declared.Setup.{Setup}
use Rattle.recordings.specs.Card.{Card, rows}
use Rattle.recordings.specs.Margin.{margin}
use Rattle.tables.specs.declared.Table.{Table}
use Rattle.tables.specs.Tree.{root}
use Rattle.tables.specs.Rules.{TableRules}
use Rattle.refusals.specs.First.{Check, first}
use Rattle.refusals.proofs.First.{first_append, first_stays, first_here, first_behind, unless_none, unless_some, answers}
use Rattle.std.specs.Prelude.{Ok, Err}
use Rattle.watches.specs.Run.{told_outcome}
use Rattle.arrivals.specs.Arrivals.{Row, no_rows, with_row, making_checks, row_checks, offer_refusal, accepted, some_row_check, asked_refusal, margin_so_far}
use Rattle.arrivals.proofs.Fitting.{made}
use Rattle.watch_cells.specs.State.{NUMBERS, CELLS, held_in}
use Rattle.watch_cells.proofs.Own.{cell_is}
use Rattle.watches.proofs.Places.{refused_is, kept_is, no_row_yet}
use Rattle.watches.specs.Watches.{Kept, Watches, Roomy, room_check, lent_checks}

-- ---- the slices' lengths
pub roomy : (n m : ℕ) → (room_check n m).passes ≡ true → Roomy n m
roomy n m e = let b = and_yes (leb NUMBERS n) (leb CELLS m) (holds e) in record { long = leb→le NUMBERS n b.0; wide = leb→le CELLS m b.1 }

pub roomy_passes : (n m : ℕ) → Roomy n m → T (room_check n m).passes
roomy_passes n m r = yes_and (leb NUMBERS n) (leb CELLS m) (le→leb NUMBERS n r.long) (le→leb CELLS m r.wide)

pub cramped : (n m : ℕ) → (room_check n m).passes ≡ false → Roomy n m → ⊥
cramped n m e r = subst T e (roomy_passes n m r)

module _ {numbers : List ℕ} {cells : List ℤ} {t : Table} {c : Card} (W : Watches numbers cells t c) where
  pub watch_roomy : Roomy (length numbers) (length cells)
  watch_roomy = record { long = W.long; wide = W.wide }

  -- a refused making gives its number, whatever would come after it
  pub making_first : (ds : List Check) → (get_or numbers 0 0 ≡ 0 → ⊥) → get_or numbers 0 0 ≡ first (making_checks c t ++ ds)
  making_first ds h = refused_is W ∙ sym (first_stays (making_checks c t) ds (λ z. h (refused_is W ∙ z)))

  pub making_none : get_or numbers 0 0 ≡ 0 → first (making_checks c t) ≡ 0
  making_none e = sym (refused_is W) ∙ e

  pub kept_now : get_or numbers 0 0 ≡ 0 → Kept numbers cells t c
  kept_now e = kept_is W (making_none e)

  pub row_first : (r : Row) → get_or numbers 0 0 ≡ 0 → first (row_checks c r) ≡ offer_refusal c t r
  row_first r e = sym (first_append (making_checks c t) (row_checks c r) tt (making_none e))

  -- ---- a row that is refused
  pub refused_watches : (r : Row) → (offer_refusal c t r ≡ 0 → ⊥) → Watches numbers cells t (accepted t c r)
  refused_watches r h = subst (Watches numbers cells t) (sym (unless_some (offer_refusal c t r) (with_row c r) c h)) W

  -- ---- the margin
  pub told_refused : (get_or numbers 0 0 ≡ 0 → ⊥) → told_outcome (Err (get_or numbers 0 0)) ≡ margin_so_far c t
  unfolding margin_so_far
  told_refused h =
      let e : get_or numbers 0 0 ≡ asked_refusal c t = making_first (some_row_check c ∷ []) h in
      ap₂ (λ (x : ℕ) (y : ℤ). record { number = x; margin = y }) e (sym (unless_some _ _ _ (λ z. h (e ∙ z))))

  pub told_none : get_or numbers 0 0 ≡ 0 → get_or numbers 3 0 ≡ 0 → told_outcome (Err 5) ≡ margin_so_far c t
  unfolding margin_so_far
  told_none e z =
      let k = no_row_yet (kept_now e) in
      let n : rows c ≡ 0 = eqb→eq (rows c) 0 (subst T (sym (eq-eqb (get_or numbers 3 0) 0 z) ∙ k) tt) in
      let f : asked_refusal c t ≡ 5 = first_here (making_checks c t) (some_row_check c) [] tt (making_none e) (lt-leb 1 (rows c) (omega (arith, n))) in
      ap₂ (λ (x : ℕ) (y : ℤ). record { number = x; margin = y }) (sym f) (sym (unless_some _ _ _ (λ (x : asked_refusal c t ≡ 0). omega (arith, f, x))))

  some_row : get_or numbers 0 0 ≡ 0 → (get_or numbers 3 0 ≡ 0 → ⊥) → 1 ≤ rows c
  some_row e h = elim (ℕ_discrete (rows c) 0) [
    | yes z ↦ absurd (subst T (sym (eq-eqb (rows c) 0 z) ∙ sym (no_row_yet (kept_now e)) ∙ ne_eqb (get_or numbers 3 0) 0 h) tt)
    | no z ↦ omega arith
  ]

  ruled : get_or numbers 0 0 ≡ 0 → TableRules t
  ruled e = ((made c t (making_none e)).each 0 (omega arith)).0

  pub told_margin : get_or numbers 0 0 ≡ 0 → (get_or numbers 3 0 ≡ 0 → ⊥) → {m : ℤ} → ((k : Table) (d : Card) → Kept numbers cells k d → TableRules k → 1 ≤ rows d → m ≡ margin d (root k) 0) → told_outcome (Ok m) ≡ margin_so_far c t
  unfolding margin_so_far first
  told_margin e h f =
      let some = some_row e h in
      let z : asked_refusal c t ≡ 0 = first_behind (making_checks c t) (some_row_check c) [] tt (making_none e) (le-leb 1 (rows c) some) in
      ap₂ (λ (x : ℕ) (y : ℤ). record { number = x; margin = y }) (sym z) (f t c (kept_now e) (ruled e) some ∙ sym (unless_none _ _ z))

-- the root's cell
pub root_held : {numbers : List ℕ} {cells : List ℤ} {t : Table} {c : Card} → Kept numbers cells t c → TableRules t → 1 ≤ rows c → held_in cells (get_or numbers 1 0 - 1) 1 ≡ margin c (root t) 0
root_held {cells = cells} {t} {c} K R some = rw K.planned.count ((K.each (t.count - 1) (omega (arith, R.some_node, R.few_nodes))).each 1 (omega arith) ∙ cell_is t c 1 (t.count - 1) some (omega (arith, R.some_node)))

-- with room for a watch, the making's number is the answer
pub lent_first : (s : Setup) (t : Table) (n m : ℕ) → Roomy n m → first (lent_checks s t n m) ≡ first (making_checks (no_rows s) t)
unfolding first
lent_first s t n m r = elim (ℕ_discrete (first (making_checks (no_rows s) t)) 0) [
  | yes e ↦ first_behind (making_checks (no_rows s) t) (room_check n m) [] tt e (answers (roomy_passes n m r)) ∙ sym e
  | no e ↦ first_stays (making_checks (no_rows s) t) (room_check n m ∷ []) e
]
