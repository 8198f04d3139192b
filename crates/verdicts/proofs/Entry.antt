-- The entry point's answer, by the number that its tests found: the list of refusals in parts, and the root's two cells.
-- Assumes nothing.
use Rattle.std.proofs.Common.{Ok, Err}
use mathlib.Core.Path.{◌≡◌, refl, sym, ap, ◌∙◌}
use mathlib.Core.Bool.{Bool, true, false}
use mathlib.Core.List.{List, ◌∷◌}
use Prim.Native.Nat.{ℕ, ◌+◌, ◌*◌, ◌-◌, ◌≤◌, ◌<◌}
use native.Mathlib.Omega.{arith}
use native.Mathlib.Nat.{mul-le-mul_right}
use borrow.Author.Tests.{le-leb, lt-leb}
use lib.Dec.{leb→le}
use lib.IntN.{ℤ, pos}
use lib.ListN.{length}
use Rattle.lists.proofs.Filled.{rows_in, length_rows, earlier_row}
use Rattle.recordings.specs.declared.Verdict.{Verdict}
use Rattle.recordings.specs.declared.Verdict.TheVariants.{NotShown}
use Rattle.recordings.specs.Card.{Card, rows}
use Rattle.recordings.specs.Verdict.{hold, fail, verdict}
use Rattle.recordings.specs.Accepted.{Accepted}
use Rattle.tables.specs.declared.Table.{Table}
use Rattle.tables.specs.Tree.{NODES, root}
use Rattle.rows.specs.Cells.{cell}
use Rattle.refusals.specs.declared.Refusal.{Refusal}
use Rattle.refusals.specs.First.{first}
use Rattle.refusals.specs.Number.{number}
use Rattle.refusals.proofs.Number.{not_none}
use Rattle.rules.specs.Refusals.{checks, Sound}
use Rattle.rules.proofs.Refusals.{sound}
use Rattle.refusals.proofs.First.{first_stays, first_here, first_behind, parts_none, unless_none, unless_some}
use Rattle.sampling.specs.Sampling.{checks as sampling_checks}
use Rattle.sampling.proofs.Sampling.{accepted}
use Rattle.verdicts.specs.Cells.{strong, row_value, cells}
use Rattle.verdicts.specs.Rows.{row_of, Ready}
use Rattle.verdicts.specs.Answer.{verdict_outcome, verdict_room, verdict_refusal, verdict_judged, verdict_cells}
use Rattle.verdicts.proofs.Rows.{row_value_of}

module _ (c : Card) (t : Table) (step drift size : ℕ) where
  pub refused_early : (first (checks c t) ≡ 0 → ⊥) → verdict_refusal c t step drift size ≡ first (checks c t)
  unfolding verdict_refusal
  refused_early h = first_stays (checks c t) (verdict_room c t size ∷ sampling_checks c step drift) h

  pub refused_room : first (checks c t) ≡ 0 → size < 2 * t.count * rows c → verdict_refusal c t step drift size ≡ 8
  unfolding verdict_refusal
  refused_room e h = first_here (checks c t) (verdict_room c t size) (sampling_checks c step drift) tt e (lt-leb _ _ h)

  pub refused_late : first (checks c t) ≡ 0 → 2 * t.count * rows c ≤ size → verdict_refusal c t step drift size ≡ first (sampling_checks c step drift)
  unfolding verdict_refusal
  refused_late e h = first_behind (checks c t) (verdict_room c t size) (sampling_checks c step drift) tt e (le-leb _ _ h)

  -- number 0 says that none of refusals 3 to 11 applies
  pub nothing_refused : verdict_refusal c t step drift size ≡ 0 → Ready c t step size × Accepted c step drift
  unfolding verdict_refusal
  nothing_refused e =
      let p = parts_none (checks c t) (verdict_room c t size) (sampling_checks c step drift) tt tt e in
      let s : Sound c t = sound c t p.0 in
      let a : Accepted c step drift = accepted c step drift s.recorded p.2 in
      (record { sound = s; step_bound = a.stepped.short_step; room = leb→le (2 * t.count * rows c) size p.1 }, a)

  -- ---- the answer: under a refusal its number, and what was lent stays
  pub refused_outcome : (r : Refusal) → number r ≡ verdict_refusal c t step drift size → verdict_outcome (Err r) ≡ verdict_judged c t step drift size
  unfolding verdict_judged
  refused_outcome r e =
      let z : verdict_refusal c t step drift size ≡ 0 → ⊥ = λ z. not_none r (e ∙ z) in
      rw (
        unless_some (verdict_refusal c t step drift size) (verdict c step drift (root t)) NotShown z,
        unless_some (verdict_refusal c t step drift size) (hold c step (root t)) (pos 0) z,
        unless_some (verdict_refusal c t step drift size) (fail c step (root t)) (pos 0) z,
        e,
      ) refl

  pub accepted_outcome : {v : Verdict} {h f : ℤ} → verdict_refusal c t step drift size ≡ 0 → v ≡ verdict c step drift (root t) → h ≡ hold c step (root t) → f ≡ fail c step (root t)
      → verdict_outcome (Ok (record { verdict = v; hold = h; fail = f })) ≡ verdict_judged c t step drift size
  unfolding verdict_judged
  accepted_outcome e p q r = rw (e, p, q, r) refl

module _ (c : Card) (t : Table) (step drift : ℕ) (w : List ℤ) where
  pub cells_kept : (r : Refusal) → number r ≡ verdict_refusal c t step drift (length w) → w ≡ verdict_cells c t step drift w
  unfolding verdict_cells
  cells_kept r e = sym (unless_some _ _ _ (λ z. not_none r (e ∙ z)))

  pub cells_filled : {l : List ℤ} → verdict_refusal c t step drift (length w) ≡ 0 → l ≡ cells c step t.nodes t.count w → l ≡ verdict_cells c t step drift w
  unfolding verdict_cells
  cells_filled e f = f ∙ sym (unless_none _ _ e)

pub few_cells : (n r : ℕ) → n ≤ NODES → r ≤ 4_096 → 2 * n * r ≤ 524_288
few_cells n r h k = let l : 2 * n ≤ 128 = omega arith in omega (arith, mul-le-mul_right r l)

-- the root's rows are the last two
root_row : (c : Card) (t : Table) (step size : ℕ) → Ready c t step size → (b : Bool) → row_of b (t.count - 1) < 2 * t.count
root_row c t step size ok true = omega (arith, ok.sound.ruled.some_node)
root_row c t step size ok false = omega (arith, ok.sound.ruled.some_node)

-- the root's cells, of the requirement and of its negation
pub root_cell : (c : Card) (t : Table) (step : ℕ) (w : List ℤ) {work : List ℤ} → Ready c t step (length w) → work ≡ cells c step t.nodes t.count w → (b : Bool) → cell work (rows c) (row_of b (t.count - 1)) 0 ≡ strong c step t.nodes b (t.count - 1) 0
root_cell c t step w ok e b =
    rw e (rows_in (rows c) (row_value c step t.nodes) (2 * t.count) w (row_of b (t.count - 1)) 0 _ (root_row c t step (length w) ok b) (omega (arith, ok.sound.recorded.lengths.some_row)) ok.room)
    ∙ row_value_of c step t.nodes b (t.count - 1) 0

pub root_inside : (c : Card) (t : Table) (step : ℕ) (w : List ℤ) {work : List ℤ} → Ready c t step (length w) → work ≡ cells c step t.nodes t.count w → (b : Bool) → row_of b (t.count - 1) * rows c + 0 < length work
root_inside c t step w ok e b =
    omega (arith, ap length e ∙ length_rows (rows c) (row_value c step t.nodes) (2 * t.count) w, earlier_row (row_of b (t.count - 1)) (2 * t.count) (rows c) (root_row c t step (length w) ok b), ok.room, ok.sound.recorded.lengths.some_row)
