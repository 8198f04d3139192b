-- With all scales 1 only TOP differs from before: the numbers of refusals and the verdicts are equal; margin, hold, fail and every cell are those of before with the TOP raised.
-- Assumes nothing.
use mathlib.Core.Path.{◌≡◌, ap₂, ◌∙◌}
use mathlib.Core.Bool.{Bool, true, false, cond}
use mathlib.Core.List.{List}
use Prim.Native.Nat.{ℕ, ◌+◌, ◌*◌, ◌<◌}
use lib.IntN.{ℤ, pos}
use lib.ListN.{length, get_or}
use Rattle.logic.specs.Strengthening.{strengthened}
use Rattle.recordings.specs.declared.Verdict.TheVariants.{Holds, Fails, NotShown}
use Rattle.recordings.specs.Card.{Card, rows}
use Rattle.tables.specs.declared.Table.{Table}
use Rattle.tables.specs.Tree.{tree, root}
use Rattle.refusals.specs.First.{first}
use Rattle.margins.specs.Answers.{margin_judged, margin_cells}
use Rattle.margins.proofs.Promises as margins
use Rattle.verdicts.specs.Rows.{row_of}
use Rattle.verdicts.specs.Answer.{verdict_judged, verdict_cells}
use Rattle.verdicts.proofs.Promises as verdicts
use Rattle.one_unit.specs.Before.{OneUnit, margin_before, strong_before, verdict_before, raised, margin_checks_before, verdict_checks_before}
use Rattle.one_unit.proofs.Raised.{margin_raised, exceeds_alike}
use Rattle.one_unit.proofs.Refusals.{margin_number, verdict_number}

module _ {c : Card} (u : OneUnit c) (t : Table) where
  -- ---- the margin
  pub margin_refused_alike : (cells : ℕ) → (margin_judged c t cells).number ≡ first (margin_checks_before c t cells)
  unfolding margin_judged
  margin_refused_alike cells = margin_number u t cells

  pub margin_alike : (cells : ℕ) → (margin_judged c t cells).number ≡ 0 → (margin_judged c t cells).margin ≡ raised (margin_before c (root t) 0)
  margin_alike cells e = margins.margin_is c t cells e ∙ margin_raised (margins.number_none c t cells e).0.recorded u (root t) 0

  pub cell_alike : (w : List ℤ) → (margin_judged c t (length w)).number ≡ 0 → (k i : ℕ) → k < t.count → i < rows c
      → get_or (margin_cells c t w) (k * rows c + i) (pos 0) ≡ raised (margin_before c (tree t.nodes k) i)
  cell_alike w e k i h g = margins.cell_is c t w e k i h g ∙ margin_raised (margins.number_none c t (length w) e).0.recorded u (tree t.nodes k) i

  -- ---- the verdict
  module _ (step drift : ℕ) where
    pub verdict_refused_alike : (size : ℕ) → (verdict_judged c t step drift size).number ≡ first (verdict_checks_before c t step drift size)
    unfolding verdict_judged
    verdict_refused_alike size = verdict_number u t step drift size

    pub verdict_alike : (size : ℕ) → (verdict_judged c t step drift size).number ≡ 0 → (verdict_judged c t step drift size).verdict ≡ verdict_before c step drift (root t)
    verdict_alike size e =
        let a = verdicts.number_accepted c t step drift size e in
        let h = exceeds_alike a.recorded u drift a.stepped.small_drift (strengthened step true (root t)) 0 in
        let f = exceeds_alike a.recorded u drift a.stepped.small_drift (strengthened step false (root t)) 0 in
        verdicts.verdict_is c t step drift size e ∙ ap₂ (λ (x y : Bool). cond x Holds (cond y Fails NotShown)) h f

    pub hold_alike : (size : ℕ) → (verdict_judged c t step drift size).number ≡ 0 → (verdict_judged c t step drift size).hold ≡ raised (strong_before c step true (root t))
    hold_alike size e = verdicts.hold_is c t step drift size e ∙ margin_raised (verdicts.number_accepted c t step drift size e).recorded u (strengthened step true (root t)) 0

    pub fail_alike : (size : ℕ) → (verdict_judged c t step drift size).number ≡ 0 → (verdict_judged c t step drift size).fail ≡ raised (strong_before c step false (root t))
    fail_alike size e = verdicts.fail_is c t step drift size e ∙ margin_raised (verdicts.number_accepted c t step drift size e).recorded u (strengthened step false (root t)) 0

    pub strong_cell_alike : (w : List ℤ) → (verdict_judged c t step drift (length w)).number ≡ 0 → (b : Bool) (k i : ℕ) → k < t.count → i < rows c
        → get_or (verdict_cells c t step drift w) (row_of b k * rows c + i) (pos 0) ≡ raised (margin_before c (strengthened step b (tree t.nodes k)) i)
    strong_cell_alike w e b k i h g =
        verdicts.cell_is c t step drift w e b k i h g
        ∙ margin_raised (verdicts.number_accepted c t step drift (length w) e).recorded u (strengthened step b (tree t.nodes k)) i
