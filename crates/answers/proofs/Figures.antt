-- The answer by the verdict's number: 0 gives the margin too, since what the verdict accepts the margin accepts.
-- Assumes nothing.
use mathlib.Core.Path.{◌≡◌, refl, sym, ◌∙◌}
use Prim.Native.Nat.{ℕ, zero, suc, ◌*◌, ◌≤◌}
use native.Mathlib.Omega.{arith}
use lib.IntN.{ℤ}
use Rattle.recordings.specs.declared.Verdict.{Verdict}
use Rattle.recordings.specs.Card.{Card, rows}
use Rattle.tables.specs.declared.Table.{Table}
use Rattle.refusals.proofs.First.{unless_some}
use Rattle.margins.specs.Answers.{margin_judged}
use Rattle.margins.proofs.Promises.{none_number, margin_is}
use Rattle.verdicts.specs.Answer.{verdict_refusal, verdict_judged}
use Rattle.verdicts.proofs.Promises.{number_none, verdict_is, hold_is, fail_is}
use Rattle.outcomes.specs.Outcome.{refused_by}
use Rattle.answers.specs.Answers.{CELLS, answered}

-- under a refusal nothing but its number is left
pub only_number : (n : ℕ) (c : Card) (t : Table) (step drift filled : ℕ) → (n ≡ 0 → ⊥) → refused_by n ≡ answered n c t step drift filled
only_number n c t step drift filled h = sym (unless_some n _ _ h)

-- and the number is what it was answered by
pub answered_number : (n : ℕ) (c : Card) (t : Table) (step drift filled : ℕ) → (answered n c t step drift filled).number ≡ n
answered_number zero c t step drift filled = refl
answered_number (suc n) c t step drift filled = refl

module _ (c : Card) (t : Table) (step drift filled : ℕ) where
  number_is : (verdict_judged c t step drift CELLS).number ≡ verdict_refusal c t step drift CELLS
  unfolding verdict_judged
  number_is = refl

  pub judge_refused : (n : ℕ) → n ≡ (verdict_judged c t step drift CELLS).number → (n ≡ 0 → ⊥) → refused_by n ≡ answered (verdict_refusal c t step drift CELLS) c t step drift filled
  judge_refused n e h = rw (sym (e ∙ number_is)) (only_number n c t step drift filled h)

  module _ (e : (verdict_judged c t step drift CELLS).number ≡ 0) where
    pub margin_accepts : (margin_judged c t CELLS).number ≡ 0
    margin_accepts =
        let r : 2 * t.count * rows c ≤ CELLS = (number_none c t step drift CELLS e).1 in
        none_number c t CELLS (number_none c t step drift CELLS e).0 (omega arith)

    pub judge_accepted : (m h f : ℤ) (v : Verdict) → m ≡ (margin_judged c t CELLS).margin → h ≡ (verdict_judged c t step drift CELLS).hold → f ≡ (verdict_judged c t step drift CELLS).fail → v ≡ (verdict_judged c t step drift CELLS).verdict
        → record { number = 0; rows = rows c; filled = filled; margin = m; hold = h; fail = f; verdict = v } ≡ answered (verdict_refusal c t step drift CELLS) c t step drift filled
    judge_accepted m h f v p q r s =
        rw (
          sym number_is ∙ e,
          p ∙ margin_is c t CELLS margin_accepts,
          q ∙ hold_is c t step drift CELLS e,
          r ∙ fail_is c t step drift CELLS e,
          s ∙ verdict_is c t step drift CELLS e,
        ) refl
