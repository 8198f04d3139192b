-- The verdict's answer in document 01's numbers and values, and what the cells hold afterwards.
-- Assumes nothing.
use Rattle.std.specs.Prelude.{List, ◌∷◌, ◌++◌, ℕ, ◌*◌, ◌≤◌, leb, ℤ, pos, length, Result, Ok, Err}
use Rattle.recordings.specs.declared.Verdict.{Verdict}
use Rattle.recordings.specs.declared.Verdict.TheVariants.{NotShown}
use Rattle.recordings.specs.Card.{Card, rows}
use Rattle.recordings.specs.Verdict.{hold, fail, verdict}
use Rattle.tables.specs.declared.Table.{Table}
use Rattle.tables.specs.Tree.{root}
use Rattle.refusals.specs.declared.Refusal.{Refusal}
use Rattle.refusals.specs.First.{Check, first, unless_refused}
use Rattle.refusals.specs.Number.{number}
use Rattle.rules.specs.Refusals.{checks}
use Rattle.sampling.specs.Sampling.{checks as sampling_checks}
use Rattle.verdicts.specs.declared.Judgement.{Judgement}
use Rattle.verdicts.specs.Cells.{cells}

-- what document 01 hands back: a number, 0 for no refusal; the verdict, hold and fail, under a refusal "not shown", 0, 0
pub record VerdictOutcome : Type 0 where
  pub number : ℕ
  pub verdict : Verdict
  pub hold : ℤ
  pub fail : ℤ

abbrev pub verdict_outcome : Result Judgement Refusal → VerdictOutcome
verdict_outcome (Ok j) = record { number = 0; verdict = j.verdict; hold = j.hold; fail = j.fail }
verdict_outcome (Err r) = record { number = number r; verdict = NotShown; hold = pos 0; fail = pos 0 }

-- 8: work shorter than 2 × n × rows cells
abbrev pub verdict_room : Card → Table → ℕ → Check
verdict_room c t size = record { number = 8; sentence = 2 * t.count * rows c ≤ size; passes = leb (2 * t.count * rows c) size }

-- refusals 3 to 11, in the order in which they count
abbrev pub verdict_checks : Card → Table → ℕ → ℕ → ℕ → List Check
verdict_checks c t step drift size = checks c t ++ (verdict_room c t size ∷ sampling_checks c step drift)

unfoldable pub verdict_refusal : Card → Table → ℕ → ℕ → ℕ → ℕ
verdict_refusal c t step drift size = first (verdict_checks c t step drift size)

unfoldable pub verdict_judged : Card → Table → ℕ → ℕ → ℕ → VerdictOutcome
verdict_judged c t step drift size = record {
  number = verdict_refusal c t step drift size;
  verdict = unless_refused (verdict_refusal c t step drift size) (verdict c step drift (root t)) NotShown;
  hold = unless_refused (verdict_refusal c t step drift size) (hold c step (root t)) (pos 0);
  fail = unless_refused (verdict_refusal c t step drift size) (fail c step (root t)) (pos 0);
}

-- under a refusal the cells keep their contents
unfoldable pub verdict_cells : Card → Table → ℕ → ℕ → List ℤ → List ℤ
verdict_cells c t step drift w = unless_refused (verdict_refusal c t step drift (length w)) (cells c step t.nodes t.count w) w
