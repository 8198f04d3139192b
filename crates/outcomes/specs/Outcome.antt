-- The outcome of a requirement and that of a whole text as the papers have them: a number, 0 where nothing is refused, and the figures, which are nothing under a refusal.
-- Assumes nothing.
use Rattle.std.specs.Prelude.{ℕ, List, [], map, take, pos, Result, Ok, Err}
use Rattle.recordings.specs.declared.Verdict.TheVariants.{NotShown}
use Rattle.refusals.specs.declared.Refusal.{Refusal}
use Rattle.refusals.specs.Number.{number}
use Rattle.outcomes.specs.declared.Figures.{Figures}
use Rattle.outcomes.specs.declared.Outcome.{Outcome}
use Rattle.outcomes.specs.declared.Outcomes.{Outcomes}
use Rattle.outcomes.specs.declared.OutcomeList.{OutcomeList}

-- a refusal's number, and nothing else
abbrev pub refused_by : ℕ → Outcome
refused_by n = record { number = n; rows = 0; filled = 0; margin = pos 0; hold = pos 0; fail = pos 0; verdict = NotShown }

-- figures, which nothing refused
abbrev pub judged_as : Figures → Outcome
judged_as f = record { number = 0; rows = f.rows; filled = f.filled; margin = f.margin; hold = f.hold; fail = f.fail; verdict = f.verdict }

abbrev pub outcome_of : Result Figures Refusal → Outcome
outcome_of (Ok f) = judged_as f
outcome_of (Err r) = refused_by (number r)

-- of a text: the number of a refusal of the whole, and the outcomes of its requirements in sheet order
pub record TextOutcome : Type 0 where
  pub number : ℕ
  pub entries : List Outcome

abbrev pub text_refused_by : ℕ → TextOutcome
text_refused_by n = record { number = n; entries = [] }

-- the first `count` of sixteen
abbrev pub text_of : Outcomes → TextOutcome
text_of a = record { number = a.number; entries = take a.count a.entries }

abbrev pub text_outcome_of : Result OutcomeList Refusal → TextOutcome
text_outcome_of (Ok xs) = record { number = 0; entries = map outcome_of xs }
text_outcome_of (Err r) = text_refused_by (number r)
