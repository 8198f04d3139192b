-- What each place of a C function's slices holds.
-- Assumes nothing.
use Rattle.std.specs.Prelude.{List, [], ◌∷◌, ℕ, ℤ, pos, Result, Ok, Err}
use Rattle.recordings.specs.declared.Verdict.{Verdict}
use Rattle.recordings.specs.declared.Verdict.TheVariants.{Holds, Fails, NotShown}
use Rattle.recordings.specs.Card.{Card, card}
use Rattle.recordings.specs.declared.Predicate.{Predicate}
use Rattle.recordings.specs.declared.Setup.{Setup}
use Rattle.refusals.specs.First.{unless_refused}
use Rattle.distances.specs.Answers.{DistanceOutcome}
use Rattle.margins.specs.Answers.{MarginOutcome as Margin}
use Rattle.verdicts.specs.Answer.{VerdictOutcome as Judgement}
use Rattle.sheets.specs.Form.{SheetAnswer}
use Rattle.sheet_rows.specs.Answer.{Answer as Rows}
use Rattle.flat.specs.Predicates.{range_from, predicates_from}
use Rattle.flat.specs.Scales.{scales_from, setup_from}
use Rattle.arrivals.specs.Arrivals.{watch_setup}
use Rattle.lists.specs.Front.{written}

-- what a requirement is read against: a setup in flat numbers, and a recording
unfoldable pub card_from : List ℕ → List ℤ → ℕ → List ℕ → List ℕ → List ℤ → Card
card_from ranges ends channels scales times values = card (setup_from ranges ends channels scales) times values

-- what a watch is made with: the count of scales is its channel count
abbrev pub watch_setup_from : List ℕ → List ℤ → List ℕ → Setup
watch_setup_from ranges ends scales = watch_setup (predicates_from ranges ends) (scales_from scales)

-- one predicate in four numbers
abbrev pub predicate_of : ℕ → ℕ → ℤ → ℤ → Predicate
predicate_of range channel lo hi = record { channel = channel; range = range_from range lo hi }

-- what a slice holds afterwards: new contents in front, and under a refusal what it held before
abbrev pub handed : {X : Type 0} → ℕ → List X → List X → List X
handed number new old = unless_refused number (written new old) old

-- and after an answer of several numbers
abbrev pub answer_handed : {E : Type 0} → Result (List ℤ) E → List ℤ → List ℤ
answer_handed (Ok new) old = written new old
answer_handed (Err e) old = old

-- the distance
abbrev pub distance_handed : DistanceOutcome → List ℤ → List ℤ
distance_handed d old = handed d.number (d.distance ∷ []) old

-- the margin
abbrev pub margin_handed : Margin → List ℤ → List ℤ
margin_handed m old = handed m.number (m.margin ∷ []) old

-- the verdict, hold and fail
abbrev pub verdict_number : Verdict → ℤ
verdict_number NotShown = pos 0
verdict_number Holds = pos 1
verdict_number Fails = pos 2

abbrev pub verdict_handed : Judgement → List ℤ → List ℤ
verdict_handed j old = handed j.number (verdict_number j.verdict ∷ j.hold ∷ j.fail ∷ []) old

-- channels, step, drift, the rows' first place, the count of requirements
abbrev pub sheet_numbers : SheetAnswer → List ℕ
sheet_numbers s = s.head.setup.channels ∷ s.head.step ∷ s.head.drift ∷ s.rows ∷ s.count ∷ []

-- measured rows, filled rows
abbrev pub row_places : Rows → List ℕ
row_places a = a.rows ∷ a.filled ∷ []
