-- Document 01's bench readings, K1 to K13, and the lines printed for its sheet, as document 02's Change 3 leaves them: what is asked, requirements and
-- sheets given as text, and what is answered.
-- Assumes nothing.
use Rattle.std.specs.Prelude.{List, [], ◌∷◌, ◌++◌, ℕ, ℤ, pos, neg_ℤ}
use Prim.Native.String.{String}
use Rattle.recordings.specs.declared.Range.TheVariants.{AtLeast, AtMost, Between}
use Rattle.recordings.specs.declared.Verdict.{Verdict}
use Rattle.recordings.specs.declared.Verdict.TheVariants.{Holds, NotShown}
use Rattle.recordings.specs.Card.{Card, sixteen, passed}
use Rattle.recordings.specs.Distance.{TOP}
use Rattle.recordings.specs.Examples.{example}
use Rattle.tables.specs.declared.Table.{Table}
use Rattle.distances.specs.Answers.{DistanceOutcome, distance_judged}
use Rattle.margins.specs.Answers.{MarginOutcome, margin_judged}
use Rattle.verdicts.specs.Answer.{VerdictOutcome, verdict_judged}
use Rattle.text.specs.Bytes.{bytes}
use Rattle.requirements.specs.Requirement.{requirement_of}
use Rattle.sheets.specs.Examples.{example as sheet, with_third, filled_row}
use Rattle.answers.specs.Answers.{answers_of}
use Rattle.outcome_lines.specs.Printed.{lines_of}

-- times 0 to 3, values 5, 7, 2, 9; p0 at least 3, p1 at most 6
abbrev pub bench : Card
bench = record {
  setup = record { channels = 1; scales = passed (1 ∷ []); predicates = sixteen (record { channel = 0; range = AtLeast (pos 3) } ∷ record { channel = 0; range = AtMost (pos 6) } ∷ []) };
  times = 0 ∷ 1 ∷ 2 ∷ 3 ∷ [];
  values = pos 5 ∷ pos 7 ∷ pos 2 ∷ pos 9 ∷ [];
}

-- two channels, the first with scale 10; the second's scale, and the channel of p1, which is at most 40, as given
abbrev pub two_units : String → String → List ℕ
two_units scale channel =
    bytes "chan=2\nc=0 scale=10\nc=1 scale=" ++ bytes scale ++ bytes "\np=0 ch=0 lo=5 hi=*\np=1 ch=" ++ bytes channel
    ++ bytes " lo=* hi=40\nstep=1\ndrift=11\nreq=G[0,2](p0&p1)\nt=0 src=m v0=10 v1=30\nt=1 src=m v0=11 v1=24\nt=2 src=m v0=9 v1=20\nt=3 src=m v0=10 v1=20\n"

-- the table that the requirement reader makes of a text
abbrev pub table_of : String → Table
table_of text = (requirement_of (bytes text)).table

-- what the margin function answers on the bench recording; what the distance function answers of a value and "between 3 and 8"; what the verdict function answers, at a drift, on the
-- program's recording, whose step is 1; and the line that is printed for a whole text
pub data Question : Type 0 where
  margin_of : String → Question
  distance_of : ℤ → Question
  verdict_of : ℕ → String → Question
  line_for : List ℕ → Question

pub data Answer : Type 0 where
  margin : MarginOutcome → Answer
  distance : DistanceOutcome → Answer
  verdict : VerdictOutcome → Answer
  line : List ℕ → Answer

-- with as many cells to work in as these tables need
abbrev pub answer : Question → Answer
answer (margin_of text) = margin (margin_judged bench (table_of text) 12)
answer (distance_of v) = distance (distance_judged (record { channel = 0; range = Between (pos 3) (pos 8) }) 1 v)
answer (verdict_of drift text) = verdict (verdict_judged example (table_of text) 1 drift 20)
answer (line_for text) = line (lines_of (answers_of text))

abbrev pub accepted_margin : ℤ → Answer
accepted_margin m = margin (record { number = 0; margin = m })

abbrev pub accepted_distance : ℤ → Answer
accepted_distance d = distance (record { number = 0; distance = d })

abbrev pub accepted_verdict : Verdict → ℤ → ℤ → Answer
accepted_verdict v h f = verdict (record { number = 0; verdict = v; hold = h; fail = f })

pub record Reading : Type 0 where
  pub asked : List Question
  pub answered : List Answer

-- K1 to K13, in order; then what is printed for document 01's sheet, and for the sheet with `src=f` at t=2; then a window that starts now and has nothing
-- left, since its end is before the step; then a card of two units, with a jump that the scale alone makes too large, with a scale out of range, and with a channel out of range besides
abbrev pub readings : List Reading
readings =
    record { asked = margin_of "p0" ∷ []; answered = accepted_margin (pos 3) ∷ [] }
    ∷ record { asked = margin_of "G[0,3]p0" ∷ []; answered = accepted_margin (neg_ℤ (pos 1)) ∷ [] }
    ∷ record { asked = margin_of "F[0,3]p0" ∷ []; answered = accepted_margin (pos 7) ∷ [] }
    ∷ record { asked = margin_of "G[4,9]p0" ∷ []; answered = accepted_margin (pos TOP) ∷ [] }
    ∷ record { asked = margin_of "F[4,9]p0" ∷ []; answered = accepted_margin (neg_ℤ (pos TOP)) ∷ [] }
    ∷ record { asked = margin_of "p0U[1,2]p1" ∷ []; answered = accepted_margin (pos 3) ∷ [] }
    ∷ record { asked = margin_of "p1R[0,2]p0" ∷ []; answered = accepted_margin (pos 2) ∷ [] }
    ∷ record { asked = margin_of "!p0" ∷ []; answered = accepted_margin (neg_ℤ (pos 3)) ∷ [] }
    ∷ record {
      asked = distance_of (pos 2) ∷ distance_of (pos 3) ∷ distance_of (pos 8) ∷ distance_of (pos 9) ∷ [];
      answered = accepted_distance (neg_ℤ (pos 1)) ∷ accepted_distance (pos 1) ∷ accepted_distance (pos 1) ∷ accepted_distance (neg_ℤ (pos 1)) ∷ [];
    }
    ∷ record { asked = verdict_of 4 "G[0,2]p0" ∷ []; answered = accepted_verdict Holds (pos 5) (neg_ℤ (pos 6)) ∷ [] }
    ∷ record { asked = verdict_of 5 "G[0,2]p0" ∷ []; answered = accepted_verdict NotShown (pos 5) (neg_ℤ (pos 6)) ∷ [] }
    ∷ record { asked = verdict_of 2 "F[1,3]p0" ∷ []; answered = accepted_verdict Holds (pos 6) (neg_ℤ (pos 7)) ∷ [] }
    ∷ record { asked = verdict_of 2 "F[0,1]p0" ∷ []; answered = accepted_verdict Holds (pos 6) (neg_ℤ (pos 7)) ∷ [] }
    ∷ record { asked = line_for sheet ∷ []; answered = line (bytes "rows=5 filled=0 margin=6 hold=5 fail=-6 verdict=holds\n") ∷ [] }
    ∷ record { asked = line_for (with_third filled_row) ∷ []; answered = line (bytes "refused=10\n") ∷ [] }
    ∷ record { asked = verdict_of 2 "F[0,0]p0" ∷ []; answered = accepted_verdict NotShown (neg_ℤ (pos TOP)) (neg_ℤ (pos 7)) ∷ [] }
    ∷ record {
      asked = line_for (two_units "3" "1") ∷ line_for (two_units "4" "1") ∷ line_for (two_units "1001" "1") ∷ line_for (two_units "1001" "2") ∷ [];
      answered = line (bytes "rows=4 filled=0 margin=33 hold=33 fail=-33 verdict=holds\n") ∷ line (bytes "refused=11\n") ∷ line (bytes "refused=13\n") ∷ line (bytes "refused=4\n") ∷ [];
    }
    ∷ []
