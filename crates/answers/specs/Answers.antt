-- The answers to a whole text: 1 or 12, or for each of its requirements the number of the first refusal that applies to it and to the measured rows, or else the figures.
-- Assumes nothing.
use Rattle.std.specs.Prelude.{List, ◌∷◌, ◌++◌, ◌≡◌, true, false, not, ℕ, ◌-◌, ◌*◌, ◌≤◌, ◌<◌, leb, eqb, length, get_or, take, drop, ℤ}
use Rattle.lists.specs.Each.{each_below}
use Rattle.recordings.specs.Card.{Card, rows, card}
use Rattle.recordings.specs.Margin.{margin as margin_at}
use Rattle.recordings.specs.Verdict.{hold as hold_of, fail as fail_of, verdict as verdict_of}
use Rattle.tables.specs.declared.Table.{Table}
use Rattle.tables.specs.Tree.{root}
use Rattle.refusals.specs.First.{Check, first, unless_refused}
use Rattle.rules.specs.Refusals.{table_checks, sample_checks}
use Rattle.sampling.specs.Sampling.{checks as sampling_checks}
use Rattle.verdicts.specs.Answer.{verdict_room}
use Rattle.grammar.specs.Tree.{Tree}
use Rattle.grammar.specs.Grammar.{Requires}
use Rattle.requirements.specs.Requirement.{requirement_of}
use Rattle.row_lines.specs.Reading.{limit, channels_in_range, Listing, is_broken, rows_of}
use Rattle.sheet_rows.specs.Answer.{Answer as RowsAnswer, answer_of, times_of, values_of, filled_of}
use Rattle.heads.specs.declared.Head.{Head}
use Rattle.requirement_lines.specs.declared.Place.{Place}
use Rattle.requirement_lines.specs.Form.{MOST_REQUIREMENTS, no_place}
use Rattle.sheets.specs.Form.{SheetAnswer, IsWritten, Crowded}
use Rattle.sheets.specs.Sheets.{sheet_of}
use Rattle.outcomes.specs.declared.Outcome.{Outcome}
use Rattle.outcomes.specs.Outcome.{refused_by, TextOutcome, text_refused_by}

-- room for 2,048 measured rows of up to eight channels, and for 8,192 cells
abbrev pub ROWS : ℕ
ROWS = 2_048

abbrev pub VALUES : ℕ
VALUES = 16_384

abbrev pub CELLS : ℕ
CELLS = 8_192

-- ---- the parts of a text: requirement k stands at place k, and the rows behind the requirements
abbrev pub place_of : SheetAnswer → ℕ → Place
place_of x k = get_or x.requirements k no_place

abbrev pub requirement_part : List ℕ → SheetAnswer → ℕ → List ℕ
requirement_part s x k = take ((place_of x k).to - (place_of x k).from) (drop (place_of x k).from s)

abbrev pub rows_part : List ℕ → SheetAnswer → List ℕ
rows_part s x = drop x.rows s

-- what the rows say, and the recording of the measured ones
abbrev pub listing : List ℕ → SheetAnswer → Listing
listing s x = rows_of x.head.setup.channels (rows_part s x)

abbrev pub measured : Head → Listing → Card
measured h l = card h.setup (times_of l) (values_of l)

-- ---- the refusals, in the order in which they count
-- 1: a line breaks the text form or is missing, or the text is too long
abbrev pub sheet_check : List ℕ → Check
sheet_check s = record {
  number = 1;
  sentence = IsWritten s;
  passes = not (eqb (sheet_of s).number 1);
}

-- 12: a seventeenth requirement
abbrev pub crowd_check : List ℕ → Check
crowd_check s = record { number = 12; sentence = Crowded s → ⊥; passes = not (eqb (sheet_of s).number 12) }

-- 2: requirement text outside the grammar or its limits
abbrev pub requirement_check : List ℕ → Check
requirement_check r = record { number = 2; sentence = (a : Tree) × Requires r a; passes = eqb (requirement_of r).refusal 0 }

-- 5: more measured rows than there is room for
abbrev pub rows_check : Card → Check
rows_check c = record { number = 5; sentence = rows c ≤ ROWS; passes = leb (rows c) ROWS }

-- refusals 3 to 11 of a table
abbrev pub table_run : Card → Table → ℕ → ℕ → List Check
table_run c t step drift = table_checks c t ++ (rows_check c ∷ (sample_checks c ++ (verdict_room c t CELLS ∷ sampling_checks c step drift)))

-- refusals 2 to 11 of a requirement's bytes
abbrev pub requirement_run : Head → Listing → List ℕ → List Check
requirement_run h l r = requirement_check r ∷ table_run (measured h l) (requirement_of r).table h.step h.drift

-- measured rows, filled rows, plain margin, the two strengthened ones, the verdict
abbrev pub figures : Card → Table → ℕ → ℕ → ℕ → Outcome
figures c t step drift filled = record {
  number = 0;
  rows = rows c;
  filled = filled;
  margin = margin_at c (root t) 0;
  hold = hold_of c step (root t);
  fail = fail_of c step (root t);
  verdict = verdict_of c step drift (root t);
}

abbrev pub answered : ℕ → Card → Table → ℕ → ℕ → ℕ → Outcome
answered n c t step drift filled = unless_refused n (figures c t step drift filled) (refused_by n)

-- the answer for a table of a sheet, and for a requirement's bytes: functions of the head, the measured rows and the count of filled ones
abbrev pub table_answer : Head → Listing → Table → Outcome
table_answer h l t = answered (first (table_run (measured h l) t h.step h.drift)) (measured h l) t h.step h.drift (filled_of l)

unfoldable pub answer_for : Head → Listing → List ℕ → Outcome
answer_for h l r = answered (first (requirement_run h l r)) (measured h l) (requirement_of r).table h.step h.drift (filled_of l)

-- ---- the answers to a text
abbrev pub head_in : List ℕ → Head
head_in s = (sheet_of s).head

abbrev pub listing_in : List ℕ → Listing
listing_in s = listing s (sheet_of s)

abbrev pub requirement_in : List ℕ → ℕ → List ℕ
requirement_in s k = requirement_part s (sheet_of s) k

-- refusals 1, 12 and 2 to 11 of a text's requirement k
abbrev pub whole_run : List ℕ → ℕ → List Check
whole_run s k = sheet_check s ∷ crowd_check s ∷ requirement_run (head_in s) (listing_in s) (requirement_in s k)

-- the answer that requirement k of a text gets
unfoldable pub answer_to : List ℕ → ℕ → Outcome
answer_to s k = unless_refused (sheet_of s).number (answer_for (head_in s) (listing_in s) (requirement_in s k)) (refused_by (sheet_of s).number)

-- the answers of a sheet's requirements
abbrev pub entries : List ℕ → SheetAnswer → List Outcome
entries s x = each_below (λ k. answer_for x.head (listing s x) (requirement_part s x k)) x.count

-- 1 and 12 are answered once for the whole text
abbrev pub all_answered : List ℕ → SheetAnswer → TextOutcome
all_answered s x = record { number = 0; entries = entries s x }

unfoldable pub answers_of : List ℕ → TextOutcome
answers_of s = unless_refused (sheet_of s).number (all_answered s (sheet_of s)) (text_refused_by (sheet_of s).number)

-- the answers to a text in sheet order, one for each requirement
abbrev pub answers_in : List ℕ → List Outcome
answers_in s = (answers_of s).entries

-- ---- what the readers leave
-- lines behind the requirements that were checked
pub record Checked (rows : List ℕ) (channels : ℕ) : Type 0 where
  pub short : length rows ≤ limit
  pub whole : channels_in_range channels ≡ true → is_broken (rows_of channels rows) ≡ false

-- at most sixteen requirements stand in the text, and the rows behind them were checked
pub record Placed (s : List ℕ) (x : SheetAnswer) : Type 0 where
  pub few : x.count ≤ MOST_REQUIREMENTS
  pub long : length x.requirements ≡ MOST_REQUIREMENTS
  pub ordered : (k : ℕ) → k < x.count → (place_of x k).from ≤ (place_of x k).to
  pub inside : (k : ℕ) → k < x.count → (place_of x k).to ≤ length s
  pub behind : x.rows ≤ length s
  pub checked : Checked (rows_part s x) x.head.setup.channels

-- the rows stand in front of two slices, unless they were refused
pub record Stored (s : List ℕ) (x : SheetAnswer) (a : RowsAnswer) (times : List ℕ) (values : List ℤ) : Type 0 where
  pub answer : a ≡ answer_of (rows_part s x) x.head.setup.channels ROWS VALUES
  pub times_long : length times ≡ ROWS
  pub values_long : length values ≡ VALUES
  pub times_read : a.number ≡ 0 → take a.rows times ≡ times_of (listing s x)
  pub values_read : a.number ≡ 0 → take (a.rows * x.head.setup.channels) values ≡ values_of (listing s x)
