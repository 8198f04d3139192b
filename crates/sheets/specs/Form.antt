-- The form of a sheet: its head, `req=` lines, then rows.
-- Assumes nothing.
use Rattle.std.specs.Prelude.{ℕ, ◌+◌, ◌≤◌, ◌≡◌, true, List, ◌++◌, length, Result, Ok, Err}
use Rattle.lines.specs.Lines.{lines, size}
use Rattle.row_lines.specs.Form.{AreRows}
use Rattle.row_lines.specs.Reading.{limit, channels_in_range}
use Rattle.heads.specs.declared.Head.{Head}
use Rattle.heads.specs.Form.{HeadForm, no_head}
use Rattle.requirement_lines.specs.Form.{requirement_lines, places_from, Over, MOST_REQUIREMENTS, nowhere, sixteen}
use Rattle.requirement_lines.specs.declared.Place.{Place}
use Rattle.refusals.specs.declared.Refusal.{Refusal}
use Rattle.refusals.specs.Number.{number}
use Rattle.sheets.specs.declared.Sheet.{Sheet}

-- the number of the refusal that counts, 0 where none applies, and what the sheet says
pub record SheetAnswer : Type 0 where
  pub number : ℕ
  pub head : Head
  pub count : ℕ
  pub requirements : List Place
  pub rows : ℕ

-- a text by its lines: those of its head, those of its requirements, at least one, and those behind
pub record Written (text : List ℕ) (head : Head) (requirements rows : List (List ℕ)) : Type 0 where
  pub front : List (List ℕ)
  pub short : length text ≤ limit
  pub cuts : lines text ≡ front ++ (requirement_lines requirements ++ rows)
  pub begins : HeadForm front head
  pub some : 1 ≤ length requirements
  -- the first line that does not begin with `req=` is where the rows begin
  pub over : Over rows
  -- rows are read only where the channels are 1 to 8
  pub listed : channels_in_range head.setup.channels ≡ true → AreRows head.setup.channels rows

-- a text is written as a sheet, whatever it says
abbrev pub IsWritten : List ℕ → Type 0
IsWritten text = (head : Head) × (requirements : List (List ℕ)) × (rows : List (List ℕ)) × Written text head requirements rows

-- a text of the form, and the sheet that it gives: the head, up to sixteen requirements by their places, and the place behind them
pub record Form (text : List ℕ) (sheet : SheetAnswer) : Type 0 where
  pub requirements : List (List ℕ)
  pub rows : List (List ℕ)
  pub written : Written text sheet.head requirements rows
  pub few : length requirements ≤ MOST_REQUIREMENTS
  pub count : sheet.count ≡ length requirements
  pub places : sheet.requirements ≡ sixteen (places_from (size written.front) requirements)
  pub behind : sheet.rows ≡ size written.front + size (requirement_lines requirements)
  pub number : sheet.number ≡ 0

-- a text of the form but for the count of its requirements
pub record Crowded (text : List ℕ) : Type 0 where
  pub head : Head
  pub requirements : List (List ℕ)
  pub rows : List (List ℕ)
  pub written : Written text head requirements rows
  pub many : MOST_REQUIREMENTS + 1 ≤ length requirements

-- no sheet, under a refusal
abbrev pub blank : ℕ → SheetAnswer
blank number = record { number = number; head = no_head; count = 0; requirements = nowhere; rows = 0 }

-- what the sheet reader hands back, as an answer
abbrev pub outcome : Result Sheet Refusal → SheetAnswer
outcome (Ok x) = record { number = 0; head = x.head; count = x.count; requirements = x.requirements; rows = x.rows }
outcome (Err r) = blank (number r)
