-- The row reader's answer and what it leaves in the slices: functions of the text's measured rows and of the count of its filled ones.
-- Assumes nothing.
use Rattle.std.specs.Prelude.{ℕ, ◌*◌, ◌≤◌, Bool, not, ◌&&◌, List, [], ◌∷◌, ◌++◌, length, ℤ, leb, Result, Ok, Err}
use Rattle.recordings.specs.Accepted.{MOST_ROWS}
use Rattle.refusals.specs.First.{Check, first, unless_refused}
use Rattle.refusals.specs.Number.{number}
use Rattle.lines.specs.Lines.{lines}
use Rattle.row_lines.specs.Form.{Sample, Rows, AreRows, ChannelsInRange}
use Rattle.row_lines.specs.Reading.{limit, channels_in_range, Listing, listed, broken, is_broken, rows_of}
use Rattle.refusals.specs.declared.Refusal.{Refusal}
use Rattle.row_lines.specs.declared.Counts.{Counts}

-- the number of the refusal that counts, 0 where none applies, and how many rows are measured and how many filled
pub record Answer : Type 0 where
  pub number : ℕ
  pub rows : ℕ
  pub filled : ℕ

abbrev pub measured_of : Listing → ℕ
measured_of (listed xs k) = length xs
measured_of broken = 0

abbrev pub filled_of : Listing → ℕ
filled_of (listed xs k) = k
filled_of broken = 0

-- measured rows exceed neither 4,096 nor the slices
pub record RoomFor (rows channels times values : ℕ) : Type 0 where
  pub few : rows ≤ MOST_ROWS
  pub times_hold : rows ≤ times
  pub values_hold : rows * channels ≤ values

abbrev pub has_room : ℕ → ℕ → ℕ → ℕ → Bool
has_room rows channels times values = leb rows MOST_ROWS && (leb rows times && leb (rows * channels) values)

-- 1: a line breaks the text form, or the text exceeds 65,536 bytes; rows are read only where the channels are 1 to 8
abbrev pub text_check : List ℕ → ℕ → Check
text_check s channels =
    record {
      number = 1;
      sentence = (length s ≤ limit) × (ChannelsInRange channels → AreRows channels (lines s));
      passes = leb (length s) limit && not (channels_in_range channels && is_broken (rows_of channels s));
    }

-- 4: channels not 1 to 8
abbrev pub channels_check : ℕ → Check
channels_check channels = record { number = 4; sentence = ChannelsInRange channels; passes = channels_in_range channels }

-- 5: measured rows exceed 4,096 or the slices
abbrev pub room_check : List ℕ → ℕ → ℕ → ℕ → Check
room_check s channels times values =
    record {
      number = 5;
      sentence = (samples : List Sample) (filled : ℕ) → Rows channels (lines s) samples filled → RoomFor (length samples) channels times values;
      passes = has_room (measured_of (rows_of channels s)) channels times values;
    }

-- the row reader's refusals, in the order in which they count
abbrev pub row_checks : List ℕ → ℕ → ℕ → ℕ → List Check
row_checks s channels times values = text_check s channels ∷ channels_check channels ∷ room_check s channels times values ∷ []

abbrev pub refusal : List ℕ → ℕ → ℕ → ℕ → ℕ
refusal s channels times values = first (row_checks s channels times values)

-- none of them applies
pub record Readable (s : List ℕ) (channels times values : ℕ) : Type 0 where
  pub short : length s ≤ limit
  pub in_range : ChannelsInRange channels
  pub samples : List Sample
  pub filled : ℕ
  pub rows : Rows channels (lines s) samples filled
  pub room : RoomFor (length samples) channels times values

-- no rows, under a refusal
abbrev pub no_rows : ℕ → Answer
no_rows number = record { number = number; rows = 0; filled = 0 }

-- the counts of measured and of filled rows
abbrev pub counted : Listing → Answer
counted x = record { number = 0; rows = measured_of x; filled = filled_of x }

-- what the row reader hands back, as an answer
abbrev pub outcome : Result Counts Refusal → Answer
outcome (Ok c) = record { number = 0; rows = c.rows; filled = c.filled }
outcome (Err r) = no_rows (number r)

-- the answer to a text, for slices of `times` and `values` places
abbrev pub answer_of : List ℕ → ℕ → ℕ → ℕ → Answer
answer_of s channels times values =
    unless_refused (refusal s channels times values) (counted (rows_of channels s)) (no_rows (refusal s channels times values))

-- the times and the values of measured rows, in sheet order: sample i, channel c stands at place i × channels + c
unfoldable pub times_in : List Sample → List ℕ
times_in [] = []
times_in (x ∷ xs) = x.time ∷ times_in xs

unfoldable pub values_in : List Sample → List ℤ
values_in [] = []
values_in (x ∷ xs) = x.values ++ values_in xs

abbrev pub times_of : Listing → List ℕ
times_of (listed xs k) = times_in xs
times_of broken = []

abbrev pub values_of : Listing → List ℤ
values_of (listed xs k) = values_in xs
values_of broken = []
