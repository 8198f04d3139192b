-- What the storing functions ask of their callers: the text was checked through, and the slices have room.
-- Assumes nothing.
use Rattle.std.specs.Prelude.{ℕ, ◌+◌, ◌*◌, ◌≤◌, ◌≡◌, List, length, ℤ}
use Rattle.text.specs.Mark.{read}
use Rattle.row_lines.specs.Form.{Sample}
use Rattle.row_lines.specs.Reading.{values_from, listed, rows_of}

pub record Storable (s : List ℕ) (at channels place room : ℕ) : Type 0 where
  pub worth : List ℤ
  pub end : ℕ
  pub reads : values_from channels 0 s at ≡ read worth end
  pub fits : place + channels ≤ room

pub record Fitting (s : List ℕ) (channels times values : ℕ) : Type 0 where
  pub samples : List Sample
  pub filled : ℕ
  pub reads : rows_of channels s ≡ listed samples filled
  pub rows_fit : length samples ≤ times
  pub values_fit : length samples * channels ≤ values
