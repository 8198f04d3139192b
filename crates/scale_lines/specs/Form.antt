-- The form of a sheet's scale lines: `c= scale=`, one for each channel, in order.
-- Assumes nothing.
use Rattle.std.specs.Prelude.{ℕ, ◌+◌, ◌≤◌, ◌≡◌, cond, List, [], ◌∷◌, ◌++◌, length, leb}
use Rattle.text.specs.Bytes.{bytes}
use Rattle.text.specs.Number.{largest}
use Rattle.text.specs.Numeral.{Numeral}
use Rattle.recordings.specs.declared.Scales.{Scales}
use Rattle.recordings.specs.Accepted.{MOST_CHANNELS}
use Rattle.recordings.specs.Card.{passed}

-- a channel's line and its scale; the channel is one of eight, so its number needs no bound of its own
pub record ScaleLine (line : List ℕ) (channel scale : ℕ) : Type 0 where
  pub c : List ℕ
  pub digits : List ℕ
  pub named : Numeral c channel
  pub numeral : Numeral digits scale
  pub bound : scale ≤ largest
  pub spelled : line ≡ bytes "c=" ++ c ++ bytes " scale=" ++ digits ++ bytes "\n"

-- lines of which the first is a channel's and each one behind it the next channel's, and the scales that they say
pub data LinesFrom : ℕ → List (List ℕ) → List ℕ → Type 0 where
  over : {channel : ℕ} → LinesFrom channel [] []
  more : {l : List ℕ} {ls : List (List ℕ)} {channel scale : ℕ} {scales : List ℕ}
      → ScaleLine l channel scale → LinesFrom (channel + 1) ls scales → LinesFrom channel (l ∷ ls) (scale ∷ scales)

-- how many lines are due: one for each channel where there are 1 to 8, and otherwise none
unfoldable pub due : ℕ → ℕ
due channels = cond (leb channels MOST_CHANNELS) channels 0

-- the scale lines of a head with so many channels, as many as are due from channel 0 on, and the scales that they say
pub record ScaleLines (ls : List (List ℕ)) (channels : ℕ) (scales : Scales) : Type 0 where
  pub said : List ℕ
  pub in_order : LinesFrom 0 ls said
  pub all : length ls ≡ due channels
  pub kept : scales ≡ passed said
