-- The scale lines of a text, read from a place on. `Exact` in proofs/ shows that they are read exactly where the form of Form.antt stands.
-- Assumes nothing.
use Rattle.std.specs.Prelude.{ℕ, zero, suc, ◌+◌, cond, List, [], Option, None, set, eqb}
use Rattle.text.specs.Bytes.{bytes}
use Rattle.text.specs.Mark.{after, read}
use Rattle.text.specs.Number.{largest, field_at, after_number}
use Rattle.text.specs.declared.Read.{Read}
use Rattle.recordings.specs.declared.Scales.{Scales}
use Rattle.recordings.specs.Card.{eight}
use Rattle.number_lines.specs.Reading.{number_line_at}
use Rattle.scale_lines.specs.Form.{due}

-- the line of a channel at a place: its scale and the place of the next line
unfoldable pub line_at : List ℕ → ℕ → ℕ → Option (Read ℕ)
line_at s at channel = after_number (field_at (bytes "c=") s at largest) (λ k n. cond (eqb k channel) (number_line_at (bytes " scale=") s n) None) None

-- so many scales, and the place of the line behind theirs
abbrev pub scales_place : ℕ → List ℕ → ℕ → Option (Read Scales)
scales_place count each n = read (record { count = count; each = each }) n

-- f lines from a channel on, whose scales are set beside those that are set; none where a line is refused
unfoldable pub lines_from : ℕ → List ℕ → ℕ → ℕ → List ℕ → Option (Read Scales)
lines_from zero s at channel each = scales_place channel each at
lines_from (suc f) s at channel each = after (line_at s at channel) (λ r. lines_from f s r.next (channel + 1) (set each channel r.value)) None

-- the lines that are due
unfoldable pub scales_at : List ℕ → ℕ → ℕ → Option (Read Scales)
scales_at s at channels = lines_from (due channels) s at 0 (eight [])
