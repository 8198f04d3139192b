-- The rows of a text, read from its front. `Exact` in proofs/ shows that they are read exactly where the form of Form.antt stands.
-- Assumes nothing.
use Rattle.std.specs.Prelude.{ℕ, zero, suc, ◌+◌, Bool, true, false, cond, ◌&&◌, List, [], ◌∷◌, Option, Some, None, length, ℤ, leb, eqb}
use Rattle.text.specs.Bytes.{bytes}
use Rattle.text.specs.Mark.{mark_at, after, read}
use Rattle.text.specs.Number.{largest, field_at, signed_field_at, after_number}
use Rattle.text.specs.declared.Field.{Field}
use Rattle.text.specs.declared.Field.TheVariants.{Bad}
use Rattle.text.specs.declared.Read.{Read}
use Rattle.lines.specs.Reading.{also}
use Rattle.recordings.specs.Accepted.{MOST_CHANNELS}
use Rattle.row_lines.specs.declared.RowLine.{RowLine}
use Rattle.row_lines.specs.declared.RowLine.TheVariants.{Measured, Filled}
use Rattle.row_lines.specs.declared.Counts.{Counts}
use Rattle.row_lines.specs.Form.{Sample}

-- a text longer than this is refused
abbrev pub limit : ℕ
limit = 65_536

-- the test of `ChannelsInRange`
abbrev pub channels_in_range : ℕ → Bool
channels_in_range channels = leb 1 channels && leb channels MOST_CHANNELS

-- the value of channel c at a place
unfoldable pub value_at : List ℕ → ℕ → ℕ → Field ℤ
value_at s at c =
    after_number (field_at (bytes " v") s at largest) (λ k n. cond (eqb k c) (signed_field_at (bytes "=") s n) Bad) Bad

-- values and the place after them
abbrev pub ValuesAt : Type 0
ValuesAt = Option (Read (List ℤ))

-- the values of k channels from channel c on
unfoldable pub values_from : ℕ → ℕ → List ℕ → ℕ → ValuesAt
values_from zero c s at = read [] at
values_from (suc k) c s at = after_number (value_at s at c) (λ v n. also v (values_from k (c + 1) s n)) None

abbrev pub end_of : ValuesAt → Option ℕ
end_of (Some r) = Some r.next
end_of None = None

abbrev pub all_of : ValuesAt → List ℤ
all_of (Some r) = r.value
all_of None = []

-- the place after a row's values and its line feed
unfoldable pub rest_at : List ℕ → ℕ → ℕ → Option ℕ
rest_at s at channels = after (end_of (values_from channels 0 s at)) (λ n. mark_at (bytes "\n") s n) None

-- a measured row's line, by its parts, and a filled one's
abbrev pub measured_row : ℕ → ℕ → ℕ → Option RowLine
measured_row t a n = Some (Measured (record { time = t; values = a; next = n }))

abbrev pub filled_row : ℕ → Option RowLine
filled_row n = Some (Filled n)

-- what follows ` src=` in the line of a row of time t
abbrev pub after_source : List ℕ → ℕ → ℕ → ℕ → Option RowLine
after_source s channels t b =
    after (mark_at (bytes "m") s b)
    (λ a. after (rest_at s a channels) (λ n. measured_row t a n) None)
    (after (mark_at (bytes "f") s b) (λ a. after (rest_at s a channels) (λ n. filled_row n) None) None)

-- the row whose line begins at a place
unfoldable pub row_at : List ℕ → ℕ → ℕ → Option RowLine
row_at s at channels =
    after_number (field_at (bytes "t=") s at largest)
    (λ t e. after (mark_at (bytes " src=") s e) (λ b. after_source s channels t b) None)
    None

abbrev pub after_row : {A : Type 0} → Option RowLine → (ℕ → ℕ → ℕ → A) → (ℕ → A) → A → A
after_row (Some (Measured r)) f g x = f r.time r.values r.next
after_row (Some (Filled n)) f g x = g n
after_row None f g x = x

-- the measured rows of a text and the count of its filled ones, or broken where a line has not the form
pub data Listing : Type 0 where
  listed : List Sample → ℕ → Listing
  broken : Listing

abbrev pub is_broken : Listing → Bool
is_broken (listed xs k) = false
is_broken broken = true

abbrev pub also_measured : Sample → Listing → Listing
also_measured x (listed xs k) = listed (x ∷ xs) k
also_measured x broken = broken

abbrev pub also_filled : Listing → Listing
also_filled (listed xs k) = listed xs (suc k)
also_filled broken = broken

-- a measured row whose values begin at a place
abbrev pub sample_at : List ℕ → ℕ → ℕ → ℕ → Sample
sample_at s channels t a = record { time = t; values = all_of (values_from channels 0 s a) }

-- the rows from a place to the end of the text, which f lines reach
unfoldable pub rows_from : ℕ → ℕ → List ℕ → ℕ → Listing
rows_from zero channels s at = cond (leb (length s) at) (listed [] 0) broken
rows_from (suc f) channels s at =
    cond (leb (length s) at) (listed [] 0)
    (after_row (row_at s at channels) (λ t a n. also_measured (sample_at s channels t a) (rows_from f channels s n)) (λ n. also_filled (rows_from f channels s n)) broken)

-- a line has a byte at least
abbrev pub rows_of : ℕ → List ℕ → Listing
rows_of channels s = rows_from (length s) channels s 0

abbrev pub counts : Listing → Option Counts
counts (listed xs k) = Some (record { rows = length xs; filled = k })
counts broken = None
