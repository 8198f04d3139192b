-- The line of a head that has one number, read at a place.
-- Assumes nothing.
use Rattle.std.specs.Prelude.{ℕ, List, Option, None}
use Rattle.text.specs.Bytes.{bytes}
use Rattle.text.specs.Mark.{mark_at, after, read}
use Rattle.text.specs.Number.{largest, field_at, after_number}
use Rattle.text.specs.declared.Read.{Read}

-- the line of a key and a number at a place
unfoldable pub number_line_at : List ℕ → List ℕ → ℕ → Option (Read ℕ)
number_line_at key s at = after_number (field_at key s at largest) (λ v e. after (mark_at (bytes "\n") s e) (λ n. read v n) None) None
