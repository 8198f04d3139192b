-- The requirement lines of a text, read from a place on. `Exact` in proofs/ shows that they are read exactly where the form of Form.antt stands.
-- Assumes nothing.
use Rattle.std.specs.Prelude.{ℕ, zero, suc, ◌+◌, cond, List, [], ◌∷◌, Option, None, length, drop, eqb}
use Rattle.text.specs.Bytes.{bytes}
use Rattle.text.specs.Mark.{key_at, mark_at, after, read}
use Rattle.text.specs.declared.Read.{Read}
use Rattle.lines.specs.Reading.{also}
use Rattle.requirement_lines.specs.declared.Place.{Place}
use Rattle.requirement_lines.specs.declared.Requirements.{Requirements}
use Rattle.requirement_lines.specs.Form.{sixteen}

-- the bytes before the first line feed
unfoldable pub until_feed : List ℕ → List ℕ
until_feed [] = []
until_feed (b ∷ s) = cond (eqb b 10) [] (b ∷ until_feed s)

abbrev pub placed_line : ℕ → ℕ → ℕ → Option (Read Place)
placed_line from to n = read (record { from = from; to = to }) n

-- the requirement's line at a place
unfoldable pub requirement_at : List ℕ → ℕ → Option (Read Place)
requirement_at s at =
    after (mark_at (bytes "req=") s at)
    (λ from. after (mark_at (bytes "\n") s (from + length (until_feed (drop from s)))) (λ n. placed_line from (from + length (until_feed (drop from s))) n) None)
    None

-- the places of the requirements whose lines follow one another from a place on, and the place behind them; none where a line lacks its line feed
abbrev pub Found : Type 0
Found = Option (Read (List Place))

-- up to f lines
unfoldable pub requirements_from : ℕ → List ℕ → ℕ → Found
requirements_from zero s at = read [] at
requirements_from (suc f) s at =
    cond (key_at (bytes "req=") s at) (after (requirement_at s at) (λ l. also l.value (requirements_from f s l.next)) None) (read [] at)

-- a line has a byte at least
abbrev pub requirements_at : List ℕ → ℕ → Found
requirements_at s at = requirements_from (length s) s at

-- as the reader hands them back: all are counted, sixteen are kept
abbrev pub stored : Found → Option (Read Requirements)
stored x = after x (λ r. read (record { count = length r.value; places = sixteen r.value }) r.next) None
