-- The sheet of a text, read part by part. `Exact` in proofs/ shows that it has number 0 exactly where the form of Form.antt stands, with that form's contents.
-- Assumes nothing.
use Rattle.std.specs.Prelude.{ℕ, Bool, not, cond, ◌&&◌, List, Option, length, drop, leb, ltb}
use Rattle.refusals.specs.First.{unless_refused}
use Rattle.text.specs.Mark.{after}
use Rattle.text.specs.declared.Read.{Read}
use Rattle.row_lines.specs.Reading.{limit, channels_in_range, is_broken, rows_of}
use Rattle.heads.specs.declared.Head.{Head}
use Rattle.heads.specs.Reading.{head_of}
use Rattle.requirement_lines.specs.declared.Requirements.{Requirements}
use Rattle.requirement_lines.specs.Form.{MOST_REQUIREMENTS}
use Rattle.requirement_lines.specs.Reading.{requirements_at, stored}
use Rattle.sheets.specs.Form.{SheetAnswer, blank}

-- the lines from a place on are rows, or are unread
abbrev pub rows_kept : List ℕ → ℕ → ℕ → Bool
rows_kept s at channels = not (channels_in_range channels && is_broken (rows_of channels (drop at s)))

-- there is one requirement at least, and what follows their lines is in order
abbrev pub lines_kept : List ℕ → Head → Read Requirements → Bool
lines_kept s h rs = leb 1 rs.value.count && rows_kept s rs.next h.setup.channels

-- the first refusal that applies: 1 for the whole text before 12
abbrev pub sheet_refusal : Bool → ℕ → ℕ
sheet_refusal kept count = cond kept (cond (leb count MOST_REQUIREMENTS) 0 12) 1

-- the sheet by what follows the head; requirements' lines of which one lacks its line feed give none
unfoldable pub behind_head : List ℕ → Head → Option (Read Requirements) → SheetAnswer
behind_head s h x =
    after x
    (λ rs. unless_refused (sheet_refusal (lines_kept s h rs) rs.value.count)
    (record { number = 0; head = h; count = rs.value.count; requirements = rs.value.places; rows = rs.next })
    (blank (sheet_refusal (lines_kept s h rs) rs.value.count)))
    (blank 1)

-- the sheet of a text; a text that is too long, or whose lines are not the ones due, gives none
unfoldable pub sheet_of : List ℕ → SheetAnswer
sheet_of s =
    cond (ltb limit (length s)) (blank 1)
    (after (head_of s) (λ h. behind_head s h.value (stored (requirements_at s h.next))) (blank 1))
