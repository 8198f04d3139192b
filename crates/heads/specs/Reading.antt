-- The head of a text, read line by line. `Exact` in proofs/ shows that it is read exactly where the form of Form.antt stands.
-- Assumes nothing.
use Rattle.std.specs.Prelude.{ℕ, List, Option, None}
use Rattle.text.specs.Bytes.{bytes}
use Rattle.text.specs.Mark.{after, read}
use Rattle.text.specs.declared.Read.{Read}
use Rattle.number_lines.specs.Reading.{number_line_at}
use Rattle.scale_lines.specs.Reading.{scales_at}
use Rattle.predicate_lines.specs.Reading.{lines_at}
use Rattle.heads.specs.declared.Head.{Head}

-- a head, and the place of the line behind it
abbrev pub head_place : Head → ℕ → Option (Read Head)
head_place h n = read h n

-- the head of a text
unfoldable pub head_of : List ℕ → Option (Read Head)
head_of s =
    after (number_line_at (bytes "chan=") s 0)
    (λ ch. after (scales_at s ch.next ch.value)
    (λ cs. after (lines_at s cs.next)
    (λ ps. after (number_line_at (bytes "step=") s ps.next)
    (λ step. after (number_line_at (bytes "drift=") s step.next)
    (λ drift. head_place (record { setup = record { channels = ch.value; scales = cs.value; predicates = ps.value }; step = step.value; drift = drift.value }) drift.next)
    None)
    None)
    None)
    None)
    None
