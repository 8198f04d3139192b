-- The cycle of the readers. Each call has less enclosing depth or fewer bytes left, or is of a part below: that is the measure.
-- Assumes nothing.
use Rattle.std.proofs.Common.{ℕ, List, ◌+◌, ◌-◌, ◌*◌, length, Some}
use Rattle.grammar.specs.declared.Part.{Part}
use Rattle.grammar.specs.declared.Part.TheVariants.{Alternative, Conjunction, Bind, Unary}
use Rattle.grammar.specs.Reading.{part_at}
use Rattle.requirements.proofs.Readers.{Turning, bytes_left}
use Rattle.requirements.proofs.+readers.Given as goal

-- the enclosing depth and the bytes that are left at a place
abbrev pub left : ℕ → List ℕ → ℕ → ℕ
left depth s at = depth + (length s - at)

-- a part is made of those below it
abbrev pub level : Part → ℕ
level Alternative = 6
level Conjunction = 4
level Bind = 2
level Unary = 1

abbrev pub decreases-read_part : goal.decreases-read_part
decreases-read_part l = left l.depth l.s.now l.at * 8 + level l.part

abbrev pub decreases-read_grouped : goal.decreases-read_grouped
decreases-read_grouped l = left l.depth l.s.now l.at * 8 + level l.part + 1

abbrev pub decreases-read_bind : goal.decreases-read_bind
decreases-read_bind l = left l.depth l.s.now l.at * 8 + 1

abbrev pub decreases-read_unary : goal.decreases-read_unary
decreases-read_unary l = left l.depth l.s.now l.at * 8

-- the parts that were read so far
abbrev pub invariant-read_grouped-loop-next : goal.invariant-read_grouped-loop-next
invariant-read_grouped-loop-next l = Turning (part_at l.part l.depth) l.kind l.free l.s l.at (part_at l.part l.depth l.s l.at) l.fn.cells (Some l.left) l.cells

abbrev pub decreases-read_grouped-loop-next : goal.decreases-read_grouped-loop-next
decreases-read_grouped-loop-next l = bytes_left l.s (Some l.left)
