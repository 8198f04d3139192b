-- The line's own room, and its requirement's number.
-- Assumes nothing.
use Rattle.outcome_lines.proofs.Room.{numbered_few}
use Rattle.outcome_lines.proofs.numbered_line.Goals as goal

pub returns-clause-room : goal.returns-clause-room
returns-clause-room g c = numbered_few _ _ c.requires c.line.ensures.room
