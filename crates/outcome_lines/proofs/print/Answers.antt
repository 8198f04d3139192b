-- What a text got, with its numbers.
-- Assumes nothing.
use Rattle.outcome_lines.proofs.print.Goals as goal

pub returns-clause-result_value : goal.returns-clause-result_value
returns-clause-result_value g c = rw c.numbered.ensures at c.text_lines.ensures.result_value

pub returns-clause-room : goal.returns-clause-room
returns-clause-room g c = rw c.numbered.ensures at c.text_lines.ensures.room
