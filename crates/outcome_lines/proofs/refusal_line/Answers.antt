-- A refusal's number has 64 bits.
-- Assumes nothing.
use Rattle.std.proofs.Common.{rules}
use Rattle.outcome_lines.proofs.Room.{refusal_few}
use Rattle.outcome_lines.proofs.refusal_line.Goals as goal

pub returns-clause-room : goal.returns-clause-room
returns-clause-room g c = refusal_few c.args.number (search rules)
