-- By the outcome's number.
-- Assumes nothing.
use Rattle.std.proofs.Common.{ap, ◌∙◌}
use Rattle.printing.specs.Output.{printed}
use Rattle.outcome_lines.proofs.Room.{line_refused, line_judged}
use Rattle.outcome_lines.proofs.line.Goals as goal

pub returns-then-outcome-ne0-clause-result_value : goal.returns-then-outcome-ne0-clause-result_value
returns-then-outcome-ne0-clause-result_value g c = c.refusal_line.ensures.result_value ∙ ap (printed _) (line_refused c.args.outcome c.if-outcome-ne0.true)

pub returns-then-outcome-ne0-clause-room : goal.returns-then-outcome-ne0-clause-room
returns-then-outcome-ne0-clause-room g c = rw (← line_refused c.args.outcome c.if-outcome-ne0.true) c.refusal_line.ensures.room

pub returns-clause-result_value : goal.returns-clause-result_value
returns-clause-result_value g c = c.figures_line.ensures.result_value ∙ ap (printed _) (line_judged c.args.outcome c.if-outcome-ne0.false)

pub returns-clause-room : goal.returns-clause-room
returns-clause-room g c = rw (← line_judged c.args.outcome c.if-outcome-ne0.false) c.figures_line.ensures.room
