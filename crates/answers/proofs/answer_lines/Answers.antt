-- The lines are whole in a buffer of their own; from there they are one word.
-- Assumes nothing.
use Rattle.std.proofs.Common.{◌∙◌}
use Rattle.printing.proofs.Printed.{blank_says}
use Rattle.outcome_lines.specs.Printed.{LINES}
use Rattle.answers.proofs.answer_lines.Goals as goal

pub returns-clause-result_value : goal.returns-clause-result_value
returns-clause-result_value c =
    let whole = c.printed_answers-lines.ensures in
    rw (c.as_slice.ensures ∙ blank_says LINES _ whole.result_value whole.room) at c.word.ensures
