-- The lines are whole in a buffer of their own; from there they are one word.
-- Assumes nothing.
use Rattle.std.proofs.Common.{◌∙◌}
use Rattle.printing.proofs.Printed.{blank_says}
use Rattle.outcome_lines.specs.Printed.{LINES}
use Rattle.outcome_lines.proofs.lines.Goals as goal

pub returns-clause-result_value : goal.returns-clause-result_value
returns-clause-result_value c =
    let e = rw c.new-lines.ensures at c.text_lines.ensures.result_value in
    rw (c.as_slice.ensures ∙ blank_says LINES _ e c.text_lines.ensures.room) at c.word.ensures
