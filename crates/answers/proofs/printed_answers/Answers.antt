-- The answers, then their lines.
-- Assumes nothing.
use Rattle.answers.proofs.printed_answers.Goals as goal

pub returns-clause-result_value : goal.returns-clause-result_value
returns-clause-result_value c = rw (c.new-out.ensures, c.answers.ensures) at c.print.ensures.result_value
