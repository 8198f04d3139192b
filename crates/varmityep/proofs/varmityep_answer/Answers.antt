-- An output of `LINES` bytes holds all lines, and that is what is written.
-- Assumes nothing.
use Rattle.std.proofs.Common.{◌≡◌, length, replicate, ap, ◌∙◌}
use Rattle.printing.proofs.Printed.{front_says}
use Rattle.outcome_lines.specs.Printed.{LINES, lines_of}
use Rattle.answers.specs.Answers.{answers_of}
use Rattle.varmityep.proofs.varmityep_answer.Goals as goal
use Rattle.varmityep.proofs.varmityep_answer.Goals.{After-as_slice-whole}

whole : (c : After-as_slice-whole) → c.as_slice-whole.result.now ≡ lines_of (answers_of c.args.text.now)
whole c = let a = c.printed_answers-printed.ensures in c.as_slice-whole.ensures ∙ (front_says (replicate LINES 0) _ a.result_value a.room).1

pub returns-clause-length : goal.returns-clause-length
returns-clause-length c = ap length (whole (goal.at.returns-clause-length c).After-as_slice-whole)

pub returns-clause-lines : goal.returns-clause-lines
returns-clause-lines c = rw (whole (goal.at.returns-clause-lines c).After-as_slice-whole) at c.write_front.ensures
