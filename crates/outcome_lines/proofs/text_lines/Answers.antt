-- By the whole text's number.
-- Assumes nothing.
use Rattle.std.proofs.Common.{◌≡◌, length, ap, ◌∙◌, arith, rules}
use Rattle.printing.specs.Output.{printed}
use Rattle.outcomes.specs.Outcome.{text_of}
use Rattle.outcomes.proofs.Padded.{first_taken}
use Rattle.outcome_lines.specs.Printed.{entry_lines}
use Rattle.outcome_lines.proofs.Several.{lines_refused, lines_judged}
use Rattle.outcome_lines.proofs.text_lines.Goals as goal

pub returns-then-all-ne0-clause-result_value : goal.returns-then-all-ne0-clause-result_value
returns-then-all-ne0-clause-result_value g c = c.refusal_line.ensures.result_value ∙ ap (printed _) (lines_refused (text_of c.args.all) c.if-all-ne0.true)

pub returns-then-all-ne0-clause-room : goal.returns-then-all-ne0-clause-room
returns-then-all-ne0-clause-room g c = rw (← lines_refused (text_of c.args.all) c.if-all-ne0.true) (omega (arith, c.refusal_line.ensures.room))

pub returns-clause-result_value : goal.returns-clause-result_value
returns-clause-result_value g c =
    let a = c.args.all in
    let long : length a.entries ≡ 16 = search rules in
    let few = first_taken a.entries a.count _ long c.min.ensures in
    c.entry_lines.ensures.result_value ∙ ap (printed _) (ap entry_lines few ∙ lines_judged (text_of a) c.if-all-ne0.false)

pub returns-clause-room : goal.returns-clause-room
returns-clause-room g c =
    let a = c.args.all in
    let long : length a.entries ≡ 16 = search rules in
    let few = first_taken a.entries a.count _ long c.min.ensures in
    rw (← lines_judged (text_of a) c.if-all-ne0.false, ← few) c.entry_lines.ensures.room
