-- By whether there is one requirement.
-- Assumes nothing.
use Rattle.std.proofs.Common.{◌≡◌, List, length, get_or, ap, ◌∙◌, arith}
use Rattle.printing.specs.Output.{printed}
use Rattle.outcomes.specs.declared.Outcome.{Outcome}
use Rattle.outcome_lines.specs.Printed.{line_of, entry_lines}
use Rattle.outcome_lines.proofs.Several.{entry_at, lines_single, lines_several}
use Rattle.outcome_lines.proofs.entry_lines.Goals as goal

-- of one outcome
single : (xs : List Outcome) (d : Outcome) → length xs ≡ 1 → line_of (get_or xs 0 d) ≡ entry_lines xs
single xs d h = ap line_of (entry_at xs 0 d (omega (arith, h))) ∙ lines_single xs h

pub returns-then-entries-ne1-clause-result_value : goal.returns-then-entries-ne1-clause-result_value
returns-then-entries-ne1-clause-result_value g c = c.numbered_lines.ensures.result_value ∙ ap (printed _) (lines_several c.args.entries.now c.if-entries-ne1.true)

pub returns-then-entries-ne1-clause-room : goal.returns-then-entries-ne1-clause-room
returns-then-entries-ne1-clause-room g c = rw (← lines_several c.args.entries.now c.if-entries-ne1.true) c.numbered_lines.ensures.room

pub returns-clause-result_value : goal.returns-clause-result_value
returns-clause-result_value g c = c.line.ensures.result_value ∙ ap (printed _) (single c.args.entries.now _ c.if-entries-ne1.false)

pub returns-clause-room : goal.returns-clause-room
returns-clause-room g c =
    let room = rw (single c.args.entries.now _ c.if-entries-ne1.false) at c.line.ensures.room in
    omega (arith, room)
