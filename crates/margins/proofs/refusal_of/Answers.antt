-- Refusals 3 to 7 come first, and where none of them applies the count of cells can be taken.
-- Assumes nothing.
use Rattle.std.proofs.Common.{sym, ap, ◌∙◌, arith}
use Rattle.recordings.specs.Card.{card_of}
use Rattle.refusals.specs.Number.{number_of}
use Rattle.refusals.proofs.Number.{not_none, handed_on}
use Rattle.rules.proofs.Refusals.{sound}
use Rattle.margins.proofs.Answers.{refusal_early, refusal_room, refusal_none, few_cells}
use Rattle.margins.proofs.refusal_of.Goals as goal

pub returns-in_err-refusal : goal.returns-in_err-refusal
returns-in_err-refusal c =
    let e = c.in_err-refusal.ensures in
    ap number_of (handed_on c.from_residual.result c.from_residual.ensures.1) ∙ e ∙ sym (refusal_early (card_of c.args.recording.now) c.args.table c.args.cells (λ z. not_none _ (e ∙ z)))

pub overflow_mul-table : goal.overflow_mul-table
overflow_mul-table c = let f = few_cells (sound (card_of c.args.recording.now) c.args.table (sym c.in_ok-refusal.ensures)) in omega arith

pub returns-then-cells-table : goal.returns-then-cells-table
returns-then-cells-table c = sym (refusal_room (card_of c.args.recording.now) c.args.table c.args.cells (sym c.in_ok-refusal.ensures) c.if-cells-table.true)

pub returns : goal.returns
returns c = sym (refusal_none (card_of c.args.recording.now) c.args.table c.args.cells (sym c.in_ok-refusal.ensures) c.if-cells-table.false)
