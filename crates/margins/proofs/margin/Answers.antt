-- A refusal changes no cell. Else the rows are filled, and the root's margin is read back from its row.
-- Assumes nothing.
use Rattle.std.proofs.Common.{sym, ap, ◌∙◌, ◌*◌, ◌≤◌, length, arith}
use Rattle.numbers.proofs.Bits.{back_ok}
use Rattle.recordings.specs.Card.{card_of, rows}
use Rattle.rules.specs.Refusals.{Sound}
use Rattle.refusals.proofs.Number.{handed_on}
use Rattle.margins.specs.Answers.{margin_outcome}
use Rattle.margins.proofs.Answers.{accepted, refused_outcome, accepted_outcome, cells_kept, cells_filled, root_inside, root_cell}
use Rattle.margins.proofs.margin.Goals as goal
use Rattle.margins.proofs.margin.Goals.{In_ok-refusal_of}

-- nothing is refused
fine : (c : In_ok-refusal_of) → Sound (card_of c.args.recording.now) c.args.table × (c.args.table.count * rows (card_of c.args.recording.now) ≤ length c.args.work.now)
fine c = accepted (card_of c.args.recording.now) c.args.table (length c.args.work.now) (sym c.in_ok-refusal_of.ensures)

pub returns-in_err-refusal_of-clause-answer : goal.returns-in_err-refusal_of-clause-answer
returns-in_err-refusal_of-clause-answer c =
    ap margin_outcome (handed_on c.from_residual.result c.from_residual.ensures.1) ∙ refused_outcome (card_of c.args.recording.now) c.args.table (length c.args.work.now) _ c.in_err-refusal_of.ensures

pub returns-in_err-refusal_of-clause-cells : goal.returns-in_err-refusal_of-clause-cells
returns-in_err-refusal_of-clause-cells c = cells_kept (card_of c.args.recording.now) c.args.table c.args.work.now _ c.in_err-refusal_of.ensures

pub fill_margins-requires : goal.fill_margins-requires
fill_margins-requires c = let f = fine (goal.at.fill_margins-requires c).In_ok-refusal_of in record { sound = f.0; room = f.1 }

pub overflow_sub-table : goal.overflow_sub-table
overflow_sub-table c = (fine (goal.at.overflow_sub-table c).In_ok-refusal_of).0.ruled.some_node

pub cell_at-requires : goal.cell_at-requires
cell_at-requires c =
    let f = fine (goal.at.cell_at-requires c).In_ok-refusal_of in
    omega (arith, c.fill_margins.auto.work, root_inside (card_of c.args.recording.now) c.args.table c.args.work.now f.0 f.1)

pub returns-clause-answer : goal.returns-clause-answer
returns-clause-answer c =
    let f = fine (goal.at.returns-clause-answer c).In_ok-refusal_of in
    accepted_outcome (card_of c.args.recording.now) c.args.table (length c.args.work.now) _ c.in_ok-refusal_of.ensures
    (back_ok _ c.cell_at.type_inv ∙ c.cell_at.ensures ∙ root_cell (card_of c.args.recording.now) c.args.table c.args.work.now f.0 f.1 c.fill_margins.ensures)

pub returns-clause-cells : goal.returns-clause-cells
returns-clause-cells c = cells_filled (card_of c.args.recording.now) c.args.table c.args.work.now (sym c.in_ok-refusal_of.ensures) c.fill_margins.ensures
